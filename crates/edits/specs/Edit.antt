-- The edit of one stream on a lent sheet: the words after it, what is answered, and what stays, for every input. Rules 4.9, 4.10, 6.1, 7.1 and 7.2.
-- Assumes nothing.
use Rattle.std.specs.Prelude.{ℕ, ◌≡◌, cond, not, List, [], ◌∷◌, eqb}
use Rattle.theory.specs.Listing.{replaced_at}
use Rattle.model.specs.declared.Answer.{Answer}
use Rattle.model.specs.Refusal.{success, refuse, refuse_if, ◌or_else◌}
use Rattle.model.specs.Sheet.{stream_at, times_outside, sheet_refusal}
use Rattle.model.specs.Answers.{unknown_refusal}
use Rattle.edits.specs.Alike.{SameAnswers}

-- "An edit names our node, a node, a stream and three words": its new period, deadline and jitter.
pub record Edit : Type 0 where
  pub own : ℕ
  pub node : ℕ
  pub stream : ℕ
  pub period : ℕ
  pub deadline : ℕ
  pub jitter : ℕ

-- The six numbers of the entry, in its order.
abbrev pub edit_of : ℕ → ℕ → ℕ → ℕ → ℕ → ℕ → Edit
edit_of own node stream period deadline jitter =
    record { own = own; node = node; stream = stream; period = period; deadline = deadline; jitter = jitter }

-- The sheet with "that stream's period, deadline and jitter" set, and "nothing else".
abbrev pub edited : List ℕ → Edit → List ℕ
edited s e = replaced_at s (stream_at s e.node e.stream) (e.period ∷ e.deadline ∷ e.jitter ∷ [])

-- Refusal 13 "for another party's node": it is not ours. The place is the node and the stream as named.
unfoldable pub other_node_refusal : Edit → Answer
other_node_refusal e = refuse_if (not (eqb e.node e.own)) (refuse 13 e.node e.stream)

-- Refusal 5 "for the new words".
unfoldable pub new_words_refusal : Edit → Answer
new_words_refusal e = refuse_if (times_outside e.period e.deadline e.jitter) (refuse 5 e.node e.stream)

-- The answer to an edit: "1 to 5 for the old sheet, then 8, 13 for another party's node, then 5 for the new words". Success has no numbers.
unfoldable pub edit_answer : List ℕ → Edit → Answer
edit_answer s e =
    sheet_refusal s
    or_else unknown_refusal s e.node e.stream
    or_else other_node_refusal e
    or_else new_words_refusal e
    or_else success 0 0

-- The lent sheet after it: "any refusal changes no lent word".
unfoldable pub edit_sheet : List ℕ → Edit → List ℕ
edit_sheet s e = cond (eqb (edit_answer s e).number 0) (edited s e) s

-- "Every wait, J and late mark of the owner's nodes then stays as it was", for sheets before and after; the owner's nodes are all but ours.
abbrev pub OthersKept : List ℕ → List ℕ → ℕ → Type 0
OthersKept before after own = (k : ℕ) → (k ≡ own → ⊥) → SameAnswers before after k
