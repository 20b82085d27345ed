-- When two sheets are alike for a node, and what then holds of their answers. Rule 3.8. Assumes nothing.
use Rattle.std.specs.Prelude.{ℕ, ◌≤◌, ◌≡◌, List}
use Rattle.model.specs.Sheet.{nodes, message_ticks, slot_ticks, budget, Valid}
use Rattle.model.specs.Analysis.{streams_of}
use Rattle.model.specs.Answers.{one_stream_answer}

-- Two sheets are "alike in n, TMS, TPR, budgets and guest streams", where node k is the guest. Of the other nodes nothing but the budgets is
-- the same: each may have other streams, more or fewer.
pub record Alike (s t : List ℕ) (k : ℕ) : Type 0 where
  pub same_nodes : nodes s ≡ nodes t
  pub same_message : message_ticks s ≡ message_ticks t
  pub same_slot : slot_ticks s ≡ slot_ticks t
  pub same_budgets : (i : ℕ) → 1 ≤ i → i ≤ nodes s → budget s i ≡ budget t i
  pub same_streams : streams_of s k ≡ streams_of t k

-- They give "the same one-stream answers" on the streams of node k: each "wait, J and late mark", and refusal 8 for the same numbers.
abbrev pub SameAnswers : List ℕ → List ℕ → ℕ → Type 0
SameAnswers s t k = (j : ℕ) → one_stream_answer s k j ≡ one_stream_answer t k j

-- Independence: "Two valid sheets alike in n, TMS, TPR, budgets and guest streams give the same one-stream answers on those streams."
abbrev pub Independence : Type 0
Independence = (s t : List ℕ) (k : ℕ) → Valid s → Valid t → Alike s t k → SameAnswers s t k
