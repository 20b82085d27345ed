-- The text of what admit answered and left in its buffer is the program's. Assumes nothing.
use Prim.Native.Nat.{ℕ}
use mathlib.Core.Path.{◌≡◌, refl, sym, ap, ◌∙◌}
use mathlib.Core.Bool.{Bool, true, false}
use mathlib.Core.List.{List}
use lib.ListN.{length, drop}
use lib.Dec.{eqb}
use borrow.Author.Tests.{eqb-true, eqb-false}
use Rattle.model.specs.declared.Answer.{Answer}
use Rattle.model.specs.Sheet.{sheet_refusal, Valid}
use Rattle.model.specs.Answers.{listed_waits, buffer_after, admit_answer, admit_buffer}
use Rattle.model.proofs.Sheet.Refusals.{or_else_both}
use Rattle.model.proofs.Answers.Buffer.{buffer_written}
use Rattle.texts.specs.Text.{admit_text}
use Rattle.texts.proofs.Answered.{admitted, not_admitted}
use Rattle.texts.proofs.Front.{waits_front}
use Rattle.admit.specs.Output.{most_streams, answer_text}
use Rattle.model.proofs.Answers.WaitWords.{listed_length}

-- A sheet that is admitted is valid.
pub admits_valid : (s : List ℕ) (room : ℕ) → (admit_answer s room).number ≡ 0 → Valid s
unfolding admit_answer
admits_valid s room passes = (or_else_both (sheet_refusal s) _ passes).0

-- The table shows the listed waits, and a refusal no waits.
same_text : (s room : List ℕ) (a : Answer)
    → admit_text s (buffer_after a (listed_waits s) room) a ≡ admit_text s (listed_waits s) a
same_text s room a = go (eqb a.number 0) refl
  where
    go : (t : Bool) → eqb a.number 0 ≡ t → admit_text s (buffer_after a (listed_waits s) room) a ≡ admit_text s (listed_waits s) a
    go true e =
        let passes = eqb-true a.number 0 e in
        ap (λ waits. admit_text s waits a) (sym (buffer_written a (listed_waits s) room passes))
        ∙ sym (admitted s _ a passes)
        ∙ waits_front s (listed_waits s) (drop (length (listed_waits s)) room) a.second (listed_length s)
        ∙ admitted s (listed_waits s) a passes
    go false e =
        let refuses = eqb-false a.number 0 e in
        sym (not_admitted s _ a refuses) ∙ not_admitted s (listed_waits s) a refuses

pub answered : (s room : List ℕ) {a : Answer} {waits : List ℕ}
    → length room ≡ most_streams
    → a ≡ admit_answer s (length room)
    → waits ≡ admit_buffer s room
    → admit_text s waits a ≡ answer_text s
unfolding answer_text admit_buffer
answered s room size e f = rw (f, e, size) (same_text s room (admit_answer s most_streams))
