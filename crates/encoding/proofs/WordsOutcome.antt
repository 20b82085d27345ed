-- The table of words after a piece, refused and not. Assumes nothing.
use Prim.Native.Nat.{ℕ, ◌-◌, ◌≤◌}
use native.Mathlib.Omega.{arith}
use mathlib.Core.Path.{◌≡◌, refl, sym, ap, ◌∙◌}
use mathlib.Core.List.{List, map}
use lib.ListN.{length, replicate, length-append, length-map, length-replicate}
use lib.Dec.{eqb}
use borrow.Author.Tests.{eq-eqb, ne_eqb}
use Rattle.theory.proofs.Holding.{holding_few}
use Rattle.model.specs.declared.Answer.{Answer}
use Rattle.model.specs.Limits.{max_waiting, not_begun}
use Rattle.model.specs.Sheet.{word}
use Rattle.model.specs.Protocol.{releases, release_tick, release_stream, none_begun}
use Rattle.model.proofs.Sheet.Refusals.{or_else_on, or_else_both}
use Rattle.model.proofs.Protocol.Run.{run_length}
use Rattle.model.specs.Trace.{unbegun}
use Rattle.pieces.specs.declared.Checkpoint.{Checkpoint}
use Rattle.pieces.specs.Pieces.{open_log, open_numbers, in_places, piece_end, piece_checkpoint, resume_refusal, resume_answer, resume_checkpoint, Outcome, Continues}
use Rattle.encoding.specs.Words.{checkpoint_in, checkpoint_words, resume_words, ContinuesIn}
use Rattle.pieces.proofs.Taken.{piece_taken}
use Rattle.pieces.proofs.Opened.{open_count}
use Rattle.encoding.proofs.RecordWords.{record_kept}

-- So many words in places fill them all.
places_full : (f : ℕ → ℕ) (xs : List ℕ) → length xs ≤ max_waiting → length (in_places (map f xs)) ≡ max_waiting
places_full f xs few =
    length-append (map f xs) (replicate (max_waiting - length (map f xs)) 0)
    ∙ omega (arith, few, length-map xs f, length-replicate {A = ℕ} (max_waiting - length (map f xs)) 0)

module _ (s : List ℕ) (c : Checkpoint) (piece : List ℕ) (horizon room : ℕ) where
  -- Those that wait after a piece that is not refused have places.
  left_few : (resume_refusal s c piece horizon room).number ≡ 0 → length (unbegun (piece_end s c piece horizon).begins) ≤ max_waiting
  unfolding piece_end
  left_few ok =
      let log : List ℕ = open_log c piece in
      let long = run_length s log horizon horizon (none_begun log c.bus) ∙ length-replicate (releases log) not_begun in
      omega (
        arith,
        holding_few (λ i. eqb (word (piece_end s c piece horizon).begins i) not_begun) (length (piece_end s c piece horizon).begins),
        long,
        open_count c piece,
        (piece_taken s c piece horizon room ok).fits,
      )

  -- The record that it hands back stands in its words.
  handed_back : (resume_refusal s c piece horizon room).number ≡ 0 → checkpoint_in (checkpoint_words (piece_checkpoint s c piece horizon)) ≡ piece_checkpoint s c piece horizon
  unfolding piece_checkpoint
  handed_back ok =
      let few = left_few ok in
      let left : List ℕ = unbegun (piece_end s c piece horizon).begins in
      let log : List ℕ = open_log c piece in
      record_kept (piece_checkpoint s c piece horizon) (places_full (word (open_numbers c piece)) left few) (places_full (release_tick log) left few)
      (places_full (release_stream log) left few)

  -- An answer that refuses is a refusal's,
  refuses : {answer : Answer} → answer ≡ resume_answer s c piece horizon room → (answer.number ≡ 0 → ⊥) → (resume_refusal s c piece horizon room).number ≡ 0 → ⊥
  unfolding resume_answer
  refuses is not ok = not (ap (λ a. a.number) (is ∙ or_else_on (resume_refusal s c piece horizon room) _ ok))

  -- and one that does not is none's.
  passes : {answer : Answer} → answer ≡ resume_answer s c piece horizon room → answer.number ≡ 0 → (resume_refusal s c piece horizon room).number ≡ 0
  unfolding resume_answer
  passes is ok = (or_else_both (resume_refusal s c piece horizon room) _ (sym (ap (λ a. a.number) is) ∙ ok)).0

module _ (s words piece : List ℕ) (horizon room : ℕ) where
  -- A refusal leaves the table.
  pub table_kept : {answer : Answer}
      → answer ≡ resume_answer s (checkpoint_in words) piece horizon room
      → (answer.number ≡ 0 → ⊥)
      → words ≡ resume_words s words piece horizon room
  unfolding resume_words
  table_kept is not =
      let c : Checkpoint = checkpoint_in words in
      rw (ne_eqb (resume_refusal s c piece horizon room).number 0 (refuses s c piece horizon room is not)) refl

  -- What was run stands in the table, and goes on.
  pub table_run : (buffer : List ℕ) {r : Outcome} {after : List ℕ}
      → r.answer ≡ resume_answer s (checkpoint_in words) piece horizon room
      → r.answer.number ≡ 0
      → r.checkpoint ≡ resume_checkpoint s (checkpoint_in words) piece horizon room
      → after ≡ checkpoint_words r.checkpoint
      → Continues s (checkpoint_in words) piece r buffer
      → (after ≡ resume_words s words piece horizon room) × ContinuesIn s words piece r.answer after buffer
  unfolding resume_words resume_checkpoint
  table_run buffer {r} {after} is ok made written onward =
      let c : Checkpoint = checkpoint_in words in
      let none = passes s c piece horizon room is ok in
      let test = eq-eqb (resume_refusal s c piece horizon room).number 0 none in
      let piece_is : r.checkpoint ≡ piece_checkpoint s c piece horizon = made ∙ rw test refl in
      let back : checkpoint_in after ≡ r.checkpoint =
      ap checkpoint_in (written ∙ ap checkpoint_words piece_is) ∙ handed_back s c piece horizon room none ∙ sym piece_is in (
        written ∙ ap checkpoint_words piece_is ∙ rw test refl,
        λ log told here accepted. rw back (onward log told here accepted),
      )
