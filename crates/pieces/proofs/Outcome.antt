-- What a piece answers, hands back and leaves in the buffer, refused and not. Assumes nothing.
use Prim.Native.Nat.{ℕ}
use mathlib.Core.Path.{◌≡◌, refl, sym, ◌∙◌}
use mathlib.Core.List.{List, ◌++◌}
use lib.ListN.{length, drop}
use Rattle.model.specs.declared.Answer.{Answer}
use Rattle.model.specs.Refusal.{success}
use Rattle.model.specs.Protocol.{releases}
use Rattle.model.proofs.Sheet.Refusals.{or_else_on, or_else_stop}
use Rattle.model.proofs.Answers.Buffer.{buffer_written, buffer_kept}
use borrow.Author.Tests.{eq-eqb, ne_eqb}
use Rattle.pieces.specs.declared.Checkpoint.{Checkpoint}
use Rattle.pieces.specs.Pieces.{piece_end, piece_words, piece_checkpoint, resume_refusal, resume_answer, resume_checkpoint, resume_buffer, Outcome, Continues}
use Rattle.pieces.proofs.Step.{piece_represents}

module _ (s : List ℕ) (c : Checkpoint) (piece : List ℕ) (horizon : ℕ) (room : List ℕ) where
  -- What `resume` promises of its answer and of the buffer after it.
  abbrev Promised : Outcome → List ℕ → Type 0
  Promised r after =
      (r.answer ≡ resume_answer s c piece horizon (length room))
      × ((r.checkpoint ≡ resume_checkpoint s c piece horizon (length room))
      × ((after ≡ resume_buffer s c piece horizon room) × Continues s c piece r after))

  -- A refusal changes nothing.
  pub refused_outcome : {refusal : Answer}
      → refusal ≡ resume_refusal s c piece horizon (length room)
      → (refusal.number ≡ 0 → ⊥)
      → Promised (record { answer = refusal; checkpoint = c }) room
  unfolding resume_answer resume_checkpoint resume_buffer
  refused_outcome {refusal} is not =
      let other = rw is at not in (
        is ∙ sym (or_else_stop (resume_refusal s c piece horizon (length room)) _ other),
        (
          rw (ne_eqb (resume_refusal s c piece horizon (length room)).number 0 other) refl,
          (buffer_kept (resume_refusal s c piece horizon (length room)) (piece_words s c piece horizon) room other, λ log words here accepted. absurd (not accepted)),
        ),
      )

  -- What was run is answered, handed back and written.
  pub run_outcome : {r : Outcome} {after : List ℕ}
      → (resume_refusal s c piece horizon (length room)).number ≡ 0
      → (r.answer ≡ success (releases (piece_words s c piece horizon)) (piece_end s c piece horizon).bus.turns)
      × ((r.checkpoint ≡ piece_checkpoint s c piece horizon)
      × (after ≡ piece_words s c piece horizon ++ drop (length (piece_words s c piece horizon)) room))
      → Promised r after
  unfolding resume_answer resume_checkpoint resume_buffer
  run_outcome {r} {after} ok ran =
      let refusal : Answer = resume_refusal s c piece horizon (length room) in
      let answer = ran.0 ∙ sym (or_else_on refusal (success (releases (piece_words s c piece horizon)) (piece_end s c piece horizon).bus.turns) ok) in
      let checkpoint : r.checkpoint ≡ resume_checkpoint s c piece horizon (length room) = rw (eq-eqb refusal.number 0 ok) ran.1.0 in
      let buffer = ran.1.1 ∙ buffer_written refusal (piece_words s c piece horizon) room ok in (
        answer,
        (
          checkpoint,
          (
            buffer,
            λ log words here accepted.
                rw (answer, checkpoint, buffer) (piece_represents s log c words (record { log = piece; horizon = horizon; room = room }) here (rw answer at accepted)),
          ),
        ),
      )
