-- One step, by its refusal: what was handed in where there is none, and the answer, the record and the buffer with and without one.
-- Assumes nothing.
use Prim.Native.Nat.{ℕ}
use mathlib.Core.Path.{◌≡◌, refl, sym, ◌∙◌}
use mathlib.Core.List.{List}
use lib.ListN.{length}
use borrow.Author.Tests.{eq-eqb, ne_eqb}
use Rattle.model.specs.declared.Answer.{Answer}
use Rattle.model.specs.declared.Bus.{Bus}
use Rattle.model.specs.Refusal.{success}
use Rattle.model.specs.Protocol.{serve_turn, next_bus}
use Rattle.model.specs.Answers.{step_refusal, step_answer, step_bus, step_buffer}
use Rattle.model.proofs.Sheet.Refusals.{or_else_on, or_else_stop}
use Rattle.model.proofs.Answers.NotRefused.{StepAccepted}
use Rattle.queue.specs.Queue.{ValidNode}

-- A step that is not refused is of a node of the sheet.
pub step_node : {s log : List ℕ} {bus : Bus} {room : ℕ} → StepAccepted s log bus room → ValidNode s bus.node
step_node ok = record { valid = ok.valid; from = ok.node_from; up_to = ok.node_to }

-- What a step answers and leaves.
pub record Outcome (s log : List ℕ) (bus : Bus) (room : List ℕ) (answer : Answer) (after : Bus) (buffer : List ℕ) : Type 0 where
  pub answered : answer ≡ step_answer s log bus room
  pub recorded : after ≡ step_bus s log bus room
  pub written : buffer ≡ step_buffer s log bus room

module _ (s log : List ℕ) (bus : Bus) (room : List ℕ) where
  -- A refusal is the answer, and the record and the buffer stay.
  pub step_refused_lem : {refusal : Answer}
      → refusal ≡ step_refusal s log bus (length room)
      → (refusal.number ≡ 0 → ⊥)
      → Outcome s log bus room refusal bus room
  unfolding step_answer step_bus step_buffer
  step_refused_lem {refusal} same refuses =
      let not_none : (step_refusal s log bus (length room)).number ≡ 0 → ⊥ = λ e. refuses (rw same e) in
      let test = ne_eqb (step_refusal s log bus (length room)).number 0 not_none in
      record {
        answered = same ∙ sym (or_else_stop (step_refusal s log bus (length room)) _ not_none);
        recorded = rw test refl;
        written = rw test refl;
      }

  -- With no refusal the turn is served.
  pub step_served : (step_refusal s log bus (length room)).number ≡ 0
      → Outcome s log bus room
      (success (serve_turn s log bus room).taken (next_bus s bus (serve_turn s log bus room).taken).tick)
      (next_bus s bus (serve_turn s log bus room).taken)
      (serve_turn s log bus room).begins
  unfolding step_answer step_bus step_buffer
  step_served none =
      let test = eq-eqb (step_refusal s log bus (length room)).number 0 none in
      record {
        answered = sym (or_else_on (step_refusal s log bus (length room)) _ none);
        recorded = rw test refl;
        written = rw test refl;
      }
