-- The replay, by its refusal: what was handed in where there is none, and the answer and the buffer with and without one.
-- Assumes nothing.
use Prim.Native.Nat.{ℕ}
use mathlib.Core.Path.{◌≡◌, refl, sym, ◌∙◌, ap}
use mathlib.Core.List.{List, ◌++◌}
use lib.ListN.{length, drop}
use borrow.Author.Tests.{ne_eqb}
use Rattle.model.specs.declared.Answer.{Answer}
use Rattle.model.specs.declared.Bus.{Bus}
use Rattle.model.specs.Refusal.{success, ◌or_else◌}
use Rattle.model.specs.Protocol.{releases, replayed}
use Rattle.model.specs.Answers.{buffer_after, replay_answer, replay_buffer}
use Rattle.model.proofs.Sheet.Refusals.{or_else_on, or_else_stop, or_else_assoc}
use Rattle.model.proofs.Sheet.ValidSheet.{valid_fits}
use Rattle.model.proofs.Answers.NotRefused.{ReplayAccepted, replay_accepted, replay_answers}
use Rattle.model.proofs.Protocol.Run.{replayed-length}
use Rattle.model.proofs.Demand.ReplayDemand.{replay_demand}
use Rattle.model.specs.Demand.{WholeReplay}
use Rattle.logs.specs.Replay.{replay_refusal}

-- What the replay answers and writes.
pub record ReplayOutcome (s log : List ℕ) (horizon : ℕ) (room : List ℕ) (answer : Answer) (buffer : List ℕ) : Type 0 where
  pub answered : answer ≡ replay_answer s log horizon (length room)
  pub written : buffer ≡ replay_buffer s log horizon room

module _ (s log : List ℕ) (horizon : ℕ) (room : List ℕ) where
  answer_by : replay_answer s log horizon (length room)
      ≡ replay_refusal s log horizon (length room)
      or_else success (replayed s log horizon).bus.turns (replayed s log horizon).bus.tick
  unfolding replay_answer replay_refusal
  answer_by = simp or_else_assoc

  -- Where nothing is refused, the replay answers number 0.
  pub replay_checked : (replay_refusal s log horizon (length room)).number ≡ 0 → ReplayAccepted s log horizon (length room)
  replay_checked none =
      replay_accepted (ap (λ a. a.number) (answer_by ∙ or_else_on (replay_refusal s log horizon (length room)) _ none))

  -- A refusal is the answer, and the buffer stays.
  pub replay_refused : {refusal : Answer}
      → refusal ≡ replay_refusal s log horizon (length room)
      → (refusal.number ≡ 0 → ⊥)
      → ReplayOutcome s log horizon room refusal room
  unfolding replay_buffer buffer_after
  replay_refused {refusal} same refuses =
      let none : (replay_refusal s log horizon (length room)).number ≡ 0 → ⊥ = λ e. refuses (rw same e) in
      let answered = same ∙ sym (or_else_stop (replay_refusal s log horizon (length room)) _ none) ∙ sym answer_by in
      record { answered = answered; written = rw (← answered, ne_eqb refusal.number 0 refuses) refl }

  -- With no refusal the run is the answer, and its begin ticks stand in the buffer's front.
  replay_ran : (replay_refusal s log horizon (length room)).number ≡ 0
      → ReplayOutcome s log horizon room
      (success (replayed s log horizon).bus.turns (replayed s log horizon).bus.tick)
      ((replayed s log horizon).begins ++ drop (releases log) room)
  unfolding replay_buffer buffer_after
  replay_ran none =
      let ok = replay_checked none in
      let exact = replayed-length s log horizon (valid_fits s ok.valid).header.slot_from in
      let answered = sym (replay_answers ok) in
      record { answered = answered; written = rw (← answered, exact) refl }

  -- The same for a program that holds the record and the words of that run.
  pub replay_done : {bus : Bus} {after : List ℕ}
      → (replay_refusal s log horizon (length room)).number ≡ 0
      → bus ≡ (replayed s log horizon).bus
      → after ≡ (replayed s log horizon).begins ++ drop (releases log) room
      → ReplayOutcome s log horizon room (success bus.turns bus.tick) after
  replay_done {bus} {after} none ended words = rw (ended, words) (replay_ran none)

-- Demand 3, about what the replay answers and writes.
pub outcome_demand : (s log : List ℕ) (horizon : ℕ) (room : List ℕ) {answer : Answer} {buffer : List ℕ}
    → ReplayOutcome s log horizon room answer buffer
    → answer.number ≡ 0
    → WholeReplay s log horizon answer.second answer.third buffer
outcome_demand s log horizon room {answer} {buffer} outcome e =
    rw (outcome.answered, outcome.written) (replay_demand s log horizon room (rw outcome.answered at e))
