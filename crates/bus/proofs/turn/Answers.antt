-- `bus::turn` meets its contract: where the checks find nothing, the turn that is run is the step's. Assumes nothing.
use Rattle.std.proofs.Common.{rules}
use mathlib.Core.Path.{◌∙◌, ap, sym}
use native.Mathlib.Omega.{arith}
use Rattle.turns.proofs.TurnSteps.{taken_few}
use Rattle.model.proofs.Answers.NotRefused.{step_accepted}
use Rattle.refusals.proofs.Chains.{refuses}
use Rattle.bus.proofs.AcceptedLog.{log_rises}
use Rattle.bus.proofs.StepOutcome.{step_node, step_refused_lem, step_served}
use Rattle.bus.proofs.turn.Goals as goal

pub next_unbegun-from-requires : goal.next_unbegun-from-requires
next_unbegun-from-requires c =
    -- the checks found nothing
    let ok = step_accepted (sym (ap (λ a. a.number) c.in_default.ensures)) in
    (omega arith, omega (arith, ok.room_for))

pub arrived_by-to-requires : goal.arrived_by-to-requires
arrived_by-to-requires c =
    let ok = step_accepted (sym (ap (λ a. a.number) c.in_default.ensures)) in
    ((λ i low. log_rises _ _ ok.logged i), omega arith)

pub run_turn-taken-requires : goal.run_turn-taken-requires
run_turn-taken-requires c =
    let ok = step_accepted (sym (ap (λ a. a.number) c.in_default.ensures)) in
    let next = c.next_unbegun-from.ensures in
    let arrived = c.arrived_by-to.ensures.arrived in
    record {
      valid_node = (step_node ok, ok.tick_to, ok.room_for, omega arith);
      header_value = (
        c.header_of-header.ensures,
        record {
          in_log = omega (arith, next.range.1, arrived.in_log);
          begun = λ i low high. next.begun i low (omega arith);
          unbegun = λ there. next.unbegun there;
        },
        arrived,
      );
    }

pub next_bus-next-requires : goal.next_bus-next-requires
next_bus-next-requires c =
    let a = c.args in
    let ok = step_accepted (sym (ap (λ a. a.number) c.in_default.ensures)) in
    let few = taken_few a.sheet.now a.log.now a.bus a.room.now (step_node ok) in
    record {
      valid_node = (step_node ok, c.header_of-header.ensures);
      tick_le_max_time = (ok.tick_to, omega (arith, ok.turns_to), rw c.run_turn-taken.ensures.taken few);
    }

-- a refusal hands the record back, and leaves the buffer
pub returns-in-Err : goal.returns-in-Err
returns-in-Err c =
    let a = c.args in
    let outcome = step_refused_lem a.sheet.now a.log.now a.bus a.room.now c.in-Err.ensures (refuses c.in-Err.refusal) in
    record { numbers = outcome.answered; «record» = outcome.recorded; refused = sym outcome.recorded; buffer = outcome.written }

pub returns : goal.returns
returns c =
    let a = c.args in
    let none = sym (ap (λ a. a.number) c.in_default.ensures) in
    let taken = c.run_turn-taken.ensures.taken in
    let next = rw taken at c.next_bus-next.ensures in
    let outcome = step_served a.sheet.now a.log.now a.bus a.room.now none in
    record {
      numbers = cc (taken, next, outcome.answered);
      «record» = next ∙ outcome.recorded;
      refused = search rules;
      buffer = rw c.run_turn-taken.ensures.begins outcome.written;
    }
