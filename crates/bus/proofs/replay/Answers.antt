-- `bus::replay` meets its contract: where the checks find nothing, the run over the cleared buffer is the replay's.
-- Assumes nothing.
use Rattle.std.proofs.Common.{rules}
use Rattle.std.proofs.lemmas.Result.{err_from_is_err_and}
use mathlib.Core.Path.{ap, refl, sym}
use native.Mathlib.Omega.{arith}
use lib.ListN.{drop, replicate, length-replicate}
use lib.Seq.{take_at, drop_at}
use Rattle.model.specs.Limits.{not_begun}
use Rattle.model.specs.Protocol.{releases}
use Rattle.refusals.proofs.Chains.{refuses}
use Rattle.bus.proofs.AcceptedLog.{log_rises}
use Rattle.bus.proofs.ReplayOutcome.{replay_checked, replay_refused, replay_done, outcome_demand}
use Rattle.bus.proofs.replay.Goals as goal

pub clear-requires : goal.clear-requires
clear-requires c =
    let a = c.args in
    -- the checks found nothing
    let none = sym (ap (λ a. a.number) c.in_ok-check_replay.ensures) in
    (replay_checked a.sheet.now a.log.now a.horizon a.room.now none).room_for

pub run_to-end-requires : goal.run_to-end-requires
run_to-end-requires c =
    let a = c.args in
    let n = releases a.log.now in
    let none = sym (ap (λ a. a.number) c.in_ok-check_replay.ensures) in
    let ok = replay_checked a.sheet.now a.log.now a.horizon a.room.now none in
    record {
      valid = (ok.valid, log_rises _ _ ok.logged, ok.horizon_to, omega (arith, ok.room_for, c.clear.auto.room), omega arith);
      room_value = rw c.clear.ensures (take_at (replicate n not_begun) (drop n a.room.now) n (length-replicate n not_begun));
    }

-- a refusal leaves the buffer
pub returns-in_err-check_replay : goal.returns-in_err-check_replay
returns-in_err-check_replay c =
    let a = c.args in
    let check = c.in_err-check_replay in
    let returned = err_from_is_err_and c.from_residual.result c.from_residual.ensures.1 in
    let outcome = replay_refused a.sheet.now a.log.now a.horizon a.room.now check.ensures (refuses check.field-0.0) in
    record {
      answer = rw (returned.1, returned.2) outcome.answered;
      buffer = outcome.written;
      demand = search rules;
    }

pub returns : goal.returns
returns c =
    let a = c.args in
    let n = releases a.log.now in
    let none = sym (ap (λ a. a.number) c.in_ok-check_replay.ensures) in
    let end = c.run_to-end.ensures in
    let rest = drop_at (replicate n not_begun) (drop n a.room.now) n (length-replicate n not_begun) in
    let words = rw (c.clear.ensures, rest) at end.begins in
    let outcome = replay_done a.sheet.now a.log.now a.horizon a.room.now none end.«record» words in
    record {
      answer = outcome.answered;
      buffer = outcome.written;
      demand = outcome_demand _ _ _ _ outcome refl;
    }
