-- `recording::replay_with_records` meets its contract. `check_lent` decides. Where it refuses, that is the answer, and the buffer and the list
-- stay. Where it does not, the run is asked on what was cleared, and what it says of the buffer and the list is what the replay says.
-- Assumes nothing.
use Rattle.std.proofs.Common.{rules}
use Rattle.std.proofs.lemmas.Result.{err_from_is_err_and}
use mathlib.Core.Path.{ap, refl, sym}
use native.Mathlib.Omega.{arith}
use Rattle.model.proofs.Sheet.NodeSums.{total_most}
use Rattle.model.proofs.Sheet.ValidSheet.{valid_fits}
use Rattle.refusals.proofs.Chains.{refuses}
use Rattle.recording.proofs.RecordsOutcome.{Cleared, marked_fits, marked_front, cleared_current}
use Rattle.recording.proofs.RecordsOutcome.{records_checked, records_refused, records_ended, records_demand}
use Rattle.recording.proofs.replay_with_records.Goals as goal

pub returns-in_err-check_lent : goal.returns-in_err-check_lent
returns-in_err-check_lent c =
    let a = c.args in
    let check = c.in_err-check_lent in
    let returned = err_from_is_err_and c.from_residual.result c.from_residual.ensures.1 in
    let outcome = records_refused a.sheet.now a.log.now a.horizon a.room.now a.records.now check.ensures (refuses check.field-0.0) in
    record {
      answer = rw (returned.1, returned.2) outcome.answered;
      buffer = outcome.written;
      records = outcome.listed;
      demand = search rules;
    }

pub clear-requires : goal.clear-requires
clear-requires c =
    let a = c.args in
    -- the checks found nothing
    let none = sym (ap (λ a. a.number) c.in_ok-check_lent.ensures) in
    (records_checked a.sheet.now a.log.now a.horizon a.room.now a.records.now none).room_for

pub count_streams-streams-requires : goal.count_streams-streams-requires
count_streams-streams-requires c =
    let a = c.args in
    let none = sym (ap (λ a. a.number) c.in_ok-check_lent.ensures) in
    (records_checked a.sheet.now a.log.now a.horizon a.room.now a.records.now none).valid

pub clear_records-requires : goal.clear_records-requires
clear_records-requires c =
    let a = c.args in
    let none = sym (ap (λ a. a.number) c.in_ok-check_lent.ensures) in
    rw c.count_streams-streams.ensures
    (records_checked a.sheet.now a.log.now a.horizon a.room.now a.records.now none).list_for

-- The array has a word for each stream that a sheet can have.
pub put_limits-requires : goal.put_limits-requires
put_limits-requires c =
    let a = c.args in
    let none = sym (ap (λ a. a.number) c.in_ok-check_lent.ensures) in
    let ok = records_checked a.sheet.now a.log.now a.horizon a.room.now a.records.now none in
    (ok.valid, total_most a.sheet.now (valid_fits a.sheet.now ok.valid))

-- Both were cleared, so the run may be asked.
pub run_to_with_records-end-requires : goal.run_to_with_records-end-requires
run_to_with_records-end-requires c =
    let a = c.args in
    let none = sym (ap (λ a. a.number) c.in_ok-check_lent.ensures) in
    let ok = records_checked a.sheet.now a.log.now a.horizon a.room.now a.records.now none in
    let start : Cleared a.sheet.now a.log.now a.room.now a.records.now c.clear.new.room c.clear_records.new.records =
    record { begins = c.clear.ensures; list = rw c.count_streams-streams.ensures at c.clear_records.ensures }
    in record {
      valid = (ok.valid, ok.rises, ok.horizon_to, marked_fits start, omega arith);
      room_value = marked_front start;
      limits_of = (c.put_limits.ensures, ok.streams, cleared_current start);
    }

pub returns : goal.returns
returns c =
    let a = c.args in
    let none = sym (ap (λ a. a.number) c.in_ok-check_lent.ensures) in
    let start : Cleared a.sheet.now a.log.now a.room.now a.records.now c.clear.new.room c.clear_records.new.records =
    record { begins = c.clear.ensures; list = rw c.count_streams-streams.ensures at c.clear_records.ensures }
    in
    let end = c.run_to_with_records-end.ensures in
    let outcome =
    records_ended a.sheet.now a.log.now a.horizon a.room.now a.records.now start none end.«record» end.begins end.records
    in record {
      answer = outcome.answered;
      buffer = outcome.written;
      records = outcome.listed;
      demand = records_demand _ _ _ _ _ outcome refl;
    }
