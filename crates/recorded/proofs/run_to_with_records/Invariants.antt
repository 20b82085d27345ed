-- `recorded::run_to_with_records` meets its contract: the run has come to the position p, and the list of records is up to date. Each turn moves
-- the clock, so what is left to the horizon falls. Assumes nothing.
use Prim.Native.Nat.{◌+◌, ◌-◌}
use Rattle.recorded.proofs.RecordsRun.{Noted}
use Rattle.recorded.proofs.run_to_with_records.Given as goal

abbrev pub invariant-loop-p : goal.invariant-loop-p
invariant-loop-p l = Noted l.sheet l.log l.horizon l.initial.found l.initial.room l.initial.records l.p l.found l.room l.records

abbrev pub decreases-loop-p : goal.decreases-loop-p
decreases-loop-p l = l.horizon + 1 - l.p.bus.tick
