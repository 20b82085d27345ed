-- `runs::run_to` meets its contract: the rest of the run from the position equals the whole. Each turn moves the clock, so what is
-- left to the horizon falls. Assumes nothing.
use Prim.Native.Nat.{◌+◌, ◌-◌}
use mathlib.Core.Path.{◌≡◌}
use lib.ListN.{length}
use Rattle.model.specs.Protocol.{replayed}
use Rattle.runs.proofs.RunSteps.{UnderWay}
use Rattle.runs.proofs.run_to.Given as goal

abbrev pub invariant-loop-p : goal.invariant-loop-p
invariant-loop-p l =
    (length l.found ≡ length l.initial.found) × UnderWay l.sheet l.log l.horizon (replayed l.sheet l.log l.horizon) l.initial.room l.room l.p

abbrev pub decreases-loop-p : goal.decreases-loop-p
decreases-loop-p l = l.horizon + 1 - l.p.bus.tick
