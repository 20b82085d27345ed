-- `wait::verdict_from` meets its contract: no number below the present one suffices, and so the first that does is the smallest.
-- Assumes nothing.
use Prim.Native.Nat.{◌≤◌, ◌-◌, ◌+◌}
use Rattle.interference.specs.Periods.{interference_by}
use Rattle.interference.specs.Jump.{NoneBelow}
use Rattle.wait.proofs.verdict_from.Given as goal

abbrev pub invariant-loop-cycles : goal.invariant-loop-cycles
invariant-loop-cycles l =
    (1 ≤ l.cycles) × NoneBelow (interference_by l.periods l.jitters) l.timing 1 l.cycles

abbrev pub decreases-loop-cycles : goal.decreases-loop-cycles
decreases-loop-cycles l = l.tries + 1 - l.cycles
