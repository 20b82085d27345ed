-- `queue::next_unbegun` meets its contract: all releases passed have begun, and the one at which it stops has not.
-- Assumes nothing.
use Prim.Native.Nat.{◌≤◌, ◌-◌}
use Rattle.queue.specs.Queue.{BegunFrom}
use Rattle.queue.proofs.next_unbegun.Given as goal

abbrev pub invariant-loop-i : goal.invariant-loop-i
invariant-loop-i l = (l.known ≤ l.i) × (l.i ≤ l.to) × BegunFrom l.room l.known l.i

abbrev pub decreases-loop-i : goal.decreases-loop-i
decreases-loop-i l = l.to - l.i
