-- `limits::list_ranked` meets its contract: the streams that are passed are those ranked above the next, and their limits stand at their places.
-- Assumes nothing.
use Rattle.limits.proofs.Filled.{limit_at, Stored}
use Rattle.limits.proofs.Passed.{Passed}
use Rattle.limits.proofs.list_ranked.Given as goal

abbrev pub invariant-loop-i : goal.invariant-loop-i
invariant-loop-i l =
    record {
      passed : Passed l.sheet l.k l.timing.cycle l.i l.sums.one l.sums.two;
      stored : Stored (limit_at l.sheet l.k) l.initial.limits l.order l.count l.limits l.i;
    }
