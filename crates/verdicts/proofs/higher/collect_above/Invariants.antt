-- `verdicts::higher::collect_above` meets its contract: what is collected, and the words of those above among the streams that are
-- left, are the whole, of the periods and of the jitters. Assumes nothing.
use Prim.Native.Nat.{◌≤◌}
use mathlib.Core.Path.{◌≡◌}
use mathlib.Core.List.{◌++◌}
use lib.ListN.{take}
use Rattle.model.specs.Analysis.{streams_from, above}
use Rattle.verdicts.specs.Periods.{periods_of, jitters_of}
use Rattle.verdicts.proofs.Above.{left}
use Rattle.verdicts.proofs.higher.collect_above.Given as goal

abbrev pub invariant-loop-i : goal.invariant-loop-i
invariant-loop-i l =
    (l.n ≤ l.i)
    × (take l.n l.periods ++ left (λ y. y.period) l.sheet l.k l.x l.i l.count ≡ periods_of (above l.x (streams_from l.sheet l.k 1 l.count)))
    × (take l.n l.jitters ++ left (λ y. y.jitter) l.sheet l.k l.x l.i l.count ≡ jitters_of (above l.x (streams_from l.sheet l.k 1 l.count)))
