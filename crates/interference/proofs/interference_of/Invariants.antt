-- `interference::interference_of` meets its contract: the sum so far is that over the streams so far. Assumes nothing.
use Prim.Native.Nat.{◌≤◌, ◌*◌}
use mathlib.Core.Path.{◌≡◌}
use lib.ListN.{length}
use Rattle.theory.specs.Sum.{sum_to}
use Rattle.interference.specs.Periods.{releases_by}
use Rattle.interference.proofs.interference_of.Given as goal

abbrev pub invariant-loop-period : goal.invariant-loop-period
invariant-loop-period l =
    (l.sum ≡ sum_to (releases_by l.periods l.jitters l.w) (length l.yielded)) × (l.sum ≤ 4294967296 * length l.yielded)
