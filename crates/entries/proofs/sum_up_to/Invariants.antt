-- `entries::sum_up_to` meets its contract: the sum so far is that of the nodes passed. Assumes nothing.
use Prim.Native.Nat.{pred, ◌≤◌, ◌*◌}
use mathlib.Core.Path.{◌≡◌}
use Rattle.tables.specs.Tables.{sum_up_to}
use Rattle.entries.proofs.sum_up_to.Given as goal

abbrev pub invariant-loop-i : goal.invariant-loop-i
invariant-loop-i l = (pred l.i ≤ l.k) × (l.sum ≡ sum_up_to l.table (pred l.i)) × (l.sum ≤ 4294967295 * pred l.i)
