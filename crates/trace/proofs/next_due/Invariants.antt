-- `trace::next_due` meets its contract: the tick so far is not after any release that was passed and has not begun, and none that comes
-- from `to` on is before it. Assumes nothing.
use Prim.Native.Nat.{ℕ, ◌-◌, ◌≤◌, ◌<◌}
use mathlib.Core.Path.{◌≡◌}
use Rattle.model.specs.Limits.{not_begun}
use Rattle.model.specs.Sheet.{word}
use Rattle.model.specs.Protocol.{releases, release_tick}
use Rattle.trace.proofs.next_due.Given as goal

abbrev pub invariant-loop-i : goal.invariant-loop-i
invariant-loop-i l =
    (l.until ≤ l.horizon)
    × (l.i ≤ releases l.log)
    × (l.i < l.to → word l.begins l.i ≡ not_begun)
    × ((n : ℕ) → n < l.i → n < l.to → word l.begins n ≡ not_begun → l.until ≤ release_tick l.log n)
    × ((n : ℕ) → l.to ≤ n → n < releases l.log → l.until ≤ release_tick l.log n)

abbrev pub decreases-loop-i : goal.decreases-loop-i
decreases-loop-i l = l.to - l.i
