-- `queue::look` meets its contract: at each release those found are the first ones of the queue of the releases before, and the release
-- itself has not begun. Assumes nothing.
use Prim.Native.Nat.{◌-◌, ◌≤◌, ◌<◌}
use mathlib.Core.Path.{◌≡◌}
use lib.ListN.{length}
use Rattle.model.specs.Limits.{not_begun}
use Rattle.model.specs.Sheet.{word, budget}
use Rattle.model.specs.Protocol.{releases}
use Rattle.queue.proofs.Search.{Looked}
use Rattle.queue.proofs.look.Given as goal

abbrev pub invariant-loop-i : goal.invariant-loop-i
invariant-loop-i l =
    (l.i ≤ releases l.log)
    × (l.i < l.to → word l.room l.i ≡ not_begun)
    × (length l.found ≡ length l.initial.found)
    × Looked l.sheet l.log l.node l.tick (budget l.sheet l.node) l.room l.i l.count l.found

abbrev pub decreases-loop-i : goal.decreases-loop-i
decreases-loop-i l = l.to - l.i
