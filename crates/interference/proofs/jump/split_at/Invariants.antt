-- `interference::jump::split_at` meets its contract: each sum so far is that over the streams so far. Assumes nothing.
use Prim.Native.Nat.{◌≤◌, ◌+◌, ◌*◌}
use mathlib.Core.Path.{◌≡◌}
use Rattle.theory.specs.Sum.{sum_to}
use Rattle.model.specs.Limits.{max_time}
use Rattle.interference.specs.Periods.{entry}
use Rattle.interference.specs.InRange.{max_cycle}
use Rattle.interference.specs.Jump.{scale, held_by, rated_by, ahead_by}
use Rattle.interference.proofs.jump.split_at.Given as goal

abbrev pub invariant-loop-i : goal.invariant-loop-i
invariant-loop-i l =
    (l.held ≡ sum_to (λ n. held_by l.reach l.w (entry l.periods n) (entry l.jitters n)) l.i)
    × (l.ahead ≡ sum_to (λ n. ahead_by l.reach (entry l.periods n) (entry l.jitters n)) l.i)
    × (l.rate ≡ sum_to (λ n. rated_by l.reach l.cycle (entry l.periods n)) l.i)
    × (l.held ≤ (2 * max_time + 1) * l.i)
    × (l.ahead ≤ scale * l.i)
    × (l.rate ≤ max_cycle * scale * l.i)
