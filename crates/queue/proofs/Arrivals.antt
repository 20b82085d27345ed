-- Where ticks never fall, those after a tick are the log's last. Assumes nothing.
use Prim.Native.Nat.{ℕ, ◌≤◌, ◌<◌}
use mathlib.Core.List.{List}
use native.Mathlib.Decide.{le_ind}
use native.Mathlib.Omega.{arith}
use Rattle.model.specs.Protocol.{releases, release_tick}
use Rattle.queue.specs.Queue.{RisingFrom}

-- Where ticks never fall from one on that is after a tick, all releases from it on are after it.
pub rises_on : (log : List ℕ) {tick from : ℕ}
    → tick < release_tick log from
    → RisingFrom log from
    → (i : ℕ)
    → from ≤ i
    → i < releases log
    → tick < release_tick log i
rises_on log {tick} late rising i after in_log =
    le_ind
    (λ m. m < releases log → tick < release_tick log m)
    (λ _. late)
    (λ m low ih there. omega (arith, ih (omega arith), rising m low there))
    i
    after
    in_log
