-- `turns::next_event` meets its contract: the next release is the earliest that is left, since ticks never fall.
-- Assumes nothing.
use Prim.Native.Nat.{ℕ, ◌≤◌, ◌<◌}
use mathlib.Core.List.{List}
use native.Mathlib.Decide.{le_ind}
use native.Mathlib.Nat.{le_refl}
use native.Mathlib.Omega.{arith}
use Rattle.model.specs.Protocol.{releases, release_tick}
use Rattle.queue.specs.Queue.{RisingFrom}
use Rattle.turns.proofs.next_event.Goals as goal

-- a release is no earlier than one before it in the log
no-earlier : (log : List ℕ) (to : ℕ) → RisingFrom log to → (i : ℕ) → to ≤ i → i < releases log → release_tick log to ≤ release_tick log i
no-earlier log to rising i after there =
    le_ind
    (λ m. m < releases log → release_tick log to ≤ release_tick log m)
    (λ _. le_refl _)
    (λ m low ih here. omega (arith, ih (omega arith), rising m low here))
    i
    after
    there

pub returns : goal.returns
returns c =
    let a = c.args in
    let pre = c.requires in
    let next = pre.1.later a.to (le_refl _) (omega arith) in
    record {
      later = omega (arith, next);
      in_run = omega arith;
      quiet = λ i after there. omega (arith, no-earlier a.log.now a.to pre.0 i after there);
    }
