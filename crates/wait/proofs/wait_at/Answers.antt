-- `wait::wait_at` meets its contract: the sum is the definition's wait. Assumes nothing.
use Prim.Native.Nat.{pred, ◌*◌}
use mathlib.Core.Path.{◌≡◌, ap₂, ◌∙◌}
use native.Mathlib.Numerals.{sub-one}
use native.Mathlib.Omega.{arith}
use Rattle.wait.proofs.WaitBounds.{place_least, ticks_most, wait_exact}
use Rattle.wait.proofs.wait_at.Goals as goal
use Rattle.wait.proofs.wait_at.Lts as lts
use Rattle.wait.proofs.wait_at.Tie as tie
use Rattle.wait.proofs.wait_at.Reads as reads

-- The places of the turns before the one that takes the message.
before : (c : lts.After-long2 tie.the-claims reads.Pre reads.Post) → c.long.result * c.long-2.result ≡ pred c.args.cycles * c.args.timing.budget
before c = ap₂ ◌*◌ (c.long.ensures.0 ∙ sub-one _) c.long-2.ensures.0

pub overflow_sub-place : goal.overflow_sub-place
overflow_sub-place c = let p = c.requires in place_least p.0 p.1 (before c.before)

pub overflow_add-result : goal.overflow_add-result
overflow_add-result c =
    let p = c.requires in
    let places = before c.before.before.before in
    omega (arith, ticks_most p.0 p.1 places p.0.message_to, ticks_most p.0 p.1 places p.0.slot_to, p.1.tried.cycles_to)

pub returns : goal.returns
returns c =
    let p = c.requires in
    wait_exact p.0 p.1 (before c.before.before.before)
