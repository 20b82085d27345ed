-- `interference::jump::next_try` meets its contract: the plain jump goes on by one at least, and no jump passes a number that suffices.
-- Assumes nothing.
use Prim.Native.Nat.{◌+◌, ◌-◌, ◌*◌, ◌≤◌}
use native.Mathlib.Nat.{mul-le-mul, div-le_self}
use native.Mathlib.Omega.{arith}
use Rattle.model.specs.Limits.{max_time}
use Rattle.model.proofs.Analysis.Jump.{plain_jump}
use Rattle.interference.proofs.Periods.{by_grows, by_most}
use Rattle.interference.proofs.jump.next_try.Goals as goal

pub overflow_add-plain : goal.overflow_add-plain
overflow_add-plain c =
    let a = c.args in
    let p = c.requires in
    let w = a.cycles * a.timing.cycle - 1 in
    let window : w + max_time + 1 ≤ 2 * max_time + 2 = omega (arith, p.2.tried.cycles_to) in
    omega (
      arith,
      div-le_self a.h c.long.result,
      p.2.tried.counted,
      by_most a.periods.now a.jitters.now p.0 w,
      mul-le-mul p.0.few window,
    )

pub farther-next-requires : goal.farther-next-requires
farther-next-requires c =
    let a = c.args in
    let p = c.requires in
    let at = p.2.tried in (
      p.0,
      p.1,
      at.from_one,
      at.cycles_to,
      λ i from enough. rw (at.counted, c.long.ensures.0) (plain_jump a.timing a.cycles i (by_grows a.periods.now a.jitters.now) from enough),
    )
