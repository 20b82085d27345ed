-- `interference::jump::rated_by` meets its contract: the quotient is at most the cycle's. Assumes nothing.
use Prim.Native.Nat.{◌*◌, ◌/◌}
use mathlib.Core.Path.{sym, ap₂, ◌∙◌}
use native.Mathlib.Nat.{div-le_self}
use native.Mathlib.Omega.{arith}
use Rattle.interference.specs.Jump.{scale}
use Rattle.interference.proofs.Split.{rated_past, rated_within}
use Rattle.interference.proofs.jump.rated_by.Goals as goal

pub returns-then-period-reach : goal.returns-then-period-reach
returns-then-period-reach c =
    let a = c.args in
    let divided = ap₂ (λ n p. n * scale / p) c.long.ensures.0 c.long-then-period-reach.ensures.0 in (
      divided ∙ sym (rated_within a.reach 0 a.cycle a.period 0 c.if-period-reach.true),
      omega (arith, divided, div-le_self (a.cycle * scale) a.period, c.requires.1),
    )

pub returns-else-period-reach : goal.returns-else-period-reach
returns-else-period-reach c =
    let a = c.args in
    (sym (rated_past a.reach 0 a.cycle a.period 0 c.if-period-reach.false), omega arith)
