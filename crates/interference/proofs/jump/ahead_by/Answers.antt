-- `interference::jump::ahead_by` meets its contract: the quotient is at most a message, as the jitter is below the period. Assumes nothing.
use Prim.Native.Nat.{◌+◌, ◌*◌, ◌/◌, ◌<◌}
use mathlib.Core.Path.{sym, ap, ap₂, ◌∙◌}
use native.Mathlib.Nat.{div-lt_iff_lt-mul}
use native.Mathlib.Omega.{arith}
use Rattle.interference.specs.Jump.{scale, ahead_by}
use Rattle.interference.proofs.Split.{ahead_within, ahead_past, ahead_none}
use Rattle.interference.proofs.jump.ahead_by.Goals as goal

pub returns-then-jitter-eq0 : goal.returns-then-jitter-eq0
returns-then-jitter-eq0 c =
    let a = c.args in
    (sym (ap (ahead_by a.reach a.period) c.if-jitter-eq0.true ∙ ahead_none a.reach a.period), omega arith)

pub returns-then-period-reach : goal.returns-then-period-reach
returns-then-period-reach c =
    let a = c.args in
    let p = c.requires in
    let divided = ap₂ (λ n p. n * scale / p) c.long.ensures.0 c.long-then-period-reach.ensures.0 in
    let most : a.jitter * scale / a.period < scale + 1 =
    (div-lt_iff_lt-mul {k = a.period} {x = a.jitter * scale} {y = scale + 1} (omega (arith, p.0))).1 (omega (arith, p.0)) in (
      divided ∙ sym (ahead_within a.reach 0 0 a.period a.jitter c.if-period-reach.true),
      omega (arith, divided, most),
    )

pub returns-else-period-reach : goal.returns-else-period-reach
returns-else-period-reach c =
    let a = c.args in
    (sym (ahead_past a.reach 0 0 a.period a.jitter c.if-period-reach.false), omega arith)
