-- `interference::jump::split_jump` meets its contract: the split at the reach bounds the interference from below. Assumes nothing.
use Prim.Native.Nat.{◌-◌, ◌*◌}
use mathlib.Core.Path.{ap, ◌∙◌}
use native.Mathlib.Omega.{arith}
use Rattle.interference.specs.Jump.{scale}
use Rattle.interference.proofs.Split.{split_below, split_next}
use Rattle.interference.proofs.jump.split_jump.Goals as goal

pub returns-then-left-eq0 : goal.returns-then-left-eq0
returns-then-left-eq0 c =
    let a = c.args in
    let p = c.requires in
    λ i from enough.
    absurd
    (omega (
      arith,
      c.if-left-eq0.true,
      c.left_of-left.ensures,
      c.split_at-split.ensures.sums.2,
      split_below a.periods.now a.jitters.now a.timing a.cycles a.reach i p.2 (omega (arith, p.1.shares.cycle_from)) from enough,
    ))

pub returns : goal.returns
returns c =
    let a = c.args in
    let p = c.requires in
    let split = c.split_at-split.ensures.sums in
    let left = c.left_of-left.ensures ∙ ap (λ n. a.timing.budget * scale - n) split.2 in
    λ i from enough.
    rw (split.0, split.1, left)
    (split_next a.periods.now a.jitters.now a.timing a.cycles a.reach i p.2 (omega (arith, p.1.shares.cycle_from)) from enough)
