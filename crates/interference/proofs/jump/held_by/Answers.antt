-- `interference::jump::held_by` meets its contract: what is held is at most a message a tick. Assumes nothing.
use Prim.Native.Nat.{◌+◌}
use mathlib.Core.Path.{sym, ◌∙◌}
use native.Mathlib.Nat.{div-le_self}
use native.Mathlib.Omega.{arith}
use Rattle.model.specs.Analysis.{most_releases}
use Rattle.interference.proofs.Split.{held_past, held_within}
use Rattle.interference.proofs.jump.held_by.Goals as goal

pub returns-then-reach-period : goal.returns-then-reach-period
unfolding most_releases
returns-then-reach-period c =
    let a = c.args in
    let counted = c.long.ensures.0 ∙ c.most_releases.ensures in (
      counted ∙ sym (held_past a.reach a.w 0 a.period a.jitter c.if-reach-period.true),
      omega (arith, counted, div-le_self (a.w + a.jitter) a.period, c.requires.1, c.requires.2),
    )

pub returns-else-reach-period : goal.returns-else-reach-period
returns-else-reach-period c =
    let a = c.args in
    (sym (held_within a.reach a.w 0 a.period a.jitter c.if-reach-period.false), omega arith)
