-- `wait::near::with_one_more` meets its contract: a stream adds at most a message a tick. Assumes nothing.
use Prim.Native.Nat.{◌+◌}
use mathlib.Core.Path.{ap, ◌∙◌}
use native.Mathlib.Nat.{div-le_self}
use native.Mathlib.Omega.{arith}
use Rattle.model.specs.Analysis.{most_releases}
use Rattle.wait.proofs.near.with_one_more.Goals as goal

pub returns : goal.returns
unfolding most_releases
returns c =
    let a = c.args in
    let p = c.requires in
    let counted = c.long.ensures.0 ∙ c.most_releases.ensures in
    (ap (λ n. a.h + n) counted, omega (arith, counted, div-le_self (a.w + a.jitter) a.period, p.1, p.2))
