-- `interference::jump::split_at` meets its contract: each sum so far is that over the streams so far. Assumes nothing.
use mathlib.Core.Path.{sym, ap, ap₂, ◌∙◌}
use native.Mathlib.Omega.{arith}
use Rattle.theory.proofs.Sums.{sum_to_none, sum_to_more}
use Rattle.interference.specs.Periods.{entry}
use Rattle.interference.specs.Jump.{held_by, rated_by, ahead_by}
use Rattle.interference.proofs.Periods.{next_entry}
use Rattle.interference.proofs.jump.split_at.Goals as goal

pub loop-i-init : goal.loop-i-init
loop-i-init c =
    let a = c.args in (
      sym (sum_to_none (λ n. held_by a.reach a.w (entry a.periods.now n) (entry a.jitters.now n))),
      sym (sum_to_none (λ n. ahead_by a.reach (entry a.periods.now n) (entry a.jitters.now n))),
      sym (sum_to_none (λ n. rated_by a.reach a.cycle (entry a.periods.now n))),
      omega arith,
      omega arith,
      omega arith,
    )

pub loop-i-preserved : goal.loop-i-preserved
loop-i-preserved c =
    let a = c.args in
    let l = c.loop-i in
    let period = sym (next_entry a.periods.now l.i) in
    let jitter = sym (next_entry a.jitters.now l.i) in
    let held = c.held_by-held.ensures in
    let ahead = c.ahead_by-ahead.ensures in
    let rated = c.rated_by-rate.ensures in (
      sum_to_more (λ n. held_by a.reach a.w (entry a.periods.now n) (entry a.jitters.now n)) l.i l.invariant.0
          (held.0 ∙ ap₂ (held_by a.reach a.w) period jitter),
      sum_to_more (λ n. ahead_by a.reach (entry a.periods.now n) (entry a.jitters.now n)) l.i l.invariant.1
          (ahead.0 ∙ ap₂ (ahead_by a.reach) period jitter),
      sum_to_more (λ n. rated_by a.reach a.cycle (entry a.periods.now n)) l.i l.invariant.2
          (rated.0 ∙ ap (rated_by a.reach a.cycle) period),
      omega (arith, held.1, l.invariant.3),
      omega (arith, ahead.1, l.invariant.4),
      omega (arith, rated.1, l.invariant.5),
    )
