-- `wait::near::verdict_near` meets its contract: one cycle is late or suffices, or the search goes on from two. Assumes nothing.
use native.Mathlib.Omega.{arith}
use native.Mathlib.Nat.{le_refl}
use mathlib.Core.Path.{sym, ◌∙◌}
use Rattle.interference.specs.Periods.{interference_by}
use Rattle.interference.specs.InRange.{FoundJ}
use Rattle.wait.proofs.FirstTries.{none_below_one, late_near, found_first, listed_near, one_cycle}
use Rattle.wait.proofs.near.verdict_near.Goals as goal
use Rattle.wait.proofs.near.verdict_near.Lts as lts
use Rattle.wait.proofs.near.verdict_near.Tie as tie
use Rattle.wait.proofs.near.verdict_near.Reads as reads

-- One cycle suffices.
least : (c : lts.Then2 tie.the-claims reads.Pre reads.Post) → FoundJ c.args.periods.now c.args.jitters.now c.args.timing 1 c.args.one
least c =
    let a = c.args in
    let p = c.requires in
    let H = interference_by a.periods.now a.jitters.now in
    found_first a.periods.now a.jitters.now a.timing 1 a.one p.1 (le_refl 1) (omega arith) (none_below_one H a.timing)
    (one_cycle H a.timing.cycle p.3)
    (omega (arith, c.long.ensures.0, c.if-one-long.true))

pub returns-then-is_late_at : goal.returns-then-is_late_at
returns-then-is_late_at c =
    let a = c.args in
    let H = interference_by a.periods.now a.jitters.now in
    late_near H a.timing a.stream (omega (arith, c.requires.1.shares.cycle_from)) {J = 1} (le_refl 1) (none_below_one H a.timing)
    (sym c.is_late_at.ensures ∙ c.if-is_late_at.true)

pub returns-then-one-long : goal.returns-then-one-long
returns-then-one-long c =
    let a = c.args in
    listed_near a.periods.now a.jitters.now a.timing a.stream 1 a.one _
    (omega (arith, c.requires.1.shares.cycle_from))
    (least c.before.before)
    (sym c.is_late_at.ensures ∙ c.if-is_late_at.false)
    c.wait_at-wait.ensures
