-- `wait::verdict_from` meets its contract: no number below the present one suffices, and so the first that does is the smallest.
-- Assumes nothing.
use native.Mathlib.Omega.{arith}
use Rattle.model.specs.Analysis.{IsLeastJ}
use Rattle.model.proofs.Analysis.Searching.{found, none_left}
use Rattle.interference.specs.Periods.{interference_by}
use Rattle.wait.proofs.verdict_from.Goals as goal
use Rattle.wait.proofs.verdict_from.Lts as lts
use Rattle.wait.proofs.verdict_from.Tie as tie
use Rattle.wait.proofs.verdict_from.Reads as reads

-- Where it suffices, it is the smallest.
least : (c : lts.Then1 tie.the-claims reads.Pre reads.Post goal.the-invariant-loop-cycles goal.the-decreases-loop-cycles)
    → IsLeastJ (interference_by c.args.periods.now c.args.jitters.now)
    c.args.timing
    c.loop-cycles.cycles
least c =
    let l = c.loop-cycles in
    record {
      from_one = l.invariant.0;
      suffices = rw (c.interference_of-h.ensures, c.long.ensures.0, c.long-in-loop-cycles.ensures.0) at c.if-h-long.true;
      smallest = l.invariant.1;
    }

pub returns-then-h-long : goal.returns-then-h-long
returns-then-h-long c =
    let a = c.args in
    let p = c.requires in
    let tries = c.tries_worth-tries.ensures in
    found (interference_by a.periods.now a.jitters.now) a.timing a.stream (omega (arith, p.1.shares.cycle_from)) (least c.before.before) (omega (arith, tries, c.loop-cycles-test.true)) c.wait_at-wait.ensures

pub returns : goal.returns
returns c =
    let a = c.args in
    let p = c.requires in
    let past = rw c.tries_worth-tries.ensures at c.loop-cycles-test.false in
    none_left (interference_by a.periods.now a.jitters.now) a.timing a.stream (omega (arith, p.1.shares.cycle_from)) c.loop-cycles.invariant.1 past
