-- `turns::begin_messages` meets its contract: what is left to begin from here makes the whole. Assumes nothing.
use native.Mathlib.Omega.{arith}
use lib.ListN.{take}
use Rattle.turns.proofs.TurnSteps.{begins_next, begins_done}
use Rattle.turns.proofs.begin_messages.Goals as goal

pub loop-at-preserved : goal.loop-at-preserved
loop-at-preserved c =
    let a = c.args in
    let l = c.loop-at in
    record {
      bound = omega (arith, c.requires.count_le_max_budget.2, l.invariant.bound);
      rest = begins_next a.message (take a.count a.places.now) l.at-index l.begin l.room c.loop-at-test.true l.invariant.rest;
    }

pub returns : goal.returns
returns c =
    let a = c.args in
    let l = c.loop-at in
    begins_done a.message (take a.count a.places.now) l.at-index l.begin c.loop-at-test.false l.invariant.rest
