-- `progress::list_begins` meets its contract: what is left to list from here makes the whole. Assumes nothing.
use native.Mathlib.Omega.{arith}
use lib.ListN.{take}
use lib.Seq.{length-take-le}
use Rattle.progress.proofs.Listing.{list_next, list_done}
use Rattle.progress.proofs.list_begins.Goals as goal

pub loop-j-preserved : goal.loop-j-preserved
loop-j-preserved c =
    let a = c.args in
    let l = c.loop-j in
    let line = length-take-le a.count a.places.now c.requires.count_le_max_budget.1 in
    record {
      bound = omega (arith, c.requires.count_le_max_budget.2, l.invariant.bound);
      rest = list_next a.message a.numbers.now (take a.count a.places.now) a.at l.j l.begin l.room c.loop-j-test.true (omega (arith, line)) l.invariant.rest;
    }

pub returns : goal.returns
returns c =
    let a = c.args in
    let l = c.loop-j in
    list_done a.message a.numbers.now (take a.count a.places.now) a.at l.j l.begin c.loop-j-test.false l.invariant.rest
