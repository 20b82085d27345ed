-- `runs::run_to` meets its contract: the rest of the run from the position equals the whole. Each turn moves the clock, so what is
-- left to the horizon falls. Assumes nothing.
use mathlib.Core.Path.{refl, ◌∙◌}
use Rattle.runs.proofs.RunSteps.{under_way_start, under_way_turn, under_way_again, under_way_done}
use Rattle.runs.proofs.run_to.Goals as goal

pub loop-p-init : goal.loop-p-init
loop-p-init c =
    let a = c.args in
    let pre = c.requires in
    (refl, under_way_start a.sheet.now a.log.now a.horizon pre.valid.0 pre.room_value c.start_at-p.ensures)

pub move_on-p-requires : goal.move_on-p-requires
move_on-p-requires c =
    let a = c.args in
    let pre = c.requires.valid in
    let served = c.run_turn-taken.ensures in
    let early = c.loop-p-test.true in
    let here = c.loop-p.invariant.1 in
    let turned = under_way_turn a.sheet.now a.log.now a.horizon early pre.2 pre.3 served.taken served.begins here in record {
      valid_node = (turned.node, c.header_of-header.ensures, pre.1, pre.2, turned.fits);
      from_bound = (turned.running.from_in_log, turned.running.to_in_log, turned.running.begun);
      tick_le_max_time = (turned.in_time, turned.turns_to, turned.few);
    }

pub loop-p-smaller : goal.loop-p-smaller
loop-p-smaller c =
    let a = c.args in
    let pre = c.requires.valid in
    let served = c.run_turn-taken.ensures in
    let early = c.loop-p-test.true in
    let here = c.loop-p.invariant.1 in
    let turned = under_way_turn a.sheet.now a.log.now a.horizon early pre.2 pre.3 served.taken served.begins here in
    (under_way_again a.sheet.now a.log.now a.horizon turned c.move_on-p.ensures).1

pub loop-p-preserved : goal.loop-p-preserved
loop-p-preserved c =
    let a = c.args in
    let pre = c.requires.valid in
    let served = c.run_turn-taken.ensures in
    let early = c.loop-p-test.true in
    let here = c.loop-p.invariant.1 in
    let turned = under_way_turn a.sheet.now a.log.now a.horizon early pre.2 pre.3 served.taken served.begins here in (
      c.run_turn-taken.auto.found ∙ c.loop-p.invariant.0,
      (under_way_again a.sheet.now a.log.now a.horizon turned c.move_on-p.ensures).0,
    )

pub returns : goal.returns
returns c =
    let a = c.args in
    let done = under_way_done a.sheet.now a.log.now a.horizon c.loop-p-test.false c.loop-p.invariant.1 in
    record { «record» = done.0; begins = done.1 }
