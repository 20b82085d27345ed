-- `recorded::run_to_with_records` meets its contract: its loop starts where the run starts, takes a turn, which keeps the list of records up to
-- date, and moves on, nearer to the horizon, where the run is done. Assumes nothing.
use Rattle.recorded.proofs.RecordsRun.{asked_by, noted-start, turn_fits, turn_dated, noted-turn, move_from, move_in_time, noted_again, noted_done}
use Rattle.recorded.proofs.run_to_with_records.Goals as goal

pub loop-p-init : goal.loop-p-init
loop-p-init c =
    let p = c.requires in
    noted-start (asked_by p.valid p.room_value p.limits_of) c.start_at-p.ensures

pub run_turn_with_records-taken-requires : goal.run_turn_with_records-taken-requires
run_turn_with_records-taken-requires c =
    let p = c.requires in
    let here = c.loop-p.invariant in record {
      valid_node = turn_fits here (asked_by p.valid p.room_value p.limits_of) c.loop-p-test.true;
      header_value = (c.header_of-header.ensures, here.under_way.first, here.under_way.arrived);
      limits_of = (p.limits_of.0, p.limits_of.1, turn_dated here);
    }

pub move_on-p-requires : goal.move_on-p-requires
move_on-p-requires c =
    let p = c.requires in
    let turn = c.run_turn_with_records-taken in
    let turned =
    noted-turn c.loop-p.invariant (asked_by p.valid p.room_value p.limits_of) c.loop-p-test.true
    turn.ensures.taken turn.ensures.begins turn.ensures.every_turn turn.auto.found turn.auto.records
    in record {
      valid_node = (turned.turned.node, c.header_of-header.ensures, p.valid.1, p.valid.2, turned.turned.fits);
      from_bound = move_from turned;
      tick_le_max_time = move_in_time turned;
    }

pub loop-p-smaller : goal.loop-p-smaller
loop-p-smaller c =
    let p = c.requires in
    let turn = c.run_turn_with_records-taken in
    let turned =
    noted-turn c.loop-p.invariant (asked_by p.valid p.room_value p.limits_of) c.loop-p-test.true
    turn.ensures.taken turn.ensures.begins turn.ensures.every_turn turn.auto.found turn.auto.records
    in
    (noted_again turned c.move_on-p.ensures).1

pub loop-p-preserved : goal.loop-p-preserved
loop-p-preserved c =
    let p = c.requires in
    let turn = c.run_turn_with_records-taken in
    let turned =
    noted-turn c.loop-p.invariant (asked_by p.valid p.room_value p.limits_of) c.loop-p-test.true
    turn.ensures.taken turn.ensures.begins turn.ensures.every_turn turn.auto.found turn.auto.records
    in
    (noted_again turned c.move_on-p.ensures).0

pub returns : goal.returns
returns c =
    let done = noted_done c.loop-p-test.false c.loop-p.invariant in record {
      «record» = done.0;
      begins = done.1;
      records = done.2;
    }
