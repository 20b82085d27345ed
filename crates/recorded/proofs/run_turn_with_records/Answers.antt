-- `recorded::run_turn_with_records` meets its contract: those that the turn takes can be noted, and noting them leaves the list that is worked
-- out afresh from the log and the begins after the turn. Assumes nothing.
use mathlib.Core.Path.{ap, ◌∙◌}
use native.Mathlib.Omega.{arith}
use lib.ListN.{take}
use Rattle.model.proofs.Sheet.ValidSheet.{valid_fits}
use Rattle.recorded.proofs.TurnRecords.{taken_is, taken_most, places_notable, places_noted}
use Rattle.recorded.proofs.run_turn_with_records.Goals as goal

pub note_messages-requires : goal.note_messages-requires
note_messages-requires c =
    let a = c.args in
    let p = c.requires in
    let s = a.sheet.now in
    let turn = c.run_turn-taken in
    let same = c.wide-count.ensures.0 in
    let few = taken_most s a.log.now a.bus a.room.now p.valid_node.0 in
    let many = turn.ensures.taken ∙ taken_is s a.log.now a.bus a.room.now in
    let message = (valid_fits s p.valid_node.0.valid).header.message_to in record {
      count_le_max_budget = (
        omega (arith, few, many, same),
        omega (arith, few, many, same, turn.auto.found, p.valid_node.3),
        omega (arith, message, ap (λ h. h.message) p.header_value.0),
        p.valid_node.1,
      );
      can_be_noted =
          places_notable s a.log.now a.bus a.room.now
          (ap (λ n. take n turn.new.found) same ∙ turn.ensures.found)
          p.limits_of.0
          p.limits_of.1
          p.limits_of.2;
    }

pub returns : goal.returns
returns c =
    let a = c.args in
    let p = c.requires in
    let turn = c.run_turn-taken in record {
      taken = turn.ensures.taken;
      begins = turn.ensures.begins;
      every_turn =
          places_noted a.sheet.now a.log.now a.bus a.room.now
          p.valid_node.0
          p.valid_node.1
          p.valid_node.2
          p.limits_of.0
          p.limits_of.1
          p.limits_of.2
          (ap (λ n. take n turn.new.found) c.wide-count.ensures.0 ∙ turn.ensures.found)
          (ap (λ h. h.message) p.header_value.0)
          turn.ensures.begins
          c.note_messages.ensures;
    }
