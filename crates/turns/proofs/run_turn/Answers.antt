-- `turns::run_turn` meets its contract: those that the look finds are those that the turn takes. Assumes nothing.
use native.Mathlib.Omega.{arith}
use mathlib.Core.Path.{sym, ap, ◌∙◌}
use lib.Seq.{length-take-le}
use Rattle.model.proofs.Sheet.ValidSheet.{valid_fits}
use Rattle.turns.proofs.TurnSteps.{few_sent, taken_below, served_by}
use Rattle.turns.proofs.run_turn.Goals as goal

pub look-taken-requires : goal.look-taken-requires
look-taken-requires c =
    let a = c.args in
    let pre = c.requires in
    record {
      valid_node = (pre.valid_node.0, pre.valid_node.2, omega (arith, few_sent a.sheet.now a.bus.node pre.valid_node.0, pre.valid_node.3));
      first_unbegun = (pre.header_value.1, pre.header_value.2);
    }

pub begin_messages-requires : goal.begin_messages-requires
begin_messages-requires c =
    let a = c.args in
    let pre = c.requires in
    let found = c.look-taken.ensures in
    let few = few_sent a.sheet.now a.bus.node pre.valid_node.0 in
    let message = (valid_fits a.sheet.now pre.valid_node.0.valid).header.message_to in record {
      count_le_max_budget = (omega (arith, found.0, few), omega (arith, found.0, few, pre.valid_node.3, c.look-taken.auto.found), omega (arith, message, ap (λ h. h.message) pre.header_value.0), pre.valid_node.1);
      all_below = rw found.1 (taken_below a.sheet.now a.log.now a.bus.node a.bus.tick _ a.room.now pre.valid_node.2);
    }

pub returns : goal.returns
returns c =
    let a = c.args in
    let pre = c.requires in
    let few = few_sent a.sheet.now a.bus.node pre.valid_node.0 in
    let served = served_by a.sheet.now a.log.now a.bus a.room.now c.look-taken.ensures.1 in
    let count = length-take-le c.look-taken.result c.look-taken.new.found (omega (arith, c.look-taken.ensures.0, few, pre.valid_node.3, c.look-taken.auto.found)) in
    record {
      taken = sym count ∙ served.0;
      begins = (rw (ap (λ h. h.message) pre.header_value.0) at c.begin_messages.ensures) ∙ served.1;
      found = c.look-taken.ensures.1;
    }
