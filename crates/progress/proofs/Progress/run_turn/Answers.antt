-- `progress::Progress::run_turn` meets its contract: what the bus's turn found is what is listed, and there is room for it. Assumes nothing.
use native.Mathlib.Omega.{arith}
use mathlib.Core.Path.{◌≡◌, ap, ◌∙◌}
use Rattle.model.specs.Protocol.{serve_turn}
use Rattle.model.proofs.Sheet.ValidSheet.{valid_fits}
use Rattle.turns.proofs.TurnSteps.{taken_below}
use Rattle.progress.proofs.TurnFits.{TurnFits, turn_fits}
use Rattle.progress.proofs.Progress.run_turn.Goals as goal
use Rattle.progress.proofs.Progress.run_turn.Lts as lts
use Rattle.progress.proofs.Progress.run_turn.Tie as tie
use Rattle.progress.proofs.Progress.run_turn.Reads as reads

-- the turn's messages have room
fits : (c : lts.After-run_turn tie.the-claims reads.Pre reads.Post tie.handed_clauses)
    → TurnFits c.args.sheet.now c.args.log.now c.args.self.bus c.args.begins.now c.args.self.begun
fits c =
    let a = c.args in
    let pre = c.requires in
    turn_fits a.sheet.now a.log.now a.self.bus a.begins.now a.self.begun pre.valid_node.0 pre.valid_node.1 pre.log_in_bounds.0 pre.first_unbegun.2

-- the number of messages, as the code has it
count : (c : lts.After-wide tie.the-claims reads.Pre reads.Post tie.handed_clauses) → c.wide-count.result ≡ (serve_turn c.args.sheet.now c.args.log.now c.args.self.bus c.args.begins.now).taken
count c = c.wide-count.ensures.0 ∙ c.run_turn-taken.ensures.taken

pub overflow_mul-self : goal.overflow_mul-self
overflow_mul-self c = omega (arith, (fits c.before.before.before.before.before.before.before).in_log, c.requires.log_in_bounds.2, c.well_formed)

pub list_begins-requires : goal.list_begins-requires
list_begins-requires c =
    let a = c.args in
    let pre = c.requires in
    let room = fits c.before.before.before.before.before.before.before.before in
    let many = count c.before.before.before in
    let message = (valid_fits a.sheet.now pre.valid_node.0.valid).header.message_to in record {
      count_le_max_budget = (omega (arith, many, room.few), omega (arith, many, room.few, pre.log_in_bounds.3, c.run_turn-taken.auto.found), omega (arith, message, ap (λ h. h.message) pre.valid_node.3), pre.valid_node.1);
      all_below = (
        rw (c.wide-count.ensures.0, c.run_turn-taken.ensures.found) (taken_below a.sheet.now a.log.now a.self.bus.node a.self.bus.tick _ a.begins.now pre.log_in_bounds.1),
        omega (arith, many, room.in_log, pre.log_in_bounds.2),
      );
    }

pub next_bus-next-requires : goal.next_bus-next-requires
next_bus-next-requires c =
    let pre = c.requires in
    record {
      valid_node = (pre.valid_node.0, pre.valid_node.3);
      tick_le_max_time = (pre.valid_node.1, pre.valid_node.2, rw c.run_turn-taken.ensures.taken (fits c.before.before.before.before.before.before.before.before.before.before.before).few);
    }

pub overflow_add-result : goal.overflow_add-result
overflow_add-result c = omega (arith, (fits c.before.before.before.before.before.before.before.before.before.before.before.before.before).in_log, count c.before.before.before.before.before.before.before.before, c.requires.log_in_bounds.0, c.well_formed)
