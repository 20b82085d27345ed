-- `runs::move_on` meets its contract: the record after the turn is in range, and the silent turns are passed from there. Assumes nothing.
use Rattle.turns.proofs.TurnSteps.{next_valid, next_turns}
use Rattle.runs.proofs.move_on.Goals as goal

pub pass_silent-requires : goal.pass_silent-requires
pass_silent-requires c =
    let a = c.args in
    let pre = c.requires in
    rw c.next_bus-bus.ensures record {
      valid_node = (next_valid a.run.bus _ pre.valid_node.0, pre.valid_node.1, pre.valid_node.2, pre.valid_node.3, pre.valid_node.4);
      from_bound = (pre.from_bound.0, pre.from_bound.1, pre.from_bound.2, next_turns a.run.bus _ pre.valid_node.0 pre.tick_le_max_time.1);
    }
