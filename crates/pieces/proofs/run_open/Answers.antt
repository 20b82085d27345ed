-- `pieces::run_open` meets its contract: the run says what it leaves and lists, and those that have not begun are held. Assumes nothing.
use native.Mathlib.Omega.{arith}
use Rattle.model.specs.Limits.{max_waiting, not_begun}
use Rattle.model.specs.Protocol.{releases}
use Rattle.pieces.proofs.Opened.{take_same}
use Rattle.pieces.proofs.run_open.Goals as goal

pub run_log-end-requires : goal.run_log-end-requires
run_log-end-requires c =
    let a = c.args in
    let pre = c.requires in record {
      valid_node = pre.valid_node;
      log_in_bounds = (omega (arith, pre.log_bound.0), omega (arith, pre.log_bound.1), pre.log_bound.2, omega arith);
      begins_value = take_same (releases a.log.now) max_waiting not_begun pre.log_bound.0;
    }
