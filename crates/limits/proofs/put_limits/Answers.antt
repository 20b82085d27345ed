-- `limits::put_limits` meets its contract: the limits stand in the table's front, node by node. Assumes nothing.
use Rattle.limits.proofs.Filled.{limits_listed}
use Rattle.limits.proofs.put_limits.Goals as goal

pub returns : goal.returns
returns c = limits_listed _ _ _ c.list_nodes.ensures
