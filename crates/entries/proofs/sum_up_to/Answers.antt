-- `entries::sum_up_to` meets its contract: the sum so far is that of the nodes passed. Assumes nothing.
use native.Mathlib.Numerals.{add-one}
use native.Mathlib.Omega.{arith}
use Rattle.theory.proofs.Sums.{sum_to_split}
use Rattle.tables.specs.Tables.{node_entry}
use Rattle.entries.proofs.sum_up_to.Goals as goal

pub loop-i-preserved : goal.loop-i-preserved
loop-i-preserved c =
    let split = sum_to_split (node_entry c.args.table.now) c.loop-i.i c.loop-i.auto.i in
    rw add-one (omega arith, omega arith, omega arith)
