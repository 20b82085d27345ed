-- `listing::put_waits` meets its contract: the head, the lines, and the parts of the line under them.
-- Assumes nothing.
use Rattle.texts.specs.Text.{wait_table}
use Rattle.digits.proofs.Putting.{adds_then}
use Rattle.listing.proofs.put_waits.Goals as goal

pub returns : goal.returns
unfolding wait_table
returns c =
    let lines = adds_then c.put.ensures c.put_nodes.ensures in
    let streams = c.put_labelled.ensures in
    adds_then (adds_then lines streams) c.put-2.ensures
