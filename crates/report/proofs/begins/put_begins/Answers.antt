-- `report::begins::put_begins` meets its contract: the head, the lines, and the parts of the line under them.
-- Assumes nothing.
use Rattle.texts.specs.Text.{begin_table}
use Rattle.digits.proofs.Putting.{adds_then}
use Rattle.report.proofs.begins.put_begins.Goals as goal

pub returns : goal.returns
unfolding begin_table
returns c =
    let lines = adds_then c.put.ensures c.put_releases.ensures in
    let turns = c.put_labelled.ensures in
    let next = c.put_labelled-2.ensures in
    adds_then (adds_then (adds_then lines turns) next) c.put-2.ensures
