-- `listing::put_wait` meets its contract: the parts of the line, one after the other.
-- Assumes nothing.
use Rattle.texts.specs.Text.{wait_line}
use Rattle.digits.proofs.Putting.{adds_then}
use Rattle.listing.proofs.put_wait.Goals as goal

pub returns : goal.returns
unfolding wait_line
returns c =
    let node = c.put_number.ensures in
    let stream = c.put_labelled.ensures in
    let wait = c.put_labelled-2.ensures in
    adds_then (adds_then (adds_then node stream) wait) c.put.ensures
