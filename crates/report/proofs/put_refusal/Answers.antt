-- `report::put_refusal` meets its contract: the parts of the line, one after the other.
-- Assumes nothing.
use Rattle.texts.specs.Text.{refusal_text}
use Rattle.digits.proofs.Putting.{adds_then}
use Rattle.report.proofs.put_refusal.Goals as goal

pub returns : goal.returns
unfolding refusal_text
returns c =
    let number = c.put_labelled.ensures in
    let second = c.put_labelled-2.ensures in
    let third = c.put_labelled-3.ensures in
    adds_then (adds_then (adds_then number second) third) c.put.ensures
