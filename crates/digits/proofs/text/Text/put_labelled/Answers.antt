-- `digits::Text::put_labelled` meets its contract: the number is put after the bytes. Assumes nothing.
use Rattle.digits.proofs.Putting.{adds_then}
use Rattle.digits.proofs.text.Text.put_labelled.Goals as goal

pub returns : goal.returns
returns c = adds_then c.put.ensures c.put_number.ensures
