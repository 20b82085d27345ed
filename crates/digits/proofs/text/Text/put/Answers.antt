-- `digits::Text::put` meets its contract: the bytes before this turn's are put, and then this one.
-- Assumes nothing.
use native.Mathlib.Omega.{arith}
use Rattle.std.proofs.lemmas.List.{take_more}
use Rattle.digits.proofs.Putting.{adds_then}
use Rattle.digits.proofs.text.Text.put.Goals as goal

pub loop-byte-preserved : goal.loop-byte-preserved
loop-byte-preserved c =
    rw (take_more c.args.bytes.now c.loop-byte.byte-index 0 (omega arith)) (adds_then c.loop-byte.invariant c.put_byte.ensures)
