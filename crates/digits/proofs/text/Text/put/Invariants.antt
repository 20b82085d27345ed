-- `digits::Text::put` meets its contract: the bytes before this turn's are put.
-- Assumes nothing.
use lib.ListN.{take}
use Rattle.digits.specs.Put.{Adds}
use Rattle.digits.proofs.text.Text.put.Given as goal

abbrev pub invariant-loop-byte : goal.invariant-loop-byte
invariant-loop-byte l = Adds l.fn.self (take l.byte-index l.bytes) l.self
