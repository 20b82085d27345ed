-- `report::begins::put_releases` meets its contract: the lines of the releases before this turn's are put.
-- Assumes nothing.
use Rattle.digits.specs.Put.{Adds}
use Rattle.texts.specs.Text.{lines_to, begin_line}
use Rattle.report.proofs.begins.put_releases.Given as goal

abbrev pub invariant-loop-i : goal.invariant-loop-i
invariant-loop-i l = Adds l.fn.text (lines_to (begin_line l.begins) l.i) l.text
