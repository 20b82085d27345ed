-- `report::begins::put_releases` meets its contract: the lines of the releases before this turn's are put.
-- Assumes nothing.
use Rattle.texts.specs.Text.{begin_line}
use Rattle.digits.proofs.Putting.{adds_then}
use Rattle.listing.proofs.Lines.{adds_no_line, adds_next_line}
use Rattle.texts.proofs.Lines.{begin_line_lem}
use Rattle.report.proofs.begins.put_releases.Goals as goal

pub loop-i-init : goal.loop-i-init
loop-i-init c = adds_no_line _

pub loop-i-preserved : goal.loop-i-preserved
loop-i-preserved c =
    let loop = c.loop-i in
    let begins = c.args.begins.now in
    let line = begin_line_lem begins loop.i c.word_at.ensures in
    adds_next_line (begin_line begins) loop.i line loop.invariant (adds_then c.put_number.ensures c.put_begin.ensures)
