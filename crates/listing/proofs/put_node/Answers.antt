-- `listing::put_node` meets its contract: the lines of the streams before this turn's are put.
-- Assumes nothing.
use native.Mathlib.Omega.{arith}
use mathlib.Core.Path.{◌≡◌}
use Rattle.texts.specs.Text.{node_lines}
use Rattle.texts.proofs.Lines.{wait_line_lem}
use Rattle.listing.proofs.Lines.{adds_no_line, adds_next_line}
use Rattle.listing.proofs.put_node.Goals as goal

pub loop-j-init : goal.loop-j-init
loop-j-init c = adds_no_line _

pub loop-j-preserved : goal.loop-j-preserved
loop-j-preserved c =
    let a = c.args in
    let line = wait_line_lem a.sheet.now a.waits.now a.k c.loop-j.j c.requires.0 c.wide.ensures.0 c.word_at-wait.ensures in
    adds_next_line _ c.loop-j.j line c.loop-j.invariant c.put_wait.ensures

pub returns : goal.returns
unfolding node_lines
returns c =
    let count = c.stream_count-count in
    let done : c.loop-j.j ≡ count.result = omega arith in
    rw (done, count.ensures) at c.loop-j.invariant
