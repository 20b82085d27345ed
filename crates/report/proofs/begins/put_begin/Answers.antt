-- `report::begins::put_begin` meets its contract: the word for a release that has not begun is the one that is tested for.
-- Assumes nothing.
use borrow.Author.Tests.{eq-eqb, ne_eqb}
use Rattle.model.specs.Limits.{not_begun}
use Rattle.texts.specs.Text.{begin_text}
use Rattle.digits.proofs.Putting.{adds_then}
use Rattle.report.proofs.begins.put_begin.Goals as goal

pub returns-then-begin-eq-NOT_BEGUN : goal.returns-then-begin-eq-NOT_BEGUN
unfolding begin_text
returns-then-begin-eq-NOT_BEGUN c =
    let begin = c.args.begin in
    rw (eq-eqb begin not_begun c.if-begin-eq-NOT_BEGUN.true) c.put.ensures

pub returns : goal.returns
unfolding begin_text
returns c =
    let begin = c.args.begin in
    rw (ne_eqb begin not_begun c.if-begin-eq-NOT_BEGUN.false) (adds_then c.put_labelled.ensures c.put-2.ensures)
