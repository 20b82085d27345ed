-- `report::admit_text` meets its contract: the table where admit succeeded, and the refusal otherwise. Every number in it is a word, so
-- it is no longer than the longest.
-- Assumes nothing.
use native.Mathlib.Omega.{arith}
use borrow.Author.Rules.{rules}
use Rattle.digits.proofs.Putting.{from_front, shown}
use Rattle.texts.proofs.Answered.{admitted, not_admitted}
use Rattle.texts.proofs.Lengths.{admit_length}
use Rattle.report.proofs.admit_text.Goals as goal

pub returns-then-answer-eq0 : goal.returns-then-answer-eq0
returns-then-answer-eq0 c =
    let a = c.args in
    let text = admitted a.sheet.now a.waits.now a.answer c.if-answer-eq0.true in
    let put = from_front c.at_front-text.ensures.buffer c.at_front-text.ensures.front c.put_waits.ensures in
    let said = shown text (λ valid. admit_length a.sheet.now a.waits.now a.answer valid (λ i. (c.type_inv.waits i).fits) (omega arith)) put in
    search rules

pub returns : goal.returns
returns c =
    let a = c.args in
    let text = not_admitted a.sheet.now a.waits.now a.answer c.if-answer-eq0.false in
    let put = from_front c.at_front-text.ensures.buffer c.at_front-text.ensures.front c.put_refusal.ensures in
    let said = shown text (λ valid. admit_length a.sheet.now a.waits.now a.answer valid (λ i. (c.type_inv.waits i).fits) (omega arith)) put in
    search rules
