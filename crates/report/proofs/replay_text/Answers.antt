-- `report::replay_text` meets its contract: the table where the replay succeeded, and the refusal otherwise. Every number in it is a
-- word, so it is no longer than the longest.
-- Assumes nothing.
use native.Mathlib.Omega.{arith}
use borrow.Author.Rules.{rules}
use Rattle.digits.proofs.Putting.{from_front, shown}
use Rattle.texts.proofs.Answered.{replayed, not_replayed}
use Rattle.texts.proofs.Lengths.{replay_length}
use Rattle.report.proofs.replay_text.Goals as goal

pub returns-then-answer-eq0 : goal.returns-then-answer-eq0
returns-then-answer-eq0 c =
    let a = c.args in
    let text = replayed a.begins.now a.count a.answer c.if-answer-eq0.true in
    let put = from_front c.at_front-text.ensures.buffer c.at_front-text.ensures.front c.put_begins.ensures in
    let said = shown text (λ few. replay_length a.begins.now a.count a.answer few (λ i. (c.type_inv.begins i).fits) (omega arith)) put in
    search rules

pub returns : goal.returns
returns c =
    let a = c.args in
    let text = not_replayed a.begins.now a.count a.answer c.if-answer-eq0.false in
    let put = from_front c.at_front-text.ensures.buffer c.at_front-text.ensures.front c.put_refusal.ensures in
    let said = shown text (λ few. replay_length a.begins.now a.count a.answer few (λ i. (c.type_inv.begins i).fits) (omega arith)) put in
    search rules
