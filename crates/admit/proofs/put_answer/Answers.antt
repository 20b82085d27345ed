-- `admit::put_answer` meets its contract: the buffer has room for the whole text.
-- Assumes nothing.
use native.Mathlib.Omega.{arith}
use mathlib.Core.Path.{refl, ◌∙◌}
use Rattle.refusals.proofs.Chains.{matched}
use Rattle.analysis.specs.Numbers.{admitted_numbers}
use Rattle.admit.proofs.Output.{admits_valid, answered}
use Rattle.admit.proofs.put_answer.Goals as goal

pub returns-clause-text : goal.returns-clause-text
returns-clause-text c =
    let sheet = c.args.sheet.now in
    let answer = matched admitted_numbers c.admit.result c.answer_of-answer.ensures ∙ c.admit.ensures.answer in
    c.admit_text.ensures.whole (λ passes. admits_valid sheet 256 (rw answer at passes)) (omega arith)
    ∙ answered sheet _ refl answer c.admit.ensures.buffer
