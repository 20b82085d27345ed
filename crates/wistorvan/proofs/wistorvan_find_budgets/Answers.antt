-- `wistorvan_find_budgets` meets its contract: the three numbers are those of the outcome. Assumes nothing.
use mathlib.Core.Path.{◌∙◌}
use Rattle.refusals.proofs.Chains.{matched}
use Rattle.budgets.specs.Numbers.{row_numbers}
use Rattle.wistorvan.proofs.wistorvan_find_budgets.Goals as goal

pub returns : goal.returns
returns c =
    let same = matched row_numbers c.find_budgets.result c.answer_of.ensures in
    record {
      answer = same ∙ c.find_budgets.ensures.answer;
      buffer = c.find_budgets.ensures.buffer;
      least = λ valid enough. rw same (c.find_budgets.ensures.least valid enough);
    }
