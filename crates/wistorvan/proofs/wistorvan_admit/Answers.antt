-- `wistorvan_admit` meets its contract: the three numbers are those of the outcome. Assumes nothing.
use mathlib.Core.Path.{◌∙◌}
use Rattle.refusals.proofs.Chains.{matched}
use Rattle.analysis.specs.Numbers.{admitted_numbers}
use Rattle.wistorvan.proofs.wistorvan_admit.Goals as goal

pub returns : goal.returns
returns c =
    let same = matched admitted_numbers c.admit.result c.answer_of.ensures in
    record {
      answer = same ∙ c.admit.ensures.answer;
      buffer = c.admit.ensures.buffer;
      demand = λ valid enough. rw same (c.admit.ensures.demand valid enough);
    }
