-- `wistorvan_one_stream` meets its contract: the three numbers are those of the outcome. Assumes nothing.
use mathlib.Core.Path.{◌∙◌}
use Rattle.refusals.proofs.Chains.{matched}
use Rattle.analysis.specs.Numbers.{listed_numbers}
use Rattle.wistorvan.proofs.wistorvan_one_stream.Goals as goal

pub returns : goal.returns
returns c =
    let same = matched listed_numbers c.one_stream.result c.answer_of.ensures in
    record { answer = same ∙ c.one_stream.ensures.answer; demand = λ valid on. rw same (c.one_stream.ensures.demand valid on) }
