-- `wistorvan_replay` meets its contract: the three numbers are those of the outcome. Assumes nothing.
use mathlib.Core.Path.{◌∙◌}
use Rattle.refusals.proofs.Chains.{matched, told}
use Rattle.model.specs.Demand.{WholeReplay}
use Rattle.bus.specs.Numbers.{replayed_numbers}
use Rattle.wistorvan.proofs.wistorvan_replay.Goals as goal

pub returns : goal.returns
returns c =
    let a = c.args in
    let done = c.replay.ensures in
    let same = c.answer_of.ensures in
    record {
      answer = matched replayed_numbers c.replay.result same ∙ done.answer;
      buffer = done.buffer;
      demand = told (λ x. WholeReplay a.sheet.now a.log.now a.horizon x.second x.third c.replay.new.room) replayed_numbers c.replay.result same done.demand;
    }
