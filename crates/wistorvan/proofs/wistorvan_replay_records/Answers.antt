-- `wistorvan_replay_records` meets its contract: the three numbers are those of the outcome. Assumes nothing.
use mathlib.Core.Path.{◌∙◌}
use Rattle.refusals.proofs.Chains.{matched, told}
use Rattle.model.specs.Demand.{WholeReplay, NoneOver}
use Rattle.bus.specs.Numbers.{replayed_numbers}
use Rattle.wistorvan.proofs.wistorvan_replay_records.Goals as goal

pub returns : goal.returns
returns c =
    let a = c.args in
    let done = c.replay_with_records.ensures in
    let same = c.answer_of.ensures in
    let new = c.replay_with_records.new in
    record {
      answer = matched replayed_numbers c.replay_with_records.result same ∙ done.answer;
      buffer = done.buffer;
      records = done.records;
      demand = told (λ x. WholeReplay a.sheet.now a.log.now a.horizon x.second x.third new.room × NoneOver a.sheet.now a.log.now a.horizon new.records) replayed_numbers c.replay_with_records.result same done.demand;
    }
