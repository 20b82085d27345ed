-- `wistorvan_write_sheet` meets its contract: the three numbers are those of the outcome. Assumes nothing.
use mathlib.Core.Path.{◌∙◌}
use Rattle.refusals.proofs.Chains.{matched, told}
use Rattle.tables.specs.Tables.{lent_tables}
use Rattle.tables.specs.Writing.{ReadsBack}
use Rattle.writer.specs.Numbers.{written_numbers}
use Rattle.wistorvan.proofs.wistorvan_write_sheet.Goals as goal

pub returns : goal.returns
returns c =
    let a = c.args in
    let done = c.write_sheet.ensures in
    let same = c.answer_of.ensures in
    let tables = lent_tables a.message_ticks a.slot_ticks a.counts.now a.budgets.now a.periods.now a.deadlines.now a.jitters.now in
    let numbers = matched written_numbers c.write_sheet.result same in
    record {
      answer = numbers ∙ done.answer;
      buffer = done.buffer;
      reads = told (λ x. ReadsBack tables x.second x.third c.write_sheet.new.room) written_numbers c.write_sheet.result same done.reads;
      again = rw numbers done.again;
    }
