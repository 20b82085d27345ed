-- `rows::row_cycle` meets its contract: the sum is the definition's. Assumes nothing.
use Prim.Native.Nat.{◌*◌}
use mathlib.Core.Path.{◌≡◌, ap₂}
use native.Mathlib.Omega.{arith}
use Rattle.model.specs.Sheet.{nodes, message_ticks, slot_ticks}
use Rattle.model.proofs.Sheet.ValidSheet.{valid_fits}
use Rattle.rounds.specs.Rounds.{row_sum}
use Rattle.rows.proofs.Ranges.{row_cycle_most}
use Rattle.rows.proofs.row_cycle.Goals as goal
use Rattle.rows.proofs.row_cycle.Lts as lts
use Rattle.rows.proofs.row_cycle.Tie as tie
use Rattle.rows.proofs.row_cycle.Reads as reads

-- The messages of a cycle, in the code and in the definition.
messages : (c : lts.After-word_at tie.the-claims reads.Pre reads.Post)
    → c.row_sum.result * c.word_at.result
    ≡ row_sum c.args.sheet.now c.args.row * message_ticks c.args.sheet.now
messages c = ap₂ ◌*◌ c.row_sum.ensures c.word_at.ensures

-- Its slots.
slots : (c : lts.After-word_at3 tie.the-claims reads.Pre reads.Post)
    → c.word_at-2.result * c.word_at-3.result
    ≡ nodes c.args.sheet.now * slot_ticks c.args.sheet.now
slots c = ap₂ ◌*◌ c.word_at-2.ensures c.word_at-3.ensures

pub overflow_mul-result : goal.overflow_mul-result
overflow_mul-result c =
    let a = c.args in
    let p = c.requires in
    omega (arith, messages c.before, row_cycle_most a.sheet.now a.row (valid_fits a.sheet.now p.0) p.1.range)

pub overflow_mul-result-2 : goal.overflow_mul-result-2
overflow_mul-result-2 c =
    let a = c.args in
    let p = c.requires in
    omega (arith, slots c.before, row_cycle_most a.sheet.now a.row (valid_fits a.sheet.now p.0) p.1.range)

pub overflow_add-result : goal.overflow_add-result
overflow_add-result c =
    let a = c.args in
    let p = c.requires in
    omega (arith, messages c.before.before.before, slots c.before, row_cycle_most a.sheet.now a.row (valid_fits a.sheet.now p.0) p.1.range)
