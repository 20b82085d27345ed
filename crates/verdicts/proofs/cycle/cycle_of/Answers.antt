-- `verdicts::cycle::cycle_of` meets its contract: each factor is the definition's, and the whole bounds its two parts.
-- Assumes nothing.
use Prim.Native.Nat.{◌+◌, ◌*◌}
use mathlib.Core.Path.{◌≡◌, ap₂}
use native.Mathlib.Omega.{arith}
use Rattle.model.specs.Sheet.{nodes, message_ticks, slot_ticks, budgets_up_to, cycle}
use Rattle.model.proofs.Sheet.ValidSheet.{valid_fits}
use Rattle.model.proofs.Sheet.NodeSums.{cycle_most}
use Rattle.verdicts.proofs.cycle.cycle_of.Goals as goal
use Rattle.verdicts.proofs.cycle.cycle_of.Lts as lts
use Rattle.verdicts.proofs.cycle.cycle_of.Tie as tie
use Rattle.verdicts.proofs.cycle.cycle_of.Reads as reads

-- The messages of a cycle, in the code and in the definition.
messages : (c : lts.After-word_at2 tie.the-claims reads.Pre reads.Post)
    → c.budgets_up_to.result * c.word_at.result
    ≡ budgets_up_to c.args.sheet.now (nodes c.args.sheet.now)
    * message_ticks c.args.sheet.now
messages c =
    ap₂ ◌*◌ (rw c.word_at-n.ensures at c.budgets_up_to.ensures) c.word_at.ensures

-- Its slots.
slots : (c : lts.After-word_at3 tie.the-claims reads.Pre reads.Post)
    → c.word_at-n.result * c.word_at-2.result
    ≡ nodes c.args.sheet.now
    * slot_ticks c.args.sheet.now
slots c = ap₂ ◌*◌ c.word_at-n.ensures c.word_at-2.ensures

pub overflow_mul-result : goal.overflow_mul-result
unfolding cycle
overflow_mul-result c =
    let s = c.args.sheet.now in
    omega (arith, messages c.before, cycle_most s (valid_fits s c.requires))

pub overflow_mul-result-2 : goal.overflow_mul-result-2
unfolding cycle
overflow_mul-result-2 c =
    let s = c.args.sheet.now in
    omega (arith, slots c.before, cycle_most s (valid_fits s c.requires))

pub overflow_add-result : goal.overflow_add-result
unfolding cycle
overflow_add-result c =
    let s = c.args.sheet.now in
    omega (arith, messages c.before.before, slots c.before, cycle_most s (valid_fits s c.requires))

pub returns : goal.returns
unfolding cycle
returns c = ap₂ ◌+◌ (messages c.before.before) (slots c.before)
