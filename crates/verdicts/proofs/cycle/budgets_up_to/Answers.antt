-- `verdicts::cycle::budgets_up_to` meets its contract: the sum so far and the next budget are those up to that node, 256 at most.
-- Assumes nothing.
use Prim.Native.Nat.{◌+◌}
use mathlib.Core.Path.{◌≡◌, refl, sym}
use native.Mathlib.Omega.{arith}
use Rattle.theory.proofs.Sums.{sum_to_none, sum_to_more, sum_to_grows}
use Rattle.model.specs.Sheet.{nodes, budget}
use Rattle.model.proofs.Sheet.ValidSheet.{valid_fits}
use Rattle.model.proofs.Sheet.NodeSums.{budgets_most}
use Rattle.verdicts.proofs.cycle.budgets_up_to.Goals as goal

pub loop-k-init : goal.loop-k-init
loop-k-init c =
    let budgets = budget c.args.sheet.now in
    (omega arith, sum_to_more budgets 0 (sym (sum_to_none budgets)) refl)

pub overflow_add-sum : goal.overflow_add-sum
overflow_add-sum c =
    let s = c.args.sheet.now in
    omega (arith, c.loop-k.invariant.1, sum_to_grows (budget s) c.loop-k.k (nodes s) (omega arith), budgets_most s (valid_fits s c.requires.0))

pub loop-k-preserved : goal.loop-k-preserved
loop-k-preserved c =
    (omega arith, sum_to_more (budget c.args.sheet.now) c.loop-k.k (rw c.budget_of-sum.ensures c.loop-k.invariant.1) refl)

pub returns : goal.returns
returns c =
    let past : c.loop-k.k ≡ c.args.n + 1 = omega arith in
    omega (arith, rw past at c.loop-k.invariant.1, sum_to_more (budget c.args.sheet.now) c.args.n refl refl)
