-- The full cycle and the budgets of a row are as a node can have them. Assumes nothing.
use Prim.Native.Nat.{ℕ, ◌≤◌}
use native.Mathlib.Omega.{arith}
use mathlib.Core.List.{List}
use Rattle.theory.proofs.Sums.{sum_to_most, sum_to_least}
use Rattle.model.specs.Limits.{max_budget}
use Rattle.model.specs.Sheet.{nodes}
use Rattle.model.proofs.Sheet.ValidSheet.{SheetFits}
use Rattle.model.proofs.Sheet.NodeSums.{full_cycle_least, full_cycle_most}
use Rattle.interference.specs.InRange.{max_cycle, CycleAndBudget}
use Rattle.rounds.specs.Rounds.{budget_in, row_sum, row_cycle}
use Rattle.rounds.specs.Least.{OneToSixteen}

module _ (s row : List ℕ) (fits : SheetFits s) (range : OneToSixteen s row) where
  -- The cycle of a row at most,
  pub row_cycle_most : row_cycle s row ≤ max_cycle
  row_cycle_most =
      let h = fits.header in
      let sum : row_sum s row ≤ 256 = omega (arith, sum_to_most (budget_in row) max_budget (nodes s) (λ k one inside. (range k one inside).1), h.nodes_to) in
      full_cycle_most sum h.message_to h.nodes_to h.slot_to

  -- and at least: a message and a slot.
  row_cycle_least : 2 ≤ row_cycle s row
  row_cycle_least =
      let h = fits.header in
      let each = sum_to_least (budget_in row) (nodes s) (λ k one inside. (range k one inside).0) in
      full_cycle_least (omega (arith, each, h.nodes_from)) h.message_from h.nodes_from h.slot_from

  -- So a node is judged with numbers in range.
  pub row_shares : (k : ℕ) → 1 ≤ k → k ≤ nodes s → CycleAndBudget (row_cycle s row) (budget_in row k)
  row_shares k one inside =
      record {
        cycle_from = row_cycle_least;
        cycle_to = row_cycle_most;
        budget_from = (range k one inside).0;
        budget_to = (range k one inside).1;
      }
