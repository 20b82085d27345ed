-- `verdicts::cycle::budgets_up_to` meets its contract: the sum so far and the next budget are those up to that node.
-- Assumes nothing.
use Prim.Native.Nat.{◌+◌, ◌≤◌}
use mathlib.Core.Path.{◌≡◌}
use Rattle.model.specs.Sheet.{budget, budgets_up_to}
use Rattle.verdicts.proofs.cycle.budgets_up_to.Given as goal

abbrev pub invariant-loop-k : goal.invariant-loop-k
invariant-loop-k l = (l.k ≤ l.n + 1) × (l.sum + budget l.sheet l.k ≡ budgets_up_to l.sheet l.k)
