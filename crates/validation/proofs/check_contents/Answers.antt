-- `validation::check_contents` meets its contract: what the first check gave bounds the number of nodes. Assumes nothing.
use Prim.Native.Nat.{ℕ, ◌≤◌}
use mathlib.Core.Path.{◌≡◌, sym, ap}
use native.Mathlib.Omega.{arith}
use Rattle.model.specs.Limits.{max_nodes}
use Rattle.model.specs.Refusal.{accepted, refuse, refuse_if, outside}
use Rattle.model.proofs.Sheet.Range.{within}
use Rattle.model.proofs.Sheet.Refusals.{refuse_if_none}
use Rattle.validation.proofs.check_contents.Goals as goal

-- a number of nodes that is not refused
few : (n : ℕ) → accepted ≡ refuse_if (outside 1 max_nodes n) (refuse 2 0 0) → n ≤ max_nodes
few n passes = (within 1 max_nodes n (refuse_if_none (outside 1 max_nodes n) (refuse 2 0 0) (λ e. omega arith) (sym (ap (λ a. a.number) passes)))).1

pub overflow_cast-nodes : goal.overflow_cast-nodes
overflow_cast-nodes c =
    let n = few _ (rw c.nodes_outside.ensures at c.in_ok-refuse_if.ensures) in
    omega (arith, n)
