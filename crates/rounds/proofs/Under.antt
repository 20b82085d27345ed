-- A row at or under one that admits the sheet: a node with a late stream has less than there, so that a round stays at or under it.
-- Assumes nothing.
use Prim.Native.Nat.{ℕ, ◌≤◌, ◌<◌}
use native.Mathlib.Nat.{eq-or-lt_of_le}
use native.Mathlib.Omega.{arith}
use mathlib.Core.Path.{◌≡◌, refl}
use mathlib.Core.Logic.{⊎_elim}
use mathlib.Core.Bool.{Bool, true, false, not}
use mathlib.Core.List.{List}
use lib.Dec.{eqb}
use borrow.Author.Tests.{eqb-false}
use Rattle.model.specs.Limits.{max_nodes}
use Rattle.model.specs.Sheet.{nodes}
use Rattle.model.proofs.Sheet.Refusals.{first_none}
use Rattle.model.proofs.Answers.LongerLate.{node_late_longer}
use Rattle.rounds.specs.Rounds.{budget_in, row_cycle, late_with, Admits, has_late, raised}
use Rattle.rounds.specs.Least.{AtMost}
use Rattle.rounds.proofs.Rows.{raised_in, raised_either, cycle_under}

-- What it is to have a late stream.
pub has_late_lem : (s row : List ℕ) (k : ℕ) → has_late s row k ≡ true → (late_with s row k).number ≡ 0 → ⊥
has_late_lem s row k late none = go (eqb (late_with s row k).number 0) refl late
  where
    go : (b : Bool) → eqb (late_with s row k).number 0 ≡ b → not b ≡ true → ⊥
    go true e h = let z : ◌≡◌ {A = ℕ} 0 1 = cc in omega arith
    go false e h = eqb-false (late_with s row k).number 0 e none

module _ (s row other : List ℕ)
    (few : nodes s ≤ max_nodes)
    (positive : 0 < row_cycle s row)
    (under : AtMost s row other)
    (admits : Admits s other)
  where
    -- A node with a late stream has less than in the row that admits: with as much it would be late there too.
    pub late_less : (k : ℕ) → 1 ≤ k → k ≤ nodes s → has_late s row k ≡ true → budget_in row k < budget_in other k
    late_less k one inside late =
        ⊎_elim
        (λ same.
        absurd
        (node_late_longer s (row_cycle s row) (row_cycle s other) (budget_in row k) k (cycle_under s row other under) positive (has_late_lem s row k late)
        (rw same (first_none (late_with s other) 1 (nodes s) admits k one (omega arith)))))
        (λ less. less)
        (eq-or-lt_of_le (under k one inside))

    -- A round stays at or under it.
    pub raised_under : AtMost s (raised s row) other
    raised_under k one inside =
        rw (raised_in s row few k one inside)
        (raised_either s row k (λ n. n ≤ budget_in other k) (λ late. late_less k one inside late) (under k one inside))
