-- The rounds come to an end: each raises a budget and none over 16. What holds of the row that they end in. Assumes nothing.
use Prim.Native.Nat.{ℕ, zero, suc, ◌+◌, ◌*◌, ◌≤◌, ◌<◌}
use native.Mathlib.Nat.{le_refl}
use native.Mathlib.Omega.{arith}
use mathlib.Core.Path.{◌≡◌, refl}
use mathlib.Core.Bool.{Bool, true, false, ◌&&◌, not}
use mathlib.Core.List.{List}
use lib.Dec.{eqb, leb}
use borrow.Author.Tests.{eqb-true, eqb-false, ne_eqb, leb-false, not-true}
use Rattle.theory.proofs.Tests.{and_reading}
use Rattle.theory.proofs.Sums.{sum_to_less, sum_to_most, sum_to_least}
use Rattle.model.specs.Limits.{max_nodes, max_budget}
use Rattle.model.specs.Refusal.{refuse, first_of}
use Rattle.model.specs.Sheet.{nodes}
use Rattle.model.proofs.Sheet.Refusals.{first_none, first_found, refuse_if_none}
use Rattle.rounds.specs.Rounds.{budget_in, row_sum, late_with, has_late, first_row, raised, full_refusal, stuck_refusal, goes_on, rounds, max_rounds}
use Rattle.rounds.specs.Least.{OneToSixteen}
use Rattle.rounds.proofs.Rows.{row_in, raised_in, raised_either}

module _ (s : List ℕ) (few : nodes s ≤ max_nodes) where
  -- Where a round is to come, some stream is late and no late node has 16 already.
  on_late : (row : List ℕ) → goes_on s row ≡ true → ((first_of (late_with s row) 1 (nodes s)).number ≡ 0 → ⊥) × ((stuck_refusal s row).number ≡ 0)
  unfolding goes_on
  on_late row on =
      let parts = (and_reading (not (eqb (first_of (late_with s row) 1 (nodes s)).number 0)) (eqb (stuck_refusal s row).number 0)).0 on in
      (eqb-false (first_of (late_with s row) 1 (nodes s)).number 0 (not-true _ parts.0), eqb-true (stuck_refusal s row).number 0 parts.1)

  -- Where no late node has 16, each of them has less.
  late_has_room : (row : List ℕ) → (stuck_refusal s row).number ≡ 0 → (k : ℕ) → 1 ≤ k → k ≤ nodes s → has_late s row k ≡ true → budget_in row k < max_budget
  unfolding stuck_refusal full_refusal
  late_has_room row none k one inside late =
      let passes = first_none (full_refusal s row) 1 (nodes s) none k one (omega arith) in
      let test = refuse_if_none (has_late s row k && leb max_budget (budget_in row k)) (refuse 11 k 0) (λ e. omega arith) passes in
      leb-false max_budget (budget_in row k) (rw late at test)

  -- A budget that is raised or as it was is no less.
  raised_grows : (row : List ℕ) (k : ℕ) → 1 ≤ k → k ≤ nodes s → budget_in row k ≤ budget_in (raised s row) k
  raised_grows row k one inside =
      rw (raised_in s row few k one inside) (raised_either s row k (λ n. budget_in row k ≤ n) (λ late. omega arith) (le_refl _))

  -- A round keeps budgets from 1 to 16,
  pub raised_range : (row : List ℕ) → goes_on s row ≡ true → OneToSixteen s row → OneToSixteen s (raised s row)
  raised_range row on range k one inside =
      let before = range k one inside in (
        omega (arith, before.0, raised_grows row k one inside),
        rw (raised_in s row few k one inside)
            (raised_either s row k (λ n. n ≤ max_budget) (λ late. late_has_room row (on_late row on).1 k one inside late) before.1),
      )

  -- and raises their sum.
  pub raised_more : (row : List ℕ) → goes_on s row ≡ true → row_sum s row < row_sum s (raised s row)
  raised_more row on =
      let f = first_found (late_with s row) 1 (nodes s) (on_late row on).0 in
      let k = f.at in
      let inside : k ≤ nodes s = omega (arith, f.high) in
      let late : has_late s row k ≡ true = rw (ne_eqb (late_with s row k).number 0 (λ e. (on_late row on).0 (rw f.same e))) refl in
      sum_to_less (budget_in row) (budget_in (raised s row)) (nodes s) k (raised_grows row) f.low inside
      (rw (raised_in s row few k f.low inside, late) (le_refl _))

  -- The first row has them, and its sum leaves rounds enough.
  pub first_range : OneToSixteen s (first_row s)
  unfolding first_row
  first_range k one inside = let e = row_in s (λ i. 1) few k one inside in (omega (arith, e), omega (arith, e))

  pub first_enough : nodes s * max_budget < row_sum s (first_row s) + max_rounds
  first_enough = omega (arith, few, sum_to_least (budget_in (first_row s)) (nodes s) (λ k one inside. (first_range k one inside).0))

  -- What a round keeps, the rounds keep.
  pub rounds_keep : (P : List ℕ → Type 0)
      → ((row : List ℕ) → goes_on s row ≡ true → P row → P (raised s row))
      → (more : ℕ) (row : List ℕ)
      → P row
      → P (rounds s more row)
  unfolding rounds
  rounds_keep P keep zero row p = p
  rounds_keep P keep (suc more) row p = go (goes_on s row) refl (λ q. rounds_keep P keep more (raised s row) q)
    where
      go : (b : Bool)
          → goes_on s row ≡ b
          → (P (raised s row) → P (rounds s more (raised s row)))
          → P (elim b [ true ↦ rounds s more (raised s row) | false ↦ row ])
      go true on later = later (keep row on p)
      go false off later = p

  -- With a sum of at most 16 a node, enough rounds come to an end.
  pub settled : (more : ℕ) (row : List ℕ) → OneToSixteen s row → nodes s * max_budget < row_sum s row + more → goes_on s (rounds s more row) ≡ false
  unfolding rounds
  settled zero row range enough =
      absurd (omega (arith, sum_to_most (budget_in row) max_budget (nodes s) (λ k one inside. (range k one inside).1)))
  settled (suc more) row range enough = go (goes_on s row) refl (settled more (raised s row))
    where
      go : (b : Bool)
          → goes_on s row ≡ b
          → (OneToSixteen s (raised s row) → nodes s * max_budget < row_sum s (raised s row) + more → goes_on s (rounds s more (raised s row)) ≡ false)
          → goes_on s (elim b [ true ↦ rounds s more (raised s row) | false ↦ row ]) ≡ false
      go true on later = later (raised_range row on range) (omega (arith, raised_more row on))
      go false off later = off
