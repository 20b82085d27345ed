-- The row in which the rounds end: where no late node has 16 already it admits the sheet, and otherwise no row does; and it is at or
-- under every row that does. Assumes nothing.
use Prim.Native.Nat.{ℕ, ◌≤◌, ◌<◌}
use native.Mathlib.Nat.{one-le-mul}
use native.Mathlib.Omega.{arith}
use mathlib.Core.Path.{◌≡◌, refl, ap, ◌∙◌}
use mathlib.Core.Bool.{Bool, true, false, ◌&&◌, not}
use mathlib.Core.List.{List}
use lib.Dec.{eqb, leb}
use borrow.Author.Tests.{eqb-true, eq-eqb, leb-true}
use Rattle.model.specs.declared.Answer.{Answer}
use Rattle.model.specs.Limits.{max_nodes, max_budget}
use Rattle.model.specs.Refusal.{refuse, accepted, refuse_if, first_of}
use Rattle.model.specs.Sheet.{nodes}
use Rattle.model.proofs.Sheet.Refusals.{first_found}
use Rattle.model.proofs.Sheet.ValidSheet.{SheetFits}
use Rattle.rounds.specs.Rounds.{budget_in, row_cycle, late_with, Admits, has_late, first_row, full_refusal, stuck_refusal, goes_on, max_rounds, last_row}
use Rattle.rounds.specs.Least.{OneToSixteen, AtMost}
use Rattle.rounds.proofs.Rows.{row_in}
use Rattle.rounds.proofs.Under.{late_less, raised_under}
use Rattle.rounds.proofs.Settling.{raised_range, first_range, first_enough, rounds_keep, settled}

module _ (s : List ℕ) (fits : SheetFits s) where
  few : nodes s ≤ max_nodes
  few = fits.header.nodes_to

  -- A cycle takes some time, whatever the row.
  positive : (row : List ℕ) → 0 < row_cycle s row
  positive row = omega (arith, one-le-mul fits.header.nodes_from fits.header.slot_from)

  -- The row has budgets from 1 to 16,
  pub last_range : OneToSixteen s (last_row s)
  unfolding last_row
  last_range = rounds_keep s few (OneToSixteen s) (λ row on range. raised_range s few row on range) max_rounds (first_row s) (first_range s few)

  -- no round is to come after it,
  last_settled : goes_on s (last_row s) ≡ false
  unfolding last_row
  last_settled = settled s few max_rounds (first_row s) (first_range s few) (first_enough s few)

  -- and it is at or under every row that admits the sheet.
  pub last_under : (other : List ℕ) → OneToSixteen s other → Admits s other → AtMost s (last_row s) other
  unfolding last_row first_row
  last_under other range admits =
      rounds_keep s few (λ row. AtMost s row other) (λ row on under. raised_under s row other few (positive row) under admits) max_rounds (first_row s)
      (λ k one inside. rw (row_in s (λ i. 1) few k one inside) (range k one inside).0)

  -- Where no late node has 16 already, the row admits the sheet.
  pub last_admits : (stuck_refusal s (last_row s)).number ≡ 0 → Admits s (last_row s)
  unfolding goes_on
  last_admits none =
      let late = (first_of (late_with s (last_row s)) 1 (nodes s)).number in
      let off : not (eqb late 0) && true ≡ false = rw (eq-eqb (stuck_refusal s (last_row s)).number 0 none) at last_settled in
      go (eqb late 0) refl off
    where
      go : (b : Bool) → eqb (first_of (late_with s (last_row s)) 1 (nodes s)).number 0 ≡ b → not b && true ≡ false → Admits s (last_row s)
      go true e h = eqb-true _ 0 e
      go false e h = let z : ◌≡◌ {A = ℕ} 0 1 = cc in absurd (omega arith)

  -- A late node that has 16 already,
  record Stuck : Type 0 where
    node : ℕ
    low : 1 ≤ node
    high : node ≤ nodes s
    late : has_late s (last_row s) node ≡ true
    full : max_budget ≤ budget_in (last_row s) node
    place : stuck_refusal s (last_row s) ≡ refuse 11 node 0

  stuck_node : ((stuck_refusal s (last_row s)).number ≡ 0 → ⊥) → Stuck
  unfolding stuck_refusal full_refusal refuse_if
  stuck_node refuses =
      let f = first_found (full_refusal s (last_row s)) 1 (nodes s) refuses in
      let k = f.at in
      go k f.low (omega (arith, f.high)) f.same (has_late s (last_row s) k) refl (leb max_budget (budget_in (last_row s) k)) refl
    where
      go : (k : ℕ)
          → 1 ≤ k
          → k ≤ nodes s
          → first_of (full_refusal s (last_row s)) 1 (nodes s) ≡ full_refusal s (last_row s) k
          → (b : Bool)
          → has_late s (last_row s) k ≡ b
          → (d : Bool)
          → leb max_budget (budget_in (last_row s) k) ≡ d
          → Stuck
      go k low high same true late true full =
          record { node = k; low = low; high = high; late = late; full = leb-true _ _ full; place = same ∙ (rw (late, full) refl) }
      go k low high same true late false full =
          let passed : full_refusal s (last_row s) k ≡ accepted = rw (late, full) refl in
          absurd (refuses (ap (λ (a : Answer). a.number) (same ∙ passed)))
      go k low high same false late d full =
          let passed : full_refusal s (last_row s) k ≡ accepted = rw late refl in
          absurd (refuses (ap (λ (a : Answer). a.number) (same ∙ passed)))

  -- leaves no row,
  pub stuck_none : ((stuck_refusal s (last_row s)).number ≡ 0 → ⊥) → (other : List ℕ) → OneToSixteen s other → Admits s other → ⊥
  stuck_none refuses other range admits =
      let it = stuck_node refuses in
      omega (
        arith,
        late_less s (last_row s) other few (positive (last_row s)) (last_under other range admits) admits it.node it.low it.high it.late,
        it.full,
        (range it.node it.low it.high).1,
      )

  -- and is what refusal 11 tells.
  pub stuck_eleven : ((stuck_refusal s (last_row s)).number ≡ 0 → ⊥) → (stuck_refusal s (last_row s)).number ≡ 11
  stuck_eleven refuses = ap (λ (a : Answer). a.number) (stuck_node refuses).place
