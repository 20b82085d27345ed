-- What tables that are not refused give, and that tables with these are not refused. Assumes nothing.
use Prim.Native.Nat.{ℕ, suc, ◌≤◌}
use native.Mathlib.Omega.{arith}
use mathlib.Core.Path.{◌≡◌, ap}
use mathlib.Core.Bool.{false, ◌||◌, not}
use lib.ListN.{length}
use lib.Dec.{eqb}
use borrow.Author.Tests.{eqb-true, eq-eqb, not-false}
use Rattle.theory.proofs.Tests.{or_neither, or_second}
use Rattle.model.specs.Limits.{max_nodes}
use Rattle.model.specs.Refusal.{refuse, refuse_if, outside}
use Rattle.model.specs.Sheet.{ticks_outside, counts_outside, times_outside}
use Rattle.model.proofs.Sheet.Range.{within, inside}
use Rattle.model.proofs.Sheet.Refusals.{or_else_both, or_else_none, refuse_if_none, refuse_if_passes, first_none, first_all}
use Rattle.tables.specs.Tables.{Tables, node_entry, sum_of, counts_before, stream_entry}
use Rattle.tables.specs.Writing.{table_row_refusal, table_stream_refusal, table_body_refusal, contents_refusal, lengths_differ, tables_refusal}

-- Refusals 2 and 3 and those of the rows do not apply.
pub record ContentsFit (t : Tables) : Type 0 where
  pub nodes_from : 1 ≤ length t.counts
  pub nodes_to : length t.counts ≤ max_nodes
  pub ticks : ticks_outside t.message t.slot ≡ false
  pub budgets_all : length t.budgets ≡ length t.counts
  pub rows : (k : ℕ) → 1 ≤ k → k ≤ length t.counts → counts_outside (node_entry t.counts k) (node_entry t.budgets k) ≡ false

-- None of refusals 2 to 5 applies.
pub record TablesFit (t : Tables) : Type 0 where
  pub contents : ContentsFit t
  pub periods_all : length t.periods ≡ sum_of t.counts
  pub deadlines_all : length t.deadlines ≡ sum_of t.counts
  pub jitters_all : length t.jitters ≡ sum_of t.counts
  pub streams : (k j : ℕ)
      → 1 ≤ k
      → k ≤ length t.counts
      → 1 ≤ j
      → j ≤ node_entry t.counts k
      → times_outside (stream_entry t.periods (counts_before t.counts k) j) (stream_entry t.deadlines (counts_before t.counts k) j) (stream_entry t.jitters (counts_before t.counts k) j) ≡ false

refuses : (number a b : ℕ) → (refuse (suc number) a b).number ≡ 0 → ⊥
refuses number a b e = omega arith

-- Two numbers that are not found to differ are the same.
same_if : (a b : ℕ) → not (eqb a b) ≡ false → a ≡ b
same_if a b e = eqb-true a b (not-false (eqb a b) e)

pub contents_fit : (t : Tables) → (contents_refusal t.message t.slot t.counts t.budgets).number ≡ 0 → ContentsFit t
unfolding contents_refusal table_row_refusal
contents_fit t e =
    let n = outside 1 max_nodes (length t.counts) in
    let ticks = ticks_outside t.message t.slot in
    let differ = not (eqb (length t.budgets) (length t.counts)) in
    let one = or_else_both (refuse_if n (refuse 2 0 0)) _ e in
    let two = or_else_both (refuse_if ticks (refuse 3 0 0)) _ one.1 in
    let three = or_else_both (refuse_if differ (refuse 4 0 0)) _ two.1 in
    let range = within 1 max_nodes (length t.counts) (refuse_if_none n (refuse 2 0 0) (refuses 1 0 0) one.0) in
    record {
      nodes_from = range.0;
      nodes_to = range.1;
      ticks = refuse_if_none ticks (refuse 3 0 0) (refuses 2 0 0) two.0;
      budgets_all = same_if _ _ (refuse_if_none differ (refuse 4 0 0) (refuses 3 0 0) three.0);
      rows =
          λ k low high.
          refuse_if_none (counts_outside (node_entry t.counts k) (node_entry t.budgets k)) (refuse 4 k 0) (refuses 3 k 0)
          (first_none (table_row_refusal t.counts t.budgets) 1 (length t.counts) three.1 k low (omega arith));
    }

pub tables_fit : (t : Tables) → (tables_refusal t).number ≡ 0 → TablesFit t
unfolding tables_refusal lengths_differ table_body_refusal table_stream_refusal
tables_fit t e =
    let short = not (eqb (length t.periods) (sum_of t.counts)) in
    let fewer = not (eqb (length t.deadlines) (sum_of t.counts)) in
    let one = or_else_both (contents_refusal t.message t.slot t.counts t.budgets) _ e in
    let least = not (eqb (length t.jitters) (sum_of t.counts)) in
    let two = or_else_both (refuse_if (short || fewer || least) (refuse 4 0 0)) _ one.1 in
    let all = or_neither (short || fewer) least (refuse_if_none (short || fewer || least) (refuse 4 0 0) (refuses 3 0 0) two.0) in
    let both = or_neither short fewer all.0 in
    record {
      contents = contents_fit t one.0;
      periods_all = same_if _ _ both.0;
      deadlines_all = same_if _ _ both.1;
      jitters_all = same_if _ _ all.1;
      streams =
          λ k j low high from to.
          let before = counts_before t.counts k in
          refuse_if_none (times_outside (stream_entry t.periods before j) (stream_entry t.deadlines before j) (stream_entry t.jitters before j)) (refuse 5 k j) (refuses 4 k j)
          (first_none (table_stream_refusal t.periods t.deadlines t.jitters before k) 1 (node_entry t.counts k)
          (first_none (table_body_refusal t.counts t.periods t.deadlines t.jitters) 1 (length t.counts) two.1 k low (omega arith))
          j
          from
          (omega arith));
    }

-- Tables that fit are not refused.
pub fit_passes : (t : Tables) → TablesFit t → (tables_refusal t).number ≡ 0
unfolding tables_refusal lengths_differ contents_refusal table_body_refusal table_row_refusal table_stream_refusal
fit_passes t fit =
    let c = fit.contents in
    or_else_none _ _ (
    or_else_none _ _ (refuse_if_passes _ (inside 1 max_nodes _ c.nodes_from c.nodes_to)) (
    or_else_none _ _ (refuse_if_passes _ c.ticks) (
    or_else_none _ _ (refuse_if_passes _ (ap not (eq-eqb _ _ c.budgets_all))) (
    first_all _ 1 (length t.counts) (λ k low high. refuse_if_passes _ (c.rows k low (omega arith))))))) (
    or_else_none _ _ (refuse_if_passes _ (or_second (or_second (ap not (eq-eqb _ _ fit.periods_all)) (ap not (eq-eqb _ _ fit.deadlines_all))) (ap not (eq-eqb _ _ fit.jitters_all)))) (
    first_all _ 1 (length t.counts) (
    λ k low high.
    first_all _ 1 (node_entry t.counts k) (λ j from to. refuse_if_passes _ (fit.streams k j low (omega arith) from (omega arith))))))
