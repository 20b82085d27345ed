-- How large the sums of tables that are not refused can be, and C. Assumes nothing.
use Prim.Native.Nat.{ℕ, suc, ◌*◌, ◌≤◌}
use native.Mathlib.Omega.{arith}
use lib.ListN.{length}
use Rattle.theory.proofs.Sums.{sum_to_most}
use Rattle.model.specs.Limits.{max_nodes, max_streams, max_budget}
use Rattle.model.proofs.Sheet.NodeSums.{full_cycle_most}
use Rattle.model.proofs.Sheet.ValidSheet.{ticks_within, counts_within}
use Rattle.tables.specs.Tables.{Tables, node_entry, sum_of, counts_before}
use Rattle.tables.specs.Writing.{cycle_of}
use Rattle.tables.proofs.Passing.{ContentsFit}

module _ (t : Tables) (fit : ContentsFit t) where
  -- Sixteen nodes of sixteen streams, and of sixteen messages, at most.
  pub streams_most : (k : ℕ) → k ≤ length t.counts → counts_before t.counts (suc k) ≤ max_nodes * max_streams
  streams_most k high =
      omega (
        arith,
        fit.nodes_to,
        sum_to_most (node_entry t.counts) max_streams k (λ i low to. (counts_within (fit.rows i low (omega arith))).0),
      )

  pub budgets_most : sum_of t.budgets ≤ max_nodes * max_budget
  budgets_most =
      omega (
        arith,
        fit.nodes_to,
        fit.budgets_all,
        sum_to_most (node_entry t.budgets) max_budget (length t.budgets) (λ i low to. (counts_within (fit.rows i low (omega (arith, fit.budgets_all)))).2),
      )

  -- "C" at most: 16 nodes of 16 messages of 10,000 ticks, and 16 slots.
  pub cycle_most : cycle_of t.message t.slot t.counts t.budgets ≤ 2_720_000
  unfolding cycle_of
  cycle_most =
      let ticks = ticks_within fit.ticks in
      full_cycle_most budgets_most ticks.1 fit.nodes_to ticks.3
