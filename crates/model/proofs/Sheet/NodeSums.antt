-- Sums over the nodes of a valid sheet: streams up to a node and their words, budgets, and the full cycle. Assumes nothing.
use Prim.Native.Nat.{ℕ, ◌+◌, ◌*◌, ◌≤◌, ◌<◌}
use native.Mathlib.Nat.{mul-le-mul}
use native.Mathlib.Numerals.{add-one}
use native.Mathlib.Omega.{arith}
use mathlib.Core.Path.{◌≡◌}
use mathlib.Core.List.{List}
use lib.ListN.{length}
use Rattle.theory.proofs.Sums.{sum_to_more, sum_to_split, sum_to_grows, sum_to_room, sum_to_most, sum_to_least}
use Rattle.model.specs.Limits.{max_nodes, max_streams, max_budget, max_slot_ticks, stream_words, longest_sheet}
use Rattle.model.specs.Sheet.{nodes, place, stream_count, budget, streams_up_to, total_streams, budgets_up_to, cycle_ticks, cycle, contents_words, body_place}
use Rattle.model.proofs.Sheet.ValidSheet.{SheetFits}

-- "C" at least: a message and a slot.
pub full_cycle_least : {budgets message n slot : ℕ} → 1 ≤ budgets → 1 ≤ message → 1 ≤ n → 1 ≤ slot → 2 ≤ cycle_ticks budgets message n slot
full_cycle_least budgets message n slot = omega (arith, mul-le-mul budgets message, mul-le-mul n slot)

module _ (s : List ℕ) (fits : SheetFits s) where
  -- Sixteen nodes of sixteen streams at most.
  pub total_most : total_streams s ≤ 256
  total_most =
      let sum = sum_to_most (stream_count s) max_streams (nodes s) (λ k low high. (fits.rows k low high).streams_to) in
      omega (arith, sum, fits.header.nodes_to)

  -- No valid sheet is longer than the longest.
  pub sheet_longest : length s ≤ longest_sheet
  sheet_longest = omega (arith, fits.whole, total_most, fits.header.nodes_to)

  -- "C" is at least 2: a message and a slot.
  pub cycle_least : 2 ≤ cycle s
  unfolding cycle
  cycle_least =
      let h = fits.header in
      let each = sum_to_least (budget s) (nodes s) (λ k low high. (fits.rows k low high).budget_from) in
      full_cycle_least (omega (arith, each, h.nodes_from)) h.message_from h.nodes_from h.slot_from

  -- The budgets of all nodes together: sixteen of sixteen at most.
  pub budgets_most : budgets_up_to s (nodes s) ≤ 256
  budgets_most =
      omega (arith, sum_to_most (budget s) max_budget (nodes s) (λ k low high. (fits.rows k low high).budget_to), fits.header.nodes_to)

-- "C" at most: 256 messages of 10,000 ticks, and 16 slots.
pub full_cycle_most : {budgets message n slot : ℕ}
    → budgets ≤ max_nodes * max_budget
    → message ≤ max_slot_ticks
    → n ≤ max_nodes
    → slot ≤ max_slot_ticks
    → cycle_ticks budgets message n slot ≤ 2_720_000
full_cycle_most budgets message n slot = omega (arith, mul-le-mul budgets message, mul-le-mul n slot)

-- "C" of a valid sheet at most.
pub cycle_most : (s : List ℕ) → SheetFits s → cycle s ≤ 2_720_000
unfolding cycle
cycle_most s fits = let h = fits.header in full_cycle_most (budgets_most s fits) h.message_to h.nodes_to h.slot_to

-- The streams before the next node and its own are those up to it,
pub streams_next : (s : List ℕ) (i : ℕ) {sum count : ℕ}
    → sum ≡ streams_up_to s i
    → count ≡ stream_count s (i + 1)
    → sum + count ≡ streams_up_to s (i + 1)
streams_next s i e f = sum_to_more (stream_count s) i e f

-- so that the next body stands after theirs,
pub body_next : (s : List ℕ) (i : ℕ) {at : ℕ}
    → at ≡ contents_words s + stream_words * streams_up_to s i
    → at ≡ body_place s (i + 1)
body_next s i e = rw (add-one i) e

-- and they are not more than all.
pub streams_room : (s : List ℕ) (i : ℕ) → i < nodes s → streams_up_to s i + stream_count s (i + 1) ≤ total_streams s
streams_room s i inside = sum_to_room (stream_count s) i (nodes s) inside

-- The words of a node's body are all there.
pub body_whole : {s : List ℕ} {k : ℕ} → SheetFits s → 1 ≤ k → k ≤ nodes s → place s k + stream_words * stream_count s k ≤ length s
body_whole {s} {k} fits low high =
    omega (
      arith,
      (fits.rows k low high).placed,
      fits.whole,
      sum_to_split (stream_count s) k low,
      sum_to_grows (stream_count s) k (nodes s) high,
    )
