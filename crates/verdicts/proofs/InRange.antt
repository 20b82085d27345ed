-- A valid sheet gives what the contracts ask for: the body of a node is all there, and what the search for J is asked with is in range.
-- Assumes nothing.
use Prim.Native.Nat.{ℕ, zero, suc, ◌+◌, ◌≤◌, ◌<◌}
use native.Mathlib.Nat.{le_refl, le_trans, le_of_suc-le-suc, mul-le-mul}
use native.Mathlib.Omega.{arith}
use mathlib.Core.Path.{◌≡◌}
use mathlib.Core.Bool.{Bool, true, false, cond}
use mathlib.Core.List.{List, ◌∷◌}
use lib.ListN.{length, length-map, get_or}
use Rattle.model.specs.declared.Stream.{Stream}
use Rattle.model.specs.Limits.{max_time}
use Rattle.model.specs.Sheet.{nodes, place, stream_count, budget, period, jitter, cycle, OnSheet}
use Rattle.model.specs.Analysis.{stream_of, streams_from, streams_of, outranks, above, timing_with}
use Rattle.model.proofs.Sheet.ValidSheet.{StreamFits, SheetFits}
use Rattle.model.proofs.Sheet.NodeSums.{cycle_least, cycle_most, body_whole}
use Rattle.model.proofs.Analysis.NodeStreams.{streams_length, above-length}
use Rattle.verdicts.specs.Periods.{periods_of, jitters_of}
use Rattle.interference.specs.InRange.{HigherRanges, CycleAndBudget, Ranges, StreamRanges}
use Rattle.verdicts.specs.Body.{Body}

-- The body of a node has no more streams than a node may have, and all their words are there.
pub body_there : (s : List ℕ) (k : ℕ) {at count : ℕ}
    → SheetFits s
    → 1 ≤ k
    → k ≤ nodes s
    → at ≡ place s k
    → count ≡ stream_count s k
    → Body s k at count
body_there s k fits low high placed counted =
    let row = fits.rows k low high in
    record {
      placed = placed;
      counted = counted;
      few = omega (arith, row.streams_to);
      there = omega (arith, placed, counted, body_whole fits low high);
    }

-- Each period and its jitter are so.
abbrev Each : (ℕ → ℕ → Type 0) → List ℕ → List ℕ → Type 0
Each P periods jitters = (i : ℕ) → i < length periods → P (get_or periods i 0) (get_or jitters i 0)

each_more : (P : ℕ → ℕ → Type 0) (p q : ℕ) (ps qs : List ℕ) → P p q → Each P ps qs → Each P (p ∷ ps) (q ∷ qs)
each_more P p q ps qs first later zero inside = first
each_more P p q ps qs first later (suc i) inside = later i (le_of_suc-le-suc inside)

module _ (s : List ℕ) (k : ℕ) (x : Stream) where
  -- What holds of the periods and jitters of streams j to j + count - 1 of the node holds of those above.
  above_each : (P : ℕ → ℕ → Type 0) (j count : ℕ)
      → ((i : ℕ) → j ≤ i → i < j + count → P (period s k i) (jitter s k i))
      → Each P (periods_of (above x (streams_from s k j count))) (jitters_of (above x (streams_from s k j count)))
  unfolding above streams_from
  above_each P j zero each = λ i inside. absurd (omega arith)
  above_each P j (suc count) each =
      go (outranks (stream_of s k j) x) (above x (streams_from s k (suc j) count)) (above_each P (suc j) count (λ i low high. each i (omega arith) (omega arith)))
    where
      go : (b : Bool) (ys : List Stream)
          → Each P (periods_of ys) (jitters_of ys)
          → Each P (periods_of (cond b (stream_of s k j ∷ ys) ys)) (jitters_of (cond b (stream_of s k j ∷ ys) ys))
      go true ys later = each_more P (period s k j) (jitter s k j) (periods_of ys) (jitters_of ys) (each j (le_refl j) (omega arith)) later
      go false ys later = later

  -- The least periods and jitters of those above are as the search asks.
  pub above_ranges : SheetFits s → 1 ≤ k → k ≤ nodes s → HigherRanges (periods_of (above x (streams_of s k))) (jitters_of (above x (streams_of s k)))
  above_ranges fits low high =
      let periods = length-map (above x (streams_of s k)) (λ (y : Stream). y.period) in
      let jitters = length-map (above x (streams_of s k)) (λ (y : Stream). y.jitter) in
      record {
        few =
            omega (
              arith,
              periods,
              above-length x (streams_of s k),
              streams_length s k 1 (stream_count s k),
              (fits.rows k low high).streams_to,
            );
        paired = omega (arith, periods, jitters);
        positive = above_each (λ p q. 1 ≤ p) 1 (stream_count s k) (λ i from to. (stream i from to).period_from);
        periods_to = above_each (λ p q. p ≤ max_time) 1 (stream_count s k) (λ i from to. (stream i from to).period_to);
        jitters_below = above_each (λ p q. q < p) 1 (stream_count s k) (λ i from to. (stream i from to).jitter_below);
      }
    where
      stream : (i : ℕ) → 1 ≤ i → i < 1 + stream_count s k → StreamFits s k i
      stream i from to = fits.streams k i (record { node_from = low; node_to = high; stream_from = from; stream_to = omega arith })

-- The sheet's own cycle and budget are as a node can have them,
pub own_shares : (s : List ℕ) (k : ℕ) → SheetFits s → 1 ≤ k → k ≤ nodes s → CycleAndBudget (cycle s) (budget s k)
own_shares s k fits low high =
    record {
      cycle_from = cycle_least s fits;
      cycle_to = cycle_most s fits;
      budget_from = (fits.rows k low high).budget_from;
      budget_to = (fits.rows k low high).budget_to;
    }

-- with such the timing is in range,
pub timing_ranges : (s : List ℕ) (C m : ℕ) → SheetFits s → CycleAndBudget C m → Ranges (timing_with s C m)
timing_ranges s C m fits shares =
    record {
      shares = shares;
      message_to = fits.header.message_to;
      slot_to = fits.header.slot_to;
      messages_to = mul-le-mul shares.budget_to fits.header.message_to;
    }

-- and so is the stream asked about.
pub stream_ranges : (s : List ℕ) (k j : ℕ) → SheetFits s → OnSheet s k j → StreamRanges (stream_of s k j)
stream_ranges s k j fits on =
    let stream = fits.streams k j on in
    record {
      deadline_to = le_trans stream.deadline_to stream.period_to;
      jitter_to = omega (arith, stream.jitter_below, stream.period_to);
    }
