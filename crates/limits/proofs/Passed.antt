-- A pass over a node's streams in rank order: those passed before one are those ranked above it. Assumes nothing.
use Prim.Native.Nat.{ℕ, ◌+◌, ◌-◌, ◌*◌, ◌≤◌, ◌<◌}
use native.Mathlib.Omega.{arith}
use mathlib.Core.Path.{◌≡◌, refl, sym, ◌∙◌, ap}
use mathlib.Core.List.{List, map}
use lib.ListN.{length, length-map, get_or, take}
use lib.Seq.{length-take-le, get_or-take}
use Rattle.theory.specs.Sum.{sum}
use Rattle.theory.proofs.Sums.{sum_next}
use Rattle.theory.proofs.Listing.{take-map, map_at}
use Rattle.theory.proofs.Ordering.{ordered_length, ordered_range, ordered_passed}
use Rattle.model.specs.declared.Stream.{Stream}
use Rattle.model.specs.declared.Timing.{Timing}
use Rattle.model.specs.Limits.{max_time}
use Rattle.model.specs.Sheet.{nodes, stream_count, budget, period, jitter, cycle, OnSheet}
use Rattle.model.specs.Analysis.{stream_of, most_releases, interference, higher_streams, verdict, timing_with, timing_of, verdict_with, verdict_of}
use Rattle.model.proofs.Sheet.ValidSheet.{StreamFits, SheetFits}
use Rattle.model.proofs.Analysis.Rank.{rank_total}
use Rattle.model.proofs.Analysis.NodeStreams.{above-sum}
use Rattle.interference.specs.Periods.{interference_by}
use Rattle.interference.specs.InRange.{HigherRanges}
use Rattle.interference.proofs.Periods.{by_each}
use Rattle.limits.specs.Limits.{limit_word}
use Rattle.ranking.specs.Ranking.{ranked_before, rank_order, ranked_periods, ranked_jitters}

-- The most messages of stream j of node k in a window of w + 1 ticks.
abbrev released_in : List ℕ → ℕ → ℕ → ℕ → ℕ
released_in s k w j = most_releases (period s k j) (jitter s k j) w

module _ (s : List ℕ) (k : ℕ) where
  -- As many streams stand in rank order as the node has,
  pub rank_length : length (rank_order s k) ≡ stream_count s k
  rank_length = ordered_length (ranked_before s k) (stream_count s k)

  -- and they are streams of the node.
  pub rank_on : (i : ℕ) → 1 ≤ k → k ≤ nodes s → i < stream_count s k → OnSheet s k (get_or (rank_order s k) i 0)
  rank_on i low high inside =
      let own = ordered_range (ranked_before s k) (stream_count s k) i (omega (arith, rank_length)) in
      record { node_from = low; node_to = high; stream_from = own.0; stream_to = own.1 }

  -- Interference of the first i of them, by their numbers.
  by_rank : (i w : ℕ)
      → interference_by (take i (ranked_periods s k)) (take i (ranked_jitters s k)) w ≡ sum (released_in s k w) (take i (rank_order s k))
  by_rank i w =
      ap (λ ps. interference_by ps (take i (ranked_jitters s k)) w) (take-map (period s k) i (rank_order s k))
      ∙ ap (λ qs. interference_by (map (period s k) (take i (rank_order s k))) qs w) (take-map (jitter s k) i (rank_order s k))
      ∙ by_each (period s k) (jitter s k) (take i (rank_order s k)) w

  -- It is that of the streams above the next.
  passed_above : (i w : ℕ)
      → i < stream_count s k
      → interference_by (take i (ranked_periods s k)) (take i (ranked_jitters s k)) w ≡ interference (higher_streams s k (get_or (rank_order s k) i 0)) w
  unfolding interference
  passed_above i w inside =
      let x = stream_of s k (get_or (rank_order s k) i 0) in
      by_rank i w
      ∙ ordered_passed (rank_total s k) (λ j. tt) (released_in s k w) (stream_count s k) i inside
      ∙ sym (above-sum (λ (y : Stream). most_releases y.period y.jitter w) s k x (stream_count s k))

  -- So the verdict by the first i is that on the next;
  pub limit_passed : (t : Timing) (i : ℕ)
      → t ≡ timing_of s k
      → i < stream_count s k
      → limit_word (verdict (interference_by (take i (ranked_periods s k)) (take i (ranked_jitters s k))) t (stream_of s k (get_or (rank_order s k) i 0)))
      ≡ limit_word (verdict_of s k (get_or (rank_order s k) i 0))
  unfolding verdict_with
  limit_passed t i own inside =
      let x = stream_of s k (get_or (rank_order s k) i 0) in
      rw own (ap (λ H. limit_word (verdict H (timing_of s k) x)) (λ d w. passed_above i w inside d))

  -- what is made of the node's numbers is its timing;
  pub timing_own : {C m : ℕ} (t : Timing) → t ≡ timing_with s C m → C ≡ cycle s → m ≡ budget s k → t ≡ timing_of s k
  timing_own t made full own = rw (full, own) at made

  -- and the first i are as the search asks.
  pub passed_ranges : (i : ℕ)
      → SheetFits s
      → 1 ≤ k
      → k ≤ nodes s
      → i < stream_count s k
      → HigherRanges (take i (ranked_periods s k)) (take i (ranked_jitters s k))
  passed_ranges i fits low high inside =
      let row = fits.rows k low high in
      record {
        few = omega (arith, long (period s k), row.streams_to);
        paired = omega (arith, long (period s k), long (jitter s k));
        positive = λ p there. rw (at (period s k) p there) (stream p there).period_from;
        periods_to = λ p there. rw (at (period s k) p there) (stream p there).period_to;
        jitters_below = λ p there. rw (at (period s k) p there, at (jitter s k) p there) (stream p there).jitter_below;
      }
    where
      long : (f : ℕ → ℕ) → length (take i (map f (rank_order s k))) ≡ i
      long f = length-take-le i (map f (rank_order s k)) (omega (arith, length-map (rank_order s k) f, rank_length))

      at : (f : ℕ → ℕ) (p : ℕ) → p < length (take i (ranked_periods s k)) → get_or (take i (map f (rank_order s k))) p 0 ≡ f (get_or (rank_order s k) p 0)
      at f p there =
          get_or-take i (map f (rank_order s k)) p 0 (omega (arith, long (period s k)))
          ∙ map_at f (rank_order s k) p (omega (arith, long (period s k), rank_length))

      stream : (p : ℕ) → p < length (take i (ranked_periods s k)) → StreamFits s k (get_or (rank_order s k) p 0)
      stream p there = fits.streams k (get_or (rank_order s k) p 0) (rank_on p low high (omega (arith, long (period s k))))

-- The sums of a pass that has come to the i-th of node k's streams: interference of those passed in one cycle and in two. None passes 64 bits.
pub record Passed (s : List ℕ) (k C i one two : ℕ) : Type 0 where
  pub in_one : one ≡ sum (released_in s k (C - 1)) (take i (rank_order s k))
  pub in_two : two ≡ sum (released_in s k (2 * C - 1)) (take i (rank_order s k))
  pub one_to : one ≤ i * (2 * max_time + 1)
  pub two_to : two ≤ i * (2 * max_time + 1)

module _ (s : List ℕ) (k C : ℕ) where
  -- At first none is passed,
  pub passed_none : Passed s k C 0 0 0
  unfolding sum
  passed_none = record { in_one = refl; in_two = refl; one_to = omega arith; two_to = omega arith }

  -- then the next.
  pub passed_next : {i one two one' two' p q : ℕ}
      → i < stream_count s k
      → p ≡ period s k (get_or (rank_order s k) i 0)
      → q ≡ jitter s k (get_or (rank_order s k) i 0)
      → (one' ≡ one + most_releases p q (C - 1)) × (two' ≡ two + most_releases p q (2 * C - 1))
      → (one' ≤ one + (2 * max_time + 1)) × (two' ≤ two + (2 * max_time + 1))
      → Passed s k C i one two
      → Passed s k C (i + 1) one' two'
  passed_next {i} inside period-is jitter-is more few so_far =
      let there : i < length (rank_order s k) = omega (arith, rank_length s k) in
      let sums = rw (period-is, jitter-is) at more in
      record {
        in_one = omega (arith, sums.0, so_far.in_one, sum_next (released_in s k (C - 1)) (rank_order s k) i there);
        in_two = omega (arith, sums.1, so_far.in_two, sum_next (released_in s k (2 * C - 1)) (rank_order s k) i there);
        one_to = omega (arith, few.0, so_far.one_to);
        two_to = omega (arith, few.1, so_far.two_to);
      }

  -- Each is interference of those passed.
  pub passed_one : {i one two : ℕ}
      → Passed s k C i one two
      → one ≡ interference_by (take i (ranked_periods s k)) (take i (ranked_jitters s k)) (C - 1)
  passed_one {i} so_far = so_far.in_one ∙ sym (by_rank s k i (C - 1))

  pub passed_two : {i one two : ℕ}
      → Passed s k C i one two
      → two ≡ interference_by (take i (ranked_periods s k)) (take i (ranked_jitters s k)) (2 * C - 1)
  passed_two {i} so_far = so_far.in_two ∙ sym (by_rank s k i (2 * C - 1))
