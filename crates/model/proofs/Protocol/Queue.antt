-- Which streams are a node's, and its queue order: a strict total order on its releases, lexicographic, by priority of the streams and
-- then by the place in the log. Assumes nothing.
use Prim.Native.Nat.{ℕ, pred, ◌-◌, ◌≤◌, ◌<◌}
use native.Mathlib.Decide.{dec_lt}
use native.Mathlib.Omega.{arith}
use mathlib.Core.Path.{◌≡◌}
use mathlib.Core.Logic.{◌↔◌, ◌⊎◌}
use mathlib.Core.Bool.{Bool, true, false, and-false}
use mathlib.Core.List.{List}
use lib.Dec.{leb, ltb}
use borrow.Author.Tests.{ltb-true, lt-ltb, le-ltb, leb-true, le-leb, lt-leb}
use Rattle.model.specs.Sheet.{stream_count, streams_before, streams_up_to}
use Rattle.model.specs.Analysis.{stream_of, outranks}
use Rattle.model.specs.Protocol.{release_stream, of_node, queued_before}
use Rattle.theory.proofs.Order.{TotalOn}
use Rattle.theory.proofs.Tests.{and_reading}
use Rattle.theory.proofs.Lexicographic.{as_tested, ltb_reading, lexicographic_reading, ltb_total, lexicographic_total}
use Rattle.model.proofs.Analysis.Rank.{rank_total}
use Rattle.theory.proofs.Sums.{sum_to_grows}

-- A running stream number is one of node k's exactly where it is above those of the nodes before and not above node k's last.
pub of_node_reading : (s : List ℕ) (k r : ℕ) → (of_node s k r ≡ true) ↔ ((streams_before s k < r) × (r ≤ streams_up_to s k))
unfolding of_node
of_node_reading s k r =
    let both = and_reading (ltb (streams_before s k) r) (leb r (streams_up_to s k)) in
    (λ e. (ltb-true _ _ (both.0 e).0, leb-true _ _ (both.0 e).1), λ h. both.1 (lt-ltb _ _ h.0, le-leb _ _ h.1))

-- It is not where it is not above those of the nodes before,
pub of_node_below : (s : List ℕ) (k r : ℕ) → r ≤ streams_before s k → of_node s k r ≡ false
unfolding of_node
of_node_below s k r low = rw (le-ltb (streams_before s k) r low)

-- or above its last.
pub of_node-above_lem : (s : List ℕ) (k r : ℕ) → streams_up_to s k < r → of_node s k r ≡ false
unfolding of_node
of_node-above_lem s k r high = rw (lt-leb r (streams_up_to s k) high, and-false)

-- A stream is of one node only.
pub node_once : (s : List ℕ) (k n r : ℕ) → 1 ≤ k → 1 ≤ n → of_node s k r ≡ true → of_node s n r ≡ true → n ≡ k
node_once s k n r from from' p q = go (dec_lt n k) (dec_lt k n) ((of_node_reading s k r).0 p) ((of_node_reading s n r).0 q)
  where
    Among : ℕ → Type 0
    Among m = (streams_before s m < r) × (r ≤ streams_up_to s m)

    go : Dec (n < k) → Dec (k < n) → Among k → Among n → n ≡ k
    go (yes h) d a b = absurd (omega (arith, sum_to_grows (stream_count s) n (pred k) (omega arith)))
    go (no d) (yes h) a b = absurd (omega (arith, sum_to_grows (stream_count s) k (pred n) (omega arith)))
    go (no d) (no e) a b = omega arith

-- The number within node k of a running stream number.
abbrev number_in : List ℕ → ℕ → ℕ → ℕ
number_in s k r = r - streams_before s k

-- Priority of the streams of node k by their running numbers.
abbrev pub running_outranks : List ℕ → ℕ → ℕ → ℕ → Bool
running_outranks s k q r = outranks (stream_of s k (number_in s k q)) (stream_of s k (number_in s k r))

-- It is a strict total order too: different running numbers of a node are different numbers within it.
running_total : (s : List ℕ) (k : ℕ) → TotalOn (λ r. of_node s k r ≡ true) (running_outranks s k)
running_total s k =
    let rank = rank_total s k in
    record {
      irreflexive = λ r. rank.irreflexive (number_in s k r);
      transitive = λ p q r. rank.transitive (number_in s k p) (number_in s k q) (number_in s k r);
      total = λ q r x y differ.
          let h = (of_node_reading s k q).0 x in
          let i = (of_node_reading s k r).0 y in
          rank.total (number_in s k q) (number_in s k r) tt tt (λ e. differ (omega arith));
    }

module _ (s log : List ℕ) (k : ℕ) where
  -- A release is queued before another exactly where its stream, as the sheet has it, outranks the other's, or it is of the same stream
  -- and earlier in the log.
  pub before_reading : (a b : ℕ)
      → (queued_before s log k a b ≡ true)
      ↔ ((running_outranks s k (release_stream log a) (release_stream log b) ≡ true)
      ⊎ ((release_stream log a ≡ release_stream log b) × (a < b)))
  unfolding queued_before
  before_reading = lexicographic_reading (release_stream log) (as_tested (running_outranks s k)) ltb_reading

  -- The queue order is a strict total order on the releases of the node.
  pub queue_total : TotalOn (λ a. of_node s k (release_stream log a) ≡ true) (queued_before s log k)
  unfolding queued_before
  queue_total = lexicographic_total (running_total s k) (release_stream log) (ltb_total _) (λ a own. own)
