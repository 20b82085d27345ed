-- The streams of a node, and those of them that are ranked above one. Assumes nothing.
use Prim.Native.Nat.{ℕ, zero, suc, ◌+◌, ◌≤◌, ◌<◌, zero-le}
use native.Mathlib.Nat.{eq-or-lt_of_le, zero-add}
use native.Mathlib.Omega.{arith}
use mathlib.Core.Path.{◌≡◌, refl, sym, ap, ◌∙◌}
use mathlib.Core.Logic.{◌⊎◌, inl, inr, ⊎_elim}
use mathlib.Core.Bool.{Bool, true, false, cond, true≢false}
use mathlib.Core.List.Memᴰ
use mathlib.Core.List.{List, [], ◌∷◌, Memᴰ}
use lib.ListN.{length}
use Rattle.theory.specs.Sum.{sum, sum_to}
use Rattle.theory.proofs.Sums.{sum_to_none, sum_to-first_lem, sum_to_same}
use Rattle.model.specs.declared.Stream.{Stream}
use Rattle.model.specs.Analysis.{stream_of, streams_from, outranks, above}

-- A node's streams from one on are as many as were asked for.
pub streams_length : (s : List ℕ) (k j count : ℕ) → length (streams_from s k j count) ≡ count
unfolding streams_from
streams_length s k j zero = refl
streams_length s k j (suc count) = ap suc (streams_length s k (suc j) count)

-- Those above a stream are not more than all.
pub above-length : (x : Stream) (ys : List Stream) → length (above x ys) ≤ length ys
unfolding above
above-length x [] = zero-le
above-length x (y ∷ ys) = go (above-length x ys) (outranks y x)
  where
    go : length (above x ys) ≤ length ys → (b : Bool) → length (cond b (y ∷ above x ys) (above x ys)) ≤ suc (length ys)
    go h true = omega arith
    go h false = omega arith

-- The streams of a node from number j on, `count` of them, are those with these numbers: each is one,
pub in_streams : (s : List ℕ) (k i j count : ℕ) → j ≤ i → i < j + count → Memᴰ (stream_of s k i) (streams_from s k j count)
unfolding streams_from
in_streams s k i j zero low high = absurd (omega arith)
in_streams s k i j (suc count) low high =
    ⊎_elim
    (λ e. Memᴰ.head (ap (stream_of s k) (sym e)))
    (λ l. Memᴰ.tail (in_streams s k i (suc j) count l (omega arith)))
    (eq-or-lt_of_le low)

-- and there are no others.
pub from_streams : (s : List ℕ) (k : ℕ) (y : Stream) (j count : ℕ)
    → Memᴰ y (streams_from s k j count)
    → (i : ℕ) × (j ≤ i) × (i < j + count) × (y ≡ stream_of s k i)
unfolding streams_from
from_streams s k y j zero m = absurd (Memᴰ.not-nil m)
from_streams s k y j (suc count) m = go (Memᴰ.cases_cons m) (from_streams s k y (suc j) count)
  where
    go : (y ≡ stream_of s k j) ⊎ Memᴰ y (streams_from s k (suc j) count)
        → (Memᴰ y (streams_from s k (suc j) count) → (i : ℕ) × (suc j ≤ i) × (i < suc j + count) × (y ≡ stream_of s k i))
        → (i : ℕ) × (j ≤ i) × (i < j + suc count) × (y ≡ stream_of s k i)
    go (inl e) ih = (j, omega arith, omega arith, e)
    go (inr l) ih = let w = ih l in (w.0, omega (arith, w.1), omega (arith, w.2), w.3)

-- Those above a stream are the ones of the list that outrank it: each is one,
pub in_above : (x y : Stream) (ys : List Stream) → outranks y x ≡ true → Memᴰ y ys → Memᴰ y (above x ys)
unfolding above
in_above x y [] o m = m
in_above x y (z ∷ zs) o m = go (outranks z x) refl (Memᴰ.cases_cons m) (in_above x y zs o)
  where
    go : (b : Bool)
        → outranks z x ≡ b
        → (y ≡ z) ⊎ Memᴰ y zs
        → (Memᴰ y zs → Memᴰ y (above x zs))
        → Memᴰ y (cond b (z ∷ above x zs) (above x zs))
    go true e (inl same) ih = Memᴰ.head same
    go true e (inr l) ih = Memᴰ.tail (ih l)
    go false e (inl same) ih = absurd (true≢false (sym o ∙ rw same e))
    go false e (inr l) ih = ih l

-- and there are no others.
pub from_above : (x y : Stream) (ys : List Stream) → Memᴰ y (above x ys) → Memᴰ y ys × (outranks y x ≡ true)
unfolding above
from_above x y [] m = absurd (Memᴰ.not-nil m)
from_above x y (z ∷ zs) m = go (outranks z x) refl m (from_above x y zs)
  where
    go : (b : Bool)
        → outranks z x ≡ b
        → Memᴰ y (cond b (z ∷ above x zs) (above x zs))
        → (Memᴰ y (above x zs) → Memᴰ y zs × (outranks y x ≡ true))
        → Memᴰ y (z ∷ zs) × (outranks y x ≡ true)
    go true e l ih =
        ⊎_elim
        (λ same. (Memᴰ.head same, rw same e))
        (λ r. let w = ih r in (Memᴰ.tail w.0, w.1))
        (Memᴰ.cases_cons l)
    go false e l ih = let w = ih l in (Memᴰ.tail w.0, w.1)

-- A sum over those above a stream is one over all streams of the node, in which the others count nothing.
module _ (f : Stream → ℕ) (s : List ℕ) (k : ℕ) (x : Stream) where
  abbrev counted : ℕ → ℕ
  counted i = cond (outranks (stream_of s k i) x) (f (stream_of s k i)) 0

  above-sum_from : (j count : ℕ) → sum f (above x (streams_from s k (suc j) count)) ≡ sum_to (λ i. counted (j + i)) count
  unfolding above streams_from sum
  above-sum_from j zero = sym (sum_to_none (λ i. counted (j + i)))
  above-sum_from j (suc count) =
      first (outranks (stream_of s k (suc j)) x) (above x (streams_from s k (suc (suc j)) count))
      ∙ ap (λ n. counted (suc j) + n) (above-sum_from (suc j) count ∙ sum_to_same _ _ count (λ i low high. ap counted (shifted i)))
      ∙ ap (λ i. counted i + sum_to (λ i. counted (j + suc i)) count) next
      ∙ sym (sum_to-first_lem (λ i. counted (j + i)) count)
    where
      next : suc j ≡ j + 1
      next = omega arith

      shifted : (i : ℕ) → suc j + i ≡ j + suc i
      shifted i = omega arith

      first : (b : Bool) (ys : List Stream)
          → sum f (cond b (stream_of s k (suc j) ∷ ys) ys) ≡ cond b (f (stream_of s k (suc j))) 0 + sum f ys
      first true ys = refl
      first false ys = omega arith

  pub above-sum : (count : ℕ) → sum f (above x (streams_from s k 1 count)) ≡ sum_to counted count
  above-sum count = above-sum_from 0 count ∙ sum_to_same _ _ count (λ i low high. ap counted (zero-add i))
