-- A word of each of those ranked above a stream, its least period or its jitter, as a loop comes to them stream by stream. Assumes nothing.
use Prim.Native.Nat.{ℕ, suc, ◌+◌, ◌-◌, ◌≤◌, ◌<◌}
use native.Mathlib.Nat.{sub-zero, sub-eq-zero_of_le}
use native.Mathlib.Numerals.{add-one}
use mathlib.Core.Path.{◌≡◌, refl}
use mathlib.Core.Bool.{true, false}
use mathlib.Core.List.{List, [], ◌∷◌, map}
use Rattle.model.specs.declared.Stream.{Stream}
use Rattle.model.specs.Analysis.{stream_of, streams_from, outranks, above}
use Rattle.model.proofs.Sheet.Refusals.{one_more}

module _ (word : Stream → ℕ) (s : List ℕ) (k : ℕ) (x : Stream) where
  -- Those words, of the ones above among node k's streams after stream i.
  abbrev pub left : ℕ → ℕ → List ℕ
  left i count = map word (above x (streams_from s k (suc i) (count - i)))

  -- Before the first stream all are left.
  pub left_all : (count : ℕ) → left 0 count ≡ map word (above x (streams_from s k 1 count))
  left_all count = rw sub-zero refl

  -- A stream that is above is the first of those left,
  pub left_ranked : (i count : ℕ)
      → i < count
      → outranks (stream_of s k (i + 1)) x ≡ true
      → left i count ≡ word (stream_of s k (i + 1)) ∷ left (i + 1) count
  unfolding above streams_from
  left_ranked i count inside ranked =
      rw (one_more i count inside, add-one i) (rw (rw (add-one i) at ranked) refl)

  -- and any other is none of them.
  pub left_unranked : (i count : ℕ)
      → i < count
      → outranks (stream_of s k (i + 1)) x ≡ false
      → left i count ≡ left (i + 1) count
  unfolding above streams_from
  left_unranked i count inside unranked =
      rw (one_more i count inside, add-one i) (rw (rw (add-one i) at unranked) refl)

  -- After the last stream none is left.
  pub left_none : (i count : ℕ) → count ≤ i → left i count ≡ []
  unfolding above streams_from
  left_none i count past = rw (sub-eq-zero_of_le past) refl
