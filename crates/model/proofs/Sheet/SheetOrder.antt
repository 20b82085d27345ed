-- Values "in sheet order": one for each stream, each at its stream's running number; and every such place is some stream's.
-- Assumes nothing.
use Prim.Native.Nat.{ℕ, zero, suc, pred, ◌+◌, ◌≤◌, ◌<◌}
use native.Mathlib.Omega.{arith}
use mathlib.Core.Path.{◌≡◌, ◌∙◌, ap}
use mathlib.Core.List.{List, map}
use lib.ListN.{length, get_or}
use Rattle.theory.specs.Listing.{values_from, joined_from}
use Rattle.theory.proofs.Listing.{values_length, values_there, values_map, joined_length, joined_there, joined_map, located}
use Rattle.theory.proofs.Sums.{sum_to_none, sum_to_split}
use Rattle.model.specs.Sheet.{word, nodes, stream_count, streams_up_to, streams_before, total_streams, running_number, in_sheet_order, OnSheet}

module _ {X : Type 0} (s : List ℕ) (value : ℕ → ℕ → X) where
  abbrev own : ℕ → List X
  own k = values_from (value k) 1 (stream_count s k)

  -- The values of a node stand after those of the nodes before it.
  follows : (k : ℕ) → 1 ≤ k → streams_before s (suc k) ≡ streams_before s k + length (own k)
  follows k low = omega (arith, sum_to_split (stream_count s) k low, values_length (value k) 1 (stream_count s k))

  -- There is a value for each stream of the nodes up to node n,
  pub upto_length : (n : ℕ) → length (joined_from own 1 n) ≡ streams_up_to s n
  upto_length n =
      let after : 1 + n ≡ suc n = omega arith in
      omega (arith, joined_length own (streams_before s) 1 n follows, sum_to_none (stream_count s), ap (streams_before s) after)

  -- and so for each of the sheet.
  pub ordered_length : length (in_sheet_order s value) ≡ total_streams s
  ordered_length = upto_length (nodes s)

  -- The value of a stream stands at its running number, from 1.
  pub ordered_there : (none : X) (k j : ℕ) → OnSheet s k j → get_or (in_sheet_order s value) (pred (running_number s k j)) none ≡ value k j
  ordered_there none k zero on = absurd (omega (arith, on.stream_from))
  ordered_there none k (suc j) on =
      let long = values_length (value k) 1 (stream_count s k) in
      let next : 1 + j ≡ suc j = omega arith in
      joined_there own (streams_before s) none 1 (nodes s) k j (pred (running_number s k (suc j))) follows
      on.node_from
      (omega (arith, on.node_to))
      (omega (arith, on.stream_to, long))
      (omega (arith, sum_to_none (stream_count s)))
      ∙ values_there none (value k) 1 (stream_count s k) j (omega (arith, on.stream_to))
      ∙ ap (value k) next

pub ordered_at : (s : List ℕ) (value : ℕ → ℕ → ℕ) (k j : ℕ)
    → OnSheet s k j
    → word (in_sheet_order s value) (pred (running_number s k j)) ≡ value k j
ordered_at s value = ordered_there s value 0

-- A function of each value of a sheet's streams.
pub ordered_map : {X Y : Type 0} (g : X → Y) (s : List ℕ) (value : ℕ → ℕ → X)
    → map g (in_sheet_order s value) ≡ in_sheet_order s (λ k j. g (value k j))
ordered_map g s value =
    joined_map g (λ k. values_from (value k) 1 (stream_count s k)) 1 (nodes s)
    ∙ (λ i. joined_from (λ k. values_map g (value k) 1 (stream_count s k) i) 1 (nodes s))

-- The stream whose running number, from 1, comes after so many others.
pub record StreamAfter (s : List ℕ) (others : ℕ) : Type 0 where
  pub node : ℕ
  pub stream : ℕ
  pub on : OnSheet s node stream
  pub same : streams_before s node + pred stream ≡ others

pub stream_after : (s : List ℕ) (others : ℕ) → others < total_streams s → StreamAfter s others
stream_after s others inside =
    let value : ℕ → ℕ → ℕ = λ k j. 0 in
    let after : 1 + nodes s ≡ suc (nodes s) = omega arith in
    let one = located (own s value) (streams_before s) 1 (nodes s) others (follows s value) (omega (arith, inside, sum_to_none (stream_count s), ap (streams_before s) after)) in
    let long = values_length (value one.list) 1 (stream_count s one.list) in
    record {
      node = one.list;
      stream = suc one.place;
      on =
          record {
            node_from = one.low;
            node_to = omega (arith, one.high);
            stream_from = omega arith;
            stream_to = omega (arith, one.inside, long);
          };
      same = omega (arith, one.same, sum_to_none (stream_count s));
    }
