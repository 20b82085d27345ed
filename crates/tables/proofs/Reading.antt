-- A table is what is read in order, if each of its values is what is read there. Assumes nothing.
use Prim.Native.Nat.{ℕ, pred, ◌+◌, ◌≤◌, ◌<◌}
use native.Mathlib.Omega.{arith}
use mathlib.Core.Path.{◌≡◌, sym, ◌∙◌, ap}
use mathlib.Core.List.{List}
use lib.ListN.{length}
use lib.Seq.{ext_get_or}
use Rattle.theory.specs.Listing.{values_from}
use Rattle.theory.proofs.Listing.{values_length, values_at}
use Rattle.model.specs.Sheet.{word, streams_before, total_streams, running_number, in_sheet_order, OnSheet}
use Rattle.model.proofs.Sheet.SheetOrder.{ordered_length, ordered_at, stream_after}
use Rattle.tables.specs.Tables.{node_entry, stream_entry}

-- A table of n nodes.
pub nodes_read : (f : ℕ → ℕ) (table : List ℕ) (n : ℕ)
    → length table ≡ n
    → ((k : ℕ) → 1 ≤ k → k ≤ n → f k ≡ node_entry table k)
    → values_from f 1 n ≡ table
nodes_read f table n all same =
    let long = values_length f 1 n in
    ext_get_or 0 (values_from f 1 n) table (omega (arith, long, all)) (
    λ i inside.
    let few : i < n = omega (arith, long, inside) in
    let at : pred (1 + i) ≡ i = omega arith in
    values_at f 1 n i few ∙ same (1 + i) (omega arith) (omega arith) ∙ ap (word table) at)

-- The value of node k in a table of what is read.
pub node_value : (f : ℕ → ℕ) (n k : ℕ) → 1 ≤ k → k ≤ n → node_entry (values_from f 1 n) k ≡ f k
node_value f n k low high =
    let here : 1 + pred k ≡ k = omega (arith, low) in
    values_at f 1 n (pred k) (omega arith) ∙ ap f here

-- The value that a table of what is read in sheet order has for a stream.
pub stream_value : (s : List ℕ) (value : ℕ → ℕ → ℕ) (k j : ℕ)
    → OnSheet s k j
    → stream_entry (in_sheet_order s value) (streams_before s k) j ≡ value k j
stream_value s value k j on =
    let here : streams_before s k + pred j ≡ pred (running_number s k j) = omega (arith, on.stream_from) in
    ap (word (in_sheet_order s value)) here ∙ ordered_at s value k j on

-- A table of the streams of a sheet.
pub streams_read : (s : List ℕ) (value : ℕ → ℕ → ℕ) (table : List ℕ)
    → length table ≡ total_streams s
    → ((k j : ℕ) → OnSheet s k j → value k j ≡ stream_entry table (streams_before s k) j)
    → in_sheet_order s value ≡ table
streams_read s value table all same =
    let long = ordered_length s value in
    ext_get_or 0 (in_sheet_order s value) table (omega (arith, long, all)) (
    λ q inside.
    let one = stream_after s q (omega (arith, long, inside)) in
    ap (word (in_sheet_order s value)) (sym one.same)
    ∙ stream_value s value one.node one.stream one.on
    ∙ same one.node one.stream one.on
    ∙ ap (word table) one.same)
