-- Nodes counted from 1: their counts and the parts that are joined for them. Assumes nothing.
use Prim.Native.Nat.{ℕ, pred, ◌+◌, ◌≤◌}
use native.Mathlib.Omega.{arith}
use mathlib.Core.Path.{◌≡◌, ◌∙◌, ap}
use mathlib.Core.List.{List, ◌++◌}
use lib.ListN.{length}
use Rattle.theory.specs.Listing.{joined_from}
use Rattle.theory.proofs.Listing.{joined_next}
use Rattle.theory.proofs.Sums.{sum_to_split, sum_to_grows}
use Rattle.tables.specs.Tables.{node_entry, sum_of, counts_before}

-- The streams before a node and its own are among all streams.
pub counts_room : (counts : List ℕ) (k : ℕ) → 1 ≤ k → k ≤ length counts → counts_before counts k + node_entry counts k ≤ sum_of counts
counts_room counts k low high = omega (arith, sum_to_split (node_entry counts) k low, sum_to_grows (node_entry counts) k (length counts) high)

-- The next node has the streams of this one before it.
pub counts_next : (counts : List ℕ) (k : ℕ) → 1 ≤ k → counts_before counts (k + 1) ≡ counts_before counts k + node_entry counts k
counts_next counts k low = let next : pred (k + 1) ≡ k = omega arith in rw next (sum_to_split (node_entry counts) k low)

-- A part stands after those of the nodes before.
pub joined_upto : (part : ℕ → List ℕ) (k : ℕ) → 1 ≤ k → joined_from part 1 (pred k) ++ part k ≡ joined_from part 1 k
joined_upto part k low =
    let here : 1 + pred k ≡ k = omega arith in
    let all : pred k + 1 ≡ k = omega arith in
    ap (λ j. joined_from part 1 (pred k) ++ part j) (omega arith) ∙ joined_next part 1 (pred k) ∙ ap (joined_from part 1) all
