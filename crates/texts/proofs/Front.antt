-- A table shows only the front of the words that it is made from: a wait a stream, or a begin tick a release. Assumes nothing.
use Prim.Native.Nat.{ℕ, zero, suc, pred, ◌≤◌, ◌<◌}
use native.Mathlib.Nat.{le_refl}
use native.Mathlib.Omega.{arith}
use mathlib.Core.Path.{◌≡◌, refl, ap, ap₂}
use mathlib.Core.List.{List, ◌++◌}
use lib.ListN.{length, get_or-append}
use Rattle.model.specs.Sheet.{nodes, stream_count, running_number, total_streams}
use Rattle.theory.proofs.Sums.{sum_to_split, sum_to_grows}
use Rattle.digits.specs.Decimal.{decimal}
use Rattle.texts.specs.Text.{ascii, labelled, lines_to, wait_line, node_lines, wait_table, begin_text, begin_line, begin_table}

-- Lines that are the same one by one.
lines_same : (f g : ℕ → List ℕ) (n : ℕ) → ((i : ℕ) → 1 ≤ i → i ≤ n → f i ≡ g i) → lines_to f n ≡ lines_to g n
unfolding lines_to
lines_same f g zero same = refl
lines_same f g (suc n) same = ap₂ ◌++◌ (lines_same f g n (λ i low high. same i low (omega arith))) (same (suc n) (omega arith) (le_refl _))

-- A stream's wait is among the first so many.
in_front_lem : (s : List ℕ) (k j : ℕ) → 1 ≤ k → k ≤ nodes s → 1 ≤ j → j ≤ stream_count s k → pred (running_number s k j) < total_streams s
in_front_lem s k j low high from to = omega (arith, sum_to_split (stream_count s) k low, sum_to_grows (stream_count s) k (nodes s) high)

-- The table of waits.
pub waits_front : (s waits rest : List ℕ) (streams : ℕ)
    → length waits ≡ total_streams s
    → wait_table s (waits ++ rest) streams ≡ wait_table s waits streams
unfolding wait_table node_lines
waits_front s waits rest streams all =
    ap (λ lines. ascii "node stream wait\n" ++ lines ++ labelled "admitted " streams ++ ascii "\n")
    (lines_same (node_lines s (waits ++ rest)) (node_lines s waits) (nodes s)
    (λ k low high. lines_same _ _ (stream_count s k)
    (λ j from to. ap (wait_line k j) (get_or-append waits rest 0 (pred (running_number s k j)) (omega (arith, in_front_lem s k j low high from to))))))

-- The table of begin ticks.
pub begins_front : (begins rest : List ℕ) (count turns next : ℕ)
    → length begins ≡ count
    → begin_table (begins ++ rest) count turns next ≡ begin_table begins count turns next
unfolding begin_table begin_line
begins_front begins rest count turns next all =
    ap (λ lines. ascii "release begin\n" ++ lines ++ labelled "turns " turns ++ labelled " next " next ++ ascii "\n")
    (lines_same (begin_line (begins ++ rest)) (begin_line begins) count
    (λ i low high. ap (λ begin. decimal i ++ begin_text begin) (get_or-append begins rest 0 (pred i) (omega arith))))
