-- How long the texts are, where every number is a 32-bit word. Assumes nothing.
use Prim.Native.Nat.{ℕ, zero, suc, pred, ◌+◌, ◌*◌, ◌^◌, ◌≤◌, ◌<◌}
use native.Mathlib.Nat.{mul-suc, le_refl}
use native.Mathlib.Omega.{arith}
use mathlib.Core.Path.{◌≡◌, refl}
use mathlib.Core.Bool.{Bool, true, false, cond}
use mathlib.Core.List.{List, ◌++◌}
use lib.ListN.{length, length-append}
use lib.Dec.{eqb}
use borrow.Author.Tests.{eqb-true}
use Rattle.model.specs.declared.Answer.{Answer}
use Rattle.model.specs.Limits.{max_streams, max_releases, not_begun}
use Rattle.model.specs.Sheet.{word, nodes, stream_count, running_number, Valid}
use Rattle.model.proofs.Sheet.ValidSheet.{SheetFits, valid_fits}
use Rattle.digits.specs.Decimal.{decimal}
use Rattle.texts.specs.Text.{ascii, labelled, lines_to, refusal_text, wait_line, node_lines, wait_table, admit_text, begin_text, begin_line, begin_table, replay_text}
use Rattle.texts.specs.Longest.{word_digits, longest_wait_line, longest_admit_text, longest_begin_line, longest_replay_text}
use Rattle.digits.proofs.Decimal.{decimal-length}

-- The three numbers of an answer fit 32 bits.
pub record FitsWords (a : Answer) : Type 0 where
  pub number : a.number < 2 ^ 32
  pub second : a.second < 2 ^ 32
  pub third : a.third < 2 ^ 32

-- The words of a table fit 32 bits.
abbrev pub WordsFit : List ℕ → Type 0
WordsFit table = (i : ℕ) → word table i < 2 ^ 32

-- A word has at most ten digits.
word-length : (n : ℕ) → n < 2 ^ 32 → length (decimal n) ≤ word_digits
word-length n fits = decimal-length 9 n (omega arith)

-- Lines that are at most so long.
lines_length : (line : ℕ → List ℕ) (n most : ℕ) → ((i : ℕ) → 1 ≤ i → i ≤ n → length (line i) ≤ most) → length (lines_to line n) ≤ most * n
unfolding lines_to
lines_length line zero most each = omega arith
lines_length line (suc n) most each =
    rw (length-append, mul-suc)
    (omega (arith, lines_length line n most (λ i low high. each i low (omega arith)), each (suc n) (omega arith) (le_refl _)))

-- The line of a refusal: 14 bytes and three numbers.
refusal_length : (a : Answer) → FitsWords a → length (refusal_text a) ≤ 44
unfolding refusal_text
refusal_length a fits =
    simp length-append (omega (arith, word-length a.number fits.number, word-length a.second fits.second, word-length a.third fits.third))

-- A line of the table of waits,
wait_length : (node stream wait : ℕ) → node < 100 → stream < 100 → wait < 2 ^ 32 → length (wait_line node stream wait) ≤ longest_wait_line
unfolding wait_line
wait_length node stream wait a b c =
    simp length-append (omega (arith, decimal-length 1 node a, decimal-length 1 stream b, word-length wait c))

module _ (s waits : List ℕ) (sheet : SheetFits s) (fits : WordsFit waits) where
  -- those of a node,
  node_length : (k : ℕ) → 1 ≤ k → k ≤ nodes s → length (node_lines s waits k) ≤ longest_wait_line * max_streams
  unfolding node_lines
  node_length k low high =
      let streams = (sheet.rows k low high).streams_to in
      let lines =
      lines_length (λ j. wait_line k j (word waits (pred (running_number s k j)))) (stream_count s k) longest_wait_line
      (λ j from to. wait_length k j _ (omega (arith, sheet.header.nodes_to)) (omega arith) (fits _))
      in
      omega (arith, lines, streams)

  -- and the whole table.
  wait_table_length : (streams : ℕ) → streams < 2 ^ 32 → length (wait_table s waits streams) ≤ longest_admit_text
  unfolding wait_table
  wait_table_length streams small =
      let lines = lines_length (node_lines s waits) (nodes s) (longest_wait_line * max_streams) node_length in
      simp length-append (omega (arith, lines, sheet.header.nodes_to, word-length streams small))

-- The admit program's text.
pub admit_length : (s waits : List ℕ) (a : Answer) → (a.number ≡ 0 → Valid s) → WordsFit waits → FitsWords a → length (admit_text s waits a) ≤ longest_admit_text
unfolding admit_text
admit_length s waits a valid words fits = go (eqb a.number 0) refl
  where
    go : (t : Bool) → eqb a.number 0 ≡ t → length (cond t (wait_table s waits a.second) (refusal_text a)) ≤ longest_admit_text
    go true e = wait_table_length s waits (valid_fits s (valid (eqb-true a.number 0 e))) words a.second fits.second
    go false e = omega (arith, refusal_length a fits)

-- A begin tick to the end of its line,
begin_length : (begin : ℕ) → begin < 2 ^ 32 → length (begin_text begin) ≤ 1 + word_digits + 1
unfolding begin_text
begin_length begin small = go (eqb begin not_begun)
  where
    go : (t : Bool) → length (cond t (ascii " -\n") (labelled " " begin ++ ascii "\n")) ≤ 1 + word_digits + 1
    go true = omega arith
    go false = simp length-append (omega (arith, word-length begin small))

-- and the whole table of begin ticks.
begin_table_length : (begins : List ℕ) (count turns next : ℕ) → WordsFit begins → count ≤ max_releases → turns < 2 ^ 32 → next < 2 ^ 32 → length (begin_table begins count turns next) ≤ longest_replay_text
unfolding begin_table begin_line
begin_table_length begins count turns next words few a b =
    let lines =
    lines_length (begin_line begins) count longest_begin_line
    (λ i low high. rw length-append (omega (arith, decimal-length 3 i (omega arith), begin_length (word begins (pred i)) (words (pred i)))))
    in
    simp length-append (omega (arith, lines, word-length turns a, word-length next b))

-- The replay program's text.
pub replay_length : (begins : List ℕ) (count : ℕ) (a : Answer) → count ≤ max_releases → WordsFit begins → FitsWords a → length (replay_text begins count a) ≤ longest_replay_text
unfolding replay_text
replay_length begins count a few words fits = go (eqb a.number 0)
  where
    go : (t : Bool) → length (cond t (begin_table begins count a.second a.third) (refusal_text a)) ≤ longest_replay_text
    go true = begin_table_length begins count a.second a.third words few fits.second fits.third
    go false = omega (arith, refusal_length a fits)
