-- Where the words of a written sheet stand: header, contents rows, and the streams of all bodies one after the other.
-- Assumes nothing.
use Prim.Native.Nat.{ℕ, suc, pred, ◌+◌, ◌*◌, ◌≤◌, ◌<◌}
use native.Mathlib.Omega.{arith}
use mathlib.Core.Path.{◌≡◌, refl, ◌∙◌, ap}
use mathlib.Core.List.{List, ◌++◌, append_assoc}
use lib.ListN.{length, length-append, get_or-append}
use lib.Seq.{get_or-append-add}
use Rattle.theory.specs.Listing.{joined_from}
use Rattle.theory.proofs.Listing.{joined_length, joined_at, joined_stretches}
use Rattle.theory.proofs.Sums.{sum_to_none, sum_to_split}
use Rattle.model.specs.Limits.{header_words, row_words, stream_words}
use Rattle.model.specs.Sheet.{word, row_at, first_body_at, body_at}
use Rattle.tables.specs.Tables.{Tables, node_entry, sum_up_to, sum_of, counts_before}
use Rattle.tables.specs.Writing.{header_of, row_of, stream_words_of, body_of, rows_of, bodies_of, written}

-- A row and a stream have so many words.
pub row_length : (counts budgets : List ℕ) (k : ℕ) → length (row_of counts budgets k) ≡ row_words
unfolding row_of
row_length counts budgets k = refl

pub stream_length : (periods deadlines jitters : List ℕ) (i : ℕ) → length (stream_words_of periods deadlines jitters i) ≡ stream_words
unfolding stream_words_of
stream_length periods deadlines jitters i = refl

-- Each row, each stream and each body stands after those before it.
pub row_follows : (counts budgets : List ℕ) (k : ℕ) → 1 ≤ k → row_words * pred (suc k) ≡ row_words * pred k + length (row_of counts budgets k)
row_follows counts budgets k low = omega (arith, low, row_length counts budgets k)

pub stream_follows : (periods deadlines jitters : List ℕ) (from k : ℕ) → from ≤ k → stream_words * suc k ≡ stream_words * k + length (stream_words_of periods deadlines jitters k)
stream_follows periods deadlines jitters from k low = omega (arith, stream_length periods deadlines jitters k)

pub counts_follow : (counts : List ℕ) (k : ℕ) → 1 ≤ k → counts_before counts (suc k) ≡ counts_before counts k + node_entry counts k
counts_follow counts k low = sum_to_split (node_entry counts) k low

-- So many rows, and so many streams, have so many words.
pub rows_length : (counts budgets : List ℕ) (n : ℕ) → length (joined_from (row_of counts budgets) 1 n) ≡ row_words * n
rows_length counts budgets n =
    let after : pred (1 + n) ≡ n = omega arith in
    omega (arith, joined_length (row_of counts budgets) (λ k. row_words * pred k) 1 n (row_follows counts budgets), after)

pub streams_length : (periods deadlines jitters : List ℕ) (from count : ℕ) → length (joined_from (stream_words_of periods deadlines jitters) from count) ≡ stream_words * count
streams_length periods deadlines jitters from count =
    omega (arith, joined_length (stream_words_of periods deadlines jitters) (λ i. stream_words * i) from count (stream_follows periods deadlines jitters from))

-- The bodies of so many nodes have so many words.
pub bodies_length : (counts periods deadlines jitters : List ℕ) (n : ℕ)
    → length (joined_from (λ k. body_of periods deadlines jitters (counts_before counts k) (node_entry counts k)) 1 n) ≡ stream_words * sum_up_to counts n
bodies_length counts periods deadlines jitters n =
    let after : pred (1 + n) ≡ n = omega arith in
    omega (
      arith,
      joined_length
          (λ k. body_of periods deadlines jitters (counts_before counts k) (node_entry counts k))
          (λ k. stream_words * counts_before counts k)
          1
          n
          (λ k low. omega (arith, counts_follow counts k low, streams_length periods deadlines jitters (counts_before counts k) (node_entry counts k))),
      sum_to_none (node_entry counts),
      ap (sum_up_to counts) after,
    )

module _ (t : Tables) where
  abbrev n : ℕ
  n = length t.counts

  abbrev total : ℕ
  total = sum_of t.counts

  abbrev streams : List ℕ
  streams = joined_from (stream_words_of t.periods t.deadlines t.jitters) 0 total

  -- The bodies are the streams of all nodes, one after the other.
  bodies_streams : bodies_of t ≡ streams
  bodies_streams =
      let none = sum_to_none (node_entry t.counts) in
      let after : pred (1 + n) ≡ n = omega arith in
      let all : counts_before t.counts 1 + total ≡ counts_before t.counts (1 + n) = omega (arith, none, ap (sum_up_to t.counts) after) in
      joined_stretches (stream_words_of t.periods t.deadlines t.jitters) (counts_before t.counts) (node_entry t.counts) 1 n total
      (counts_follow t.counts)
      all
      ∙ ap (λ from. joined_from (stream_words_of t.periods t.deadlines t.jitters) from total) none

  -- A written sheet ends with its last body.
  pub written-length : length (written t) ≡ body_at n total
  unfolding written
  written-length =
      omega (
        arith,
        length-append (header_of t ++ rows_of t) (bodies_of t),
        length-append (header_of t) (rows_of t),
        rows_length t.counts t.budgets n,
        bodies_length t.counts t.periods t.deadlines t.jitters n,
      )

  -- The header's words.
  pub written-nodes : word (written t) 0 ≡ n
  unfolding written
  written-nodes = refl

  pub written_message : word (written t) 1 ≡ t.message
  unfolding written
  written_message = refl

  pub written_slot : word (written t) 2 ≡ t.slot
  unfolding written
  written_slot = refl

  after_header : (i : ℕ) → word (written t) (header_words + i) ≡ word (rows_of t ++ bodies_of t) i
  unfolding written
  after_header i =
      ap (λ ws. word ws (header_words + i)) (append_assoc (header_of t) (rows_of t) (bodies_of t))
      ∙ get_or-append-add (header_of t) (rows_of t ++ bodies_of t) i 0

  -- Word r of node k's row.
  pub written_row : (k r : ℕ) → 1 ≤ k → k ≤ n → r < row_words → word (written t) (row_at k + r) ≡ word (row_of t.counts t.budgets k) r
  written_row k r low high inside =
      let at : row_at k + r ≡ header_words + (row_words * pred k + r) = omega arith in
      let long = rows_length t.counts t.budgets n in
      ap (word (written t)) at
      ∙ after_header (row_words * pred k + r)
      ∙ get_or-append (rows_of t) (bodies_of t) 0 (row_words * pred k + r) (omega (arith, long, low, high, inside))
      ∙ joined_at (row_of t.counts t.budgets) (λ i. row_words * pred i) 1 n k r (row_words * pred k + r)
      (row_follows t.counts t.budgets)
      low
      (omega (arith, high))
      (omega (arith, inside, row_length t.counts t.budgets k))
      (omega arith)

  -- Word r of the stream that q others come before.
  pub written_stream : (q r : ℕ)
      → q < total
      → r < stream_words
      → word (written t) (first_body_at n + (stream_words * q + r)) ≡ word (stream_words_of t.periods t.deadlines t.jitters q) r
  written_stream q r few inside =
      let long = rows_length t.counts t.budgets n in
      let at : first_body_at n + (stream_words * q + r) ≡ header_words + (length (rows_of t) + (stream_words * q + r)) = omega (arith, long) in
      ap (word (written t)) at
      ∙ after_header (length (rows_of t) + (stream_words * q + r))
      ∙ get_or-append-add (rows_of t) (bodies_of t) (stream_words * q + r) 0
      ∙ ap (λ ws. word ws (stream_words * q + r)) bodies_streams
      ∙ joined_at (stream_words_of t.periods t.deadlines t.jitters) (λ i. stream_words * i) 0 total q r (stream_words * q + r)
      (stream_follows t.periods t.deadlines t.jitters 0)
      (omega arith)
      (omega (arith, few))
      (omega (arith, inside, stream_length t.periods t.deadlines t.jitters q))
      (omega arith)
