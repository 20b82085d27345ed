-- The sheet that tables make is valid and reads back as the same tables: each word is where the reader looks for it.
-- Assumes nothing.
use Prim.Native.Nat.{ℕ, pred, ◌+◌, ◌*◌, ◌≤◌, ◌<◌}
use native.Mathlib.Nat.{add-zero}
use native.Mathlib.Omega.{arith}
use mathlib.Core.Path.{◌≡◌, refl, sym, ◌∙◌, ap, ap₂}
use mathlib.Core.List.{List}
use lib.ListN.{length}
use Rattle.theory.proofs.Sums.{sum_to_same, sum_to_split, sum_to_grows}
use Rattle.model.specs.Limits.{stream_words}
use Rattle.model.specs.Sheet.{word, nodes, message_ticks, slot_ticks, row_at, place, stream_count, budget, streams_up_to, streams_before, total_streams, budgets_up_to, first_body_at, body_at, period, deadline, jitter, cycle, cycle_ticks, OnSheet, Valid}
use Rattle.model.proofs.Sheet.ValidSheet.{HeaderFits, RowFits, StreamFits, ticks_within, counts_within, times_within, fits_valid}
use Rattle.tables.specs.Tables.{Tables, tables_of, node_entry, sum_up_to, sum_of, counts_before, stream_entry}
use Rattle.tables.specs.Writing.{row_of, stream_words_of, written, cycle_of}
use Rattle.tables.proofs.WrittenWords.{written-length, written-nodes, written_message, written_slot, written_row, written_stream}
use Rattle.tables.proofs.Passing.{TablesFit}
use Rattle.tables.proofs.Reading.{nodes_read, streams_read}

module _ (t : Tables) where
  abbrev w : List ℕ
  w = written t

  abbrev n : ℕ
  n = length t.counts

  -- What the reader finds in node k's row.
  place_read : (k : ℕ) → 1 ≤ k → k ≤ n → place w k ≡ body_at n (counts_before t.counts k)
  unfolding row_of
  place_read k low high = ap (word w) (sym (add-zero (row_at k))) ∙ written_row t k 0 low high (omega arith)

  count_read : (k : ℕ) → 1 ≤ k → k ≤ n → stream_count w k ≡ node_entry t.counts k
  unfolding row_of
  count_read k low high = written_row t k 1 low high (omega arith)

  budget_read : (k : ℕ) → 1 ≤ k → k ≤ n → budget w k ≡ node_entry t.budgets k
  unfolding row_of
  budget_read k low high = written_row t k 2 low high (omega arith)

  -- The streams up to a node are the counts' sum up to it.
  streams_sum : (k : ℕ) → k ≤ n → streams_up_to w k ≡ sum_up_to t.counts k
  streams_sum k high = sum_to_same (stream_count w) (node_entry t.counts) k (λ i low to. count_read i low (omega arith))

  total_sum : total_streams w ≡ sum_of t.counts
  total_sum = ap (streams_up_to w) (written-nodes t) ∙ streams_sum n (omega arith)

  -- Stream j of node k stands where that many streams before it end.
  at_stream : (k j : ℕ)
      → OnSheet w k j
      → (place w k + stream_words * pred j ≡ first_body_at n + stream_words * (counts_before t.counts k + pred j))
      × (counts_before t.counts k + pred j < sum_of t.counts)
  at_stream k j on =
      let high : k ≤ n = omega (arith, on.node_to, written-nodes t) in
      let counted = count_read k on.node_from high in
      let up_to = sum_to_split (node_entry t.counts) k on.node_from in
      let grown = sum_to_grows (node_entry t.counts) k n high in
      (omega (arith, place_read k on.node_from high), omega (arith, counted, up_to, grown, on.stream_from, on.stream_to))

  period_read : (k j : ℕ) → OnSheet w k j → period w k j ≡ stream_entry t.periods (counts_before t.counts k) j
  unfolding stream_words_of
  period_read k j on =
      let at = at_stream k j on in
      let q = counts_before t.counts k + pred j in
      let here : place w k + stream_words * pred j ≡ first_body_at n + (stream_words * q + 0) = omega (arith, at.0) in
      ap (word w) here ∙ written_stream t q 0 at.1 (omega arith)

  deadline_read : (k j : ℕ) → OnSheet w k j → deadline w k j ≡ stream_entry t.deadlines (counts_before t.counts k) j
  unfolding stream_words_of
  deadline_read k j on =
      let at = at_stream k j on in
      let q = counts_before t.counts k + pred j in
      let here : place w k + stream_words * pred j + 1 ≡ first_body_at n + (stream_words * q + 1) = omega (arith, at.0) in
      ap (word w) here ∙ written_stream t q 1 at.1 (omega arith)

  jitter_read : (k j : ℕ) → OnSheet w k j → jitter w k j ≡ stream_entry t.jitters (counts_before t.counts k) j
  unfolding stream_words_of
  jitter_read k j on =
      let at = at_stream k j on in
      let q = counts_before t.counts k + pred j in
      let here : place w k + stream_words * pred j + 2 ≡ first_body_at n + (stream_words * q + 2) = omega (arith, at.0) in
      ap (word w) here ∙ written_stream t q 2 at.1 (omega arith)

  module _ (fit : TablesFit t) where
    header : HeaderFits w
    header =
        let c = fit.contents in
        let ticks = ticks_within c.ticks in
        let long = written-length t in
        record {
          header_there = omega (arith, long);
          nodes_from = omega (arith, written-nodes t, c.nodes_from);
          nodes_to = omega (arith, written-nodes t, c.nodes_to);
          message_from = omega (arith, written_message t, ticks.0);
          message_to = omega (arith, written_message t, ticks.1);
          slot_from = omega (arith, written_slot t, ticks.2);
          slot_to = omega (arith, written_slot t, ticks.3);
          contents_there = omega (arith, written-nodes t, long);
        }

    row : (k : ℕ) → 1 ≤ k → k ≤ nodes w → RowFits w k
    row k low to =
        let high : k ≤ n = omega (arith, written-nodes t, to) in
        let counts = counts_within (fit.contents.rows k low high) in
        record {
          placed =
              omega (arith, place_read k low high, written-nodes t, streams_sum (pred k) (omega (arith, high)));
          streams_to = omega (arith, count_read k low high, counts.0);
          budget_from = omega (arith, budget_read k low high, counts.1);
          budget_to = omega (arith, budget_read k low high, counts.2);
        }

    stream : (k j : ℕ) → OnSheet w k j → StreamFits w k j
    stream k j on =
        let high : k ≤ n = omega (arith, on.node_to, written-nodes t) in
        let few = count_read k on.node_from high in
        let times = times_within (fit.streams k j on.node_from high on.stream_from (omega (arith, few, on.stream_to))) in
        let p = period_read k j on in
        let d = deadline_read k j on in
        let q = jitter_read k j on in
        record {
          period_from = omega (arith, p, times.0);
          period_to = omega (arith, p, times.1);
          deadline_from = omega (arith, d, times.2);
          deadline_to = omega (arith, p, d, times.3);
          jitter_below = omega (arith, p, q, times.4);
        }

    -- The sheet is valid.
    pub written_valid : Valid w
    written_valid =
        fits_valid w
        (record {
          header = header;
          rows = row;
          whole = omega (arith, written-length t, written-nodes t, total_sum);
          streams = stream;
        })

    -- "Its sheet reads back as the same tables".
    pub written_tables : tables_of w ≡ t
    written_tables =
        let nodes_all = written-nodes t in
        let c = fit.contents in
        let counts : (tables_of w).counts ≡ t.counts = rw nodes_all (nodes_read (stream_count w) t.counts n refl count_read) in
        let budgets : (tables_of w).budgets ≡ t.budgets = rw nodes_all (nodes_read (budget w) t.budgets n c.budgets_all budget_read) in
        let before : (k j : ℕ) → OnSheet w k j → streams_before w k ≡ counts_before t.counts k =
        λ k j on. streams_sum (pred k) (omega (arith, on.node_to, nodes_all)) in
        let periods : (tables_of w).periods ≡ t.periods =
        streams_read w (period w) t.periods (fit.periods_all ∙ sym total_sum) (
        λ k j on. period_read k j on ∙ ap (λ b. stream_entry t.periods b j) (sym (before k j on))) in
        let deadlines : (tables_of w).deadlines ≡ t.deadlines =
        streams_read w (deadline w) t.deadlines (fit.deadlines_all ∙ sym total_sum) (
        λ k j on. deadline_read k j on ∙ ap (λ b. stream_entry t.deadlines b j) (sym (before k j on))) in
        let jitters : (tables_of w).jitters ≡ t.jitters =
        streams_read w (jitter w) t.jitters (fit.jitters_all ∙ sym total_sum) (
        λ k j on. jitter_read k j on ∙ ap (λ b. stream_entry t.jitters b j) (sym (before k j on))) in
        λ i.
        record {
          message = written_message t i;
          slot = written_slot t i;
          counts = counts i;
          budgets = budgets i;
          periods = periods i;
          deadlines = deadlines i;
          jitters = jitters i;
        }

    -- "C" of the sheet is that of the tables.
    pub written-cycle : cycle w ≡ cycle_of t.message t.slot t.counts t.budgets
    unfolding cycle cycle_of
    written-cycle =
        let same = sum_to_same (budget w) (node_entry t.budgets) n budget_read in
        let sum : budgets_up_to w (nodes w) ≡ sum_of t.budgets =
        ap (budgets_up_to w) (written-nodes t) ∙ same ∙ ap (sum_up_to t.budgets) (sym fit.contents.budgets_all) in
        ap₂ (λ budgets n. cycle_ticks budgets (message_ticks w) n (slot_ticks w)) sum (written-nodes t)
        ∙ ap₂ (λ message slot. cycle_ticks (sum_of t.budgets) message n slot) (written_message t) (written_slot t)
