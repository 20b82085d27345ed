-- The tables of any valid sheet are not refused, and the sheet that they make has its words: every word of a valid sheet is in the
-- header, in a row or in a body. Assumes nothing.
use Prim.Native.Nat.{ℕ, zero, suc, pred, ◌+◌, ◌-◌, ◌*◌, ◌≤◌, ◌<◌}
use native.Mathlib.Nat.{add-zero}
use native.Mathlib.Decide.{dec_lt}
use native.Mathlib.Omega.{arith}
use mathlib.Core.Path.{◌≡◌, sym, ◌∙◌, ap, ap₂}
use mathlib.Core.List.{List}
use lib.ListN.{length}
use lib.Seq.{ext_get_or}
use Rattle.theory.proofs.Listing.{values_length, located}
use Rattle.theory.proofs.Sums.{sum_to_same}
use Rattle.model.specs.Limits.{header_words, row_words, stream_words}
use Rattle.model.specs.Sheet.{word, nodes, row_at, place, stream_count, budget, streams_up_to, streams_before, total_streams, budgets_up_to, first_body_at, body_at, contents_words, period, deadline, jitter, cycle, cycle_ticks, OnSheet}
use Rattle.model.proofs.Sheet.ValidSheet.{SheetFits, ticks_inside, counts_inside, times_inside}
use Rattle.model.proofs.Sheet.SheetOrder.{ordered_length, StreamAfter, stream_after}
use Rattle.tables.specs.Tables.{Tables, tables_of, node_entry, sum_up_to, sum_of, counts_before}
use Rattle.tables.specs.Writing.{row_of, stream_words_of, written, cycle_of, tables_refusal}
use Rattle.tables.proofs.WrittenWords.{row_follows, stream_follows, row_length, stream_length, written-length, written-nodes, written_message, written_slot, written_row, written_stream}
use Rattle.tables.proofs.Passing.{ContentsFit, fit_passes}
use Rattle.tables.proofs.Reading.{node_value, stream_value}

module _ (s : List ℕ) (fits : SheetFits s) where
  abbrev t : Tables
  t = tables_of s

  nodes_all : length t.counts ≡ nodes s
  nodes_all = values_length (stream_count s) 1 (nodes s)

  count_value : (k : ℕ) → 1 ≤ k → k ≤ nodes s → node_entry t.counts k ≡ stream_count s k
  count_value k low high = node_value (stream_count s) (nodes s) k low high

  budget_value : (k : ℕ) → 1 ≤ k → k ≤ nodes s → node_entry t.budgets k ≡ budget s k
  budget_value k low high = node_value (budget s) (nodes s) k low high

  -- The counts' sum up to a node is the streams up to it.
  sum_streams : (k : ℕ) → k ≤ nodes s → sum_up_to t.counts k ≡ streams_up_to s k
  sum_streams k high = sum_to_same (node_entry t.counts) (stream_count s) k (λ i low to. count_value i low (omega arith))

  sum_total : sum_of t.counts ≡ total_streams s
  sum_total = ap (sum_up_to t.counts) nodes_all ∙ sum_streams (nodes s) (omega arith)

  budgets_all_lem : length t.budgets ≡ nodes s
  budgets_all_lem = values_length (budget s) 1 (nodes s)

  sum_budgets : sum_of t.budgets ≡ budgets_up_to s (nodes s)
  sum_budgets = ap (sum_up_to t.budgets) budgets_all_lem ∙ sum_to_same (node_entry t.budgets) (budget s) (nodes s) budget_value

  -- The tables are not refused.
  tables_contents : ContentsFit t
  tables_contents =
      let h = fits.header in
      record {
        nodes_from = omega (arith, nodes_all, h.nodes_from);
        nodes_to = omega (arith, nodes_all, h.nodes_to);
        ticks = ticks_inside h.message_from h.message_to h.slot_from h.slot_to;
        budgets_all = budgets_all_lem ∙ sym nodes_all;
        rows =
            λ k low to.
            let high : k ≤ nodes s = omega (arith, nodes_all, to) in
            let r = fits.rows k low high in
            rw (count_value k low high, budget_value k low high) (counts_inside r.streams_to r.budget_from r.budget_to);
      }

  pub tables_pass : (tables_refusal t).number ≡ 0
  tables_pass =
      fit_passes t
      (record {
        contents = tables_contents;
        periods_all = ordered_length s (period s) ∙ sym sum_total;
        deadlines_all = ordered_length s (deadline s) ∙ sym sum_total;
        jitters_all = ordered_length s (jitter s) ∙ sym sum_total;
        streams =
            λ k j low to from few.
            let high : k ≤ nodes s = omega (arith, nodes_all, to) in
            let on : OnSheet s k j =
            record { node_from = low; node_to = high; stream_from = from; stream_to = omega (arith, count_value k low high, few) } in
            let f = fits.streams k j on in
            rw (
              sum_streams (pred k) (omega (arith, high)),
              stream_value s (period s) k j on,
              stream_value s (deadline s) k j on,
              stream_value s (jitter s) k j on,
            )
            (times_inside f.period_from f.period_to f.deadline_from f.deadline_to f.jitter_below);
      })

  -- Word r of node k's row,
  row_words_lem : (k r : ℕ) → 1 ≤ k → k ≤ nodes s → r < row_words → word (row_of t.counts t.budgets k) r ≡ word s (row_at k + r)
  unfolding row_of
  row_words_lem k zero low high inside =
      let before = sum_streams (pred k) (omega (arith, high)) in
      let placed : body_at (length t.counts) (counts_before t.counts k) ≡ place s k =
      omega (arith, nodes_all, before, (fits.rows k low high).placed) in
      placed ∙ ap (word s) (sym (add-zero (row_at k)))
  row_words_lem k (suc zero) low high inside = count_value k low high
  row_words_lem k (suc (suc zero)) low high inside = budget_value k low high
  row_words_lem k (suc (suc (suc r))) low high inside = absurd (omega arith)

  -- and of the stream that q others come before, are the sheet's.
  stream_words_lem : (q r : ℕ)
      → q < total_streams s
      → r < stream_words
      → word (stream_words_of t.periods t.deadlines t.jitters q) r ≡ word s (contents_words s + (stream_words * q + r))
  unfolding stream_words_of
  stream_words_lem q r few inside = go r inside
    where
      one : StreamAfter s q
      one = stream_after s q few

      k : ℕ
      k = one.node

      j : ℕ
      j = one.stream

      placed : place s k ≡ contents_words s + stream_words * streams_before s k
      placed = (fits.rows k one.on.node_from one.on.node_to).placed

      go : (r : ℕ) → r < stream_words → word (stream_words_of t.periods t.deadlines t.jitters q) r ≡ word s (contents_words s + (stream_words * q + r))
      go zero inside =
          let here : place s k + stream_words * pred j ≡ contents_words s + (stream_words * q + 0) = omega (arith, placed, one.same) in
          ap (word t.periods) (sym one.same) ∙ stream_value s (period s) k j one.on ∙ ap (word s) here
      go (suc zero) inside =
          let here : place s k + stream_words * pred j + 1 ≡ contents_words s + (stream_words * q + 1) = omega (arith, placed, one.same) in
          ap (word t.deadlines) (sym one.same) ∙ stream_value s (deadline s) k j one.on ∙ ap (word s) here
      go (suc (suc zero)) inside =
          let here : place s k + stream_words * pred j + 2 ≡ contents_words s + (stream_words * q + 2) = omega (arith, placed, one.same) in
          ap (word t.jitters) (sym one.same) ∙ stream_value s (jitter s) k j one.on ∙ ap (word s) here
      go (suc (suc (suc r))) inside = absurd (omega arith)

  -- A word after the header is in a row,
  in_a_row : (i : ℕ) → i < row_words * nodes s → word (written t) (header_words + i) ≡ word s (header_words + i)
  in_a_row i inside =
      let one = located (row_of t.counts t.budgets) (λ k. row_words * pred k) 1 (nodes s) i (row_follows t.counts t.budgets) (omega (arith, inside)) in
      let high : one.list ≤ nodes s = omega (arith, one.high) in
      let few : one.place < row_words = omega (arith, one.inside, row_length t.counts t.budgets one.list) in
      let at : header_words + i ≡ row_at one.list + one.place = omega (arith, one.same) in
      ap (word (written t)) at
      ∙ written_row t one.list one.place one.low (omega (arith, high, nodes_all)) few
      ∙ row_words_lem one.list one.place one.low high few
      ∙ ap (word s) (sym at)

  -- and one after the contents is in a body.
  in_a_body : (i : ℕ) → i < stream_words * total_streams s → word (written t) (contents_words s + i) ≡ word s (contents_words s + i)
  in_a_body i inside =
      let one = located (stream_words_of t.periods t.deadlines t.jitters) (λ q. stream_words * q) 0 (total_streams s) i (stream_follows t.periods t.deadlines t.jitters 0) (omega (arith, inside)) in
      let few : one.list < total_streams s = omega (arith, one.high) in
      let r : one.place < stream_words = omega (arith, one.inside, stream_length t.periods t.deadlines t.jitters one.list) in
      let at : contents_words s + i ≡ contents_words s + (stream_words * one.list + one.place) = omega (arith, one.same) in
      let there : contents_words s + (stream_words * one.list + one.place) ≡ first_body_at (length t.counts) + (stream_words * one.list + one.place) = omega (arith, nodes_all) in
      ap (word (written t)) (at ∙ there)
      ∙ written_stream t one.list one.place (omega (arith, few, sum_total)) r
      ∙ stream_words_lem one.list one.place few r
      ∙ ap (word s) (sym at)

  words : (i : ℕ) → i < length s → word (written t) i ≡ word s i
  words zero inside = written-nodes t ∙ nodes_all
  words (suc zero) inside = written_message t
  words (suc (suc zero)) inside = written_slot t
  words (suc (suc (suc i))) inside = go (dec_lt i (row_words * nodes s))
    where
      at : suc (suc (suc i)) ≡ header_words + i
      at = omega arith

      go : Dec (i < row_words * nodes s) → word (written t) (suc (suc (suc i))) ≡ word s (suc (suc (suc i)))
      go (yes row) = ap (word (written t)) at ∙ in_a_row i row ∙ ap (word s) (sym at)
      go (no past) =
          let left : ℕ = i - row_words * nodes s in
          let there : suc (suc (suc i)) ≡ contents_words s + left = omega arith in
          ap (word (written t)) there
          ∙ in_a_body left (omega (arith, fits.whole))
          ∙ ap (word s) (sym there)

  -- "A valid sheet read and written again has the same words".
  pub written_again : written t ≡ s
  written_again =
      let long : length (written t) ≡ length s = omega (arith, written-length t, nodes_all, sum_total, fits.whole) in
      ext_get_or 0 (written t) s long (λ i inside. words i (omega (arith, long, inside)))

  -- and the same C.
  pub cycle_again : cycle_of t.message t.slot t.counts t.budgets ≡ cycle s
  unfolding cycle cycle_of
  cycle_again = ap₂ (λ budgets n. cycle_ticks budgets t.message n t.slot) sum_budgets nodes_all
