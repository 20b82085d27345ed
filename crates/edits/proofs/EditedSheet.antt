-- The edited sheet of a valid sheet: its contents and every stream but the one named are as they were, it is valid where the new words are in
-- range, and it is alike for every other node. Assumes nothing.
use Prim.Native.Nat.{ℕ, zero, suc, pred, ◌+◌, ◌*◌, ◌≤◌, ◌<◌}
use native.Mathlib.Nat.{add-zero, le_refl}
use native.Mathlib.Decide.{ℕ_discrete, dec_lt}
use native.Mathlib.Omega.{arith}
use mathlib.Core.Path.{◌≡◌, refl, sym, ◌∙◌, ap}
use mathlib.Core.Bool.{false}
use mathlib.Core.List.{List, [], ◌∷◌}
use lib.ListN.{length}
use Rattle.theory.proofs.Sums.{sum_to_same, sum_to_split, sum_to_grows}
use Rattle.theory.proofs.Overwriting.{over_length, over_before, over_there, over_after}
use Rattle.model.specs.Limits.{stream_words}
use Rattle.model.specs.Sheet.{word, nodes, message_ticks, slot_ticks, row_at, place, stream_count, budget, streams_up_to, streams_before, total_streams, contents_words, stream_at, period, times_outside, OnSheet, Valid}
use Rattle.model.specs.Analysis.{stream_of, streams_from, streams_of}
use Rattle.model.proofs.Sheet.ValidSheet.{HeaderFits, RowFits, StreamFits, SheetFits, times_within, fits_valid}
use Rattle.model.proofs.Sheet.NodeSums.{body_whole}
use Rattle.edits.specs.Alike.{Alike}
use Rattle.edits.specs.Edit.{Edit, edited}

-- Streams that are the same one by one are the same list.
streams_agree : (s t : List ℕ) (k j count : ℕ)
    → ((i : ℕ) → j ≤ i → i < j + count → stream_of s k i ≡ stream_of t k i)
    → streams_from s k j count ≡ streams_from t k j count
unfolding streams_from
streams_agree s t k j zero same = refl
streams_agree s t k j (suc count) same =
    let here = same j (le_refl j) (omega arith) in
    let later = streams_agree s t k (suc j) count (λ i low high. same i (omega arith) (omega arith)) in
    λ i. here i ∷ later i

module _ (s : List ℕ) (e : Edit) (fits : SheetFits s) (on : OnSheet s e.node e.stream) where
  abbrev t : List ℕ
  t = edited s e

  abbrev values : List ℕ
  values = e.period ∷ e.deadline ∷ e.jitter ∷ []

  abbrev at : ℕ
  at = stream_at s e.node e.stream

  -- How many streams come before one.
  abbrev before : ℕ → ℕ → ℕ
  before k j = streams_before s k + pred j

  -- Each stream stands after the contents and those before it,
  stands : (k j : ℕ) → OnSheet s k j → stream_at s k j ≡ contents_words s + stream_words * before k j
  stands k j o = omega (arith, (fits.rows k o.node_from o.node_to).placed)

  -- and the named one's three words are there.
  pub there : at + length values ≤ length s
  there = omega (arith, body_whole {k = e.node} fits on.node_from on.node_to, on.stream_from, on.stream_to)

  same_length : length t ≡ length s
  same_length = over_length s at values there

  -- The contents are as they were:
  contents : (i : ℕ) → i < contents_words s → word t i ≡ word s i
  contents i low = over_before s at values there i (omega (arith, low, stands e.node e.stream on))

  pub same_nodes : nodes t ≡ nodes s
  same_nodes = contents 0 (omega arith)

  same_message_lem : message_ticks t ≡ message_ticks s
  same_message_lem = contents 1 (omega arith)

  same_slot_lem : slot_ticks t ≡ slot_ticks s
  same_slot_lem = contents 2 (omega arith)

  same_place : (k : ℕ) → 1 ≤ k → k ≤ nodes s → place t k ≡ place s k
  same_place k low high = contents (row_at k) (omega (arith, low, high))

  same_count : (k : ℕ) → 1 ≤ k → k ≤ nodes s → stream_count t k ≡ stream_count s k
  same_count k low high = contents (row_at k + 1) (omega (arith, low, high))

  same_budget : (k : ℕ) → 1 ≤ k → k ≤ nodes s → budget t k ≡ budget s k
  same_budget k low high = contents (row_at k + 2) (omega (arith, low, high))

  same_upto : (k : ℕ) → k ≤ nodes s → streams_up_to t k ≡ streams_up_to s k
  same_upto k high = sum_to_same (stream_count t) (stream_count s) k (λ i low to. same_count i low (omega (arith, high, to)))

  same_total : total_streams t ≡ total_streams s
  same_total = ap (streams_up_to t) same_nodes ∙ same_upto (nodes s) (le_refl _)

  same_on : (k j : ℕ) → OnSheet t k j → OnSheet s k j
  same_on k j o =
      let high : k ≤ nodes s = omega (arith, same_nodes, o.node_to) in
      record {
        node_from = o.node_from;
        node_to = high;
        stream_from = o.stream_from;
        stream_to = omega (arith, same_count k o.node_from high, o.stream_to);
      }

  -- Word c of a stream: that of the values for the stream that stands where the named one does,
  new_word : (k j c : ℕ) → OnSheet s k j → before k j ≡ before e.node e.stream → c < stream_words → word t (stream_at t k j + c) ≡ word values c
  new_word k j c o same low =
      let here : stream_at t k j + c ≡ at + c =
      omega (arith, same_place k o.node_from o.node_to, stands k j o, stands e.node e.stream on, same) in
      ap (word t) here ∙ over_there s at values there c low

  -- and as it was for every other.
  old_word : (k j c : ℕ)
      → OnSheet s k j
      → (before k j ≡ before e.node e.stream → ⊥)
      → c < stream_words
      → word t (stream_at t k j + c) ≡ word s (stream_at s k j + c)
  old_word k j c o other low = ap (word t) here ∙ go (dec_lt (before k j) (before e.node e.stream))
    where
      here : stream_at t k j + c ≡ stream_at s k j + c
      here = omega (arith, same_place k o.node_from o.node_to)

      go : Dec (before k j < before e.node e.stream) → word t (stream_at s k j + c) ≡ word s (stream_at s k j + c)
      go (yes less) =
          over_before s at values there (stream_at s k j + c) (omega (arith, low, less, stands k j o, stands e.node e.stream on))
      go (no more) =
          over_after s at values there (stream_at s k j + c)
          (omega (arith, other, more, stands k j o, stands e.node e.stream on))

  -- The streams of another node come all before the named one, or all after it.
  elsewhere : (k j : ℕ) → OnSheet s k j → (k ≡ e.node → ⊥) → before k j ≡ before e.node e.stream → ⊥
  elsewhere k j o other same = go (dec_lt k e.node)
    where
      own : streams_up_to s e.node ≡ streams_before s e.node + stream_count s e.node
      own = sum_to_split (stream_count s) e.node on.node_from

      its : streams_up_to s k ≡ streams_before s k + stream_count s k
      its = sum_to_split (stream_count s) k o.node_from

      go : Dec (k < e.node) → ⊥
      go (yes less) =
          omega (arith, same, its, o.stream_from, o.stream_to, sum_to_grows (stream_count s) k (pred e.node) (omega (arith, less)))
      go (no more) =
          omega (
            arith,
            same,
            own,
            on.stream_from,
            on.stream_to,
            sum_to_grows (stream_count s) e.node (pred k) (omega (arith, other, more)),
          )

  old_stream : (k j : ℕ) → OnSheet s k j → (k ≡ e.node → ⊥) → stream_of t k j ≡ stream_of s k j
  old_stream k j o other =
      let apart = elsewhere k j o other in
      let first = ap (word t) (sym (add-zero _)) ∙ old_word k j 0 o apart (omega arith) ∙ ap (word s) (add-zero _) in
      let second = old_word k j 1 o apart (omega arith) in
      let third = old_word k j 2 o apart (omega arith) in
      λ i. record { number = j; period = first i; deadline = second i; jitter = third i }

  -- The sheets are alike for every node but the named one.
  pub others_alike : (k : ℕ) → 1 ≤ k → k ≤ nodes s → (k ≡ e.node → ⊥) → Alike s t k
  others_alike k low high other =
      let streams : streams_of t k ≡ streams_of s k =
      ap (streams_from t k 1) (same_count k low high)
      ∙ streams_agree t s k 1 (stream_count s k) (λ j from to. old_stream k j (record { node_from = low; node_to = high; stream_from = from; stream_to = omega (arith, to) }) other) in
      record {
        same_nodes = sym same_nodes;
        same_message = sym same_message_lem;
        same_slot = sym same_slot_lem;
        same_budgets = λ i from to. sym (same_budget i from to);
        same_streams = sym streams;
      }

  module _ (ranged : times_outside e.period e.deadline e.jitter ≡ false) where
    header : HeaderFits t
    header =
        let h = fits.header in
        record {
          header_there = omega (arith, same_length, h.header_there);
          nodes_from = omega (arith, same_nodes, h.nodes_from);
          nodes_to = omega (arith, same_nodes, h.nodes_to);
          message_from = omega (arith, same_message_lem, h.message_from);
          message_to = omega (arith, same_message_lem, h.message_to);
          slot_from = omega (arith, same_slot_lem, h.slot_from);
          slot_to = omega (arith, same_slot_lem, h.slot_to);
          contents_there = omega (arith, same_nodes, same_length, h.contents_there);
        }

    row : (k : ℕ) → 1 ≤ k → k ≤ nodes t → RowFits t k
    row k low to =
        let high : k ≤ nodes s = omega (arith, same_nodes, to) in
        let r = fits.rows k low high in
        let upto = same_upto (pred k) (omega (arith, high)) in
        record {
          placed = omega (arith, same_place k low high, same_nodes, upto, r.placed);
          streams_to = omega (arith, same_count k low high, r.streams_to);
          budget_from = omega (arith, same_budget k low high, r.budget_from);
          budget_to = omega (arith, same_budget k low high, r.budget_to);
        }

    -- The named stream has the new words, which are in range, and every other the old ones.
    stream : (k j : ℕ) → OnSheet t k j → StreamFits t k j
    stream k j o = go (ℕ_discrete (before k j) (before e.node e.stream))
      where
        on_old : OnSheet s k j
        on_old = same_on k j o

        first : word t (stream_at t k j + 0) ≡ period t k j
        first = ap (word t) (add-zero _)

        go : Dec (before k j ≡ before e.node e.stream) → StreamFits t k j
        go (yes same) =
            let times = times_within ranged in
            let p = new_word k j 0 on_old same (omega arith) in
            let d = new_word k j 1 on_old same (omega arith) in
            let q = new_word k j 2 on_old same (omega arith) in
            record {
              period_from = omega (arith, first, p, times.0);
              period_to = omega (arith, first, p, times.1);
              deadline_from = omega (arith, d, times.2);
              deadline_to = omega (arith, first, p, d, times.3);
              jitter_below = omega (arith, first, p, q, times.4);
            }
        go (no other) =
            let old = fits.streams k j on_old in
            let p = old_word k j 0 on_old other (omega arith) ∙ ap (word s) (add-zero _) in
            let d = old_word k j 1 on_old other (omega arith) in
            let q = old_word k j 2 on_old other (omega arith) in
            record {
              period_from = omega (arith, first, p, old.period_from);
              period_to = omega (arith, first, p, old.period_to);
              deadline_from = omega (arith, d, old.deadline_from);
              deadline_to = omega (arith, first, p, d, old.deadline_to);
              jitter_below = omega (arith, first, p, q, old.jitter_below);
            }

    -- "The sheet after it is valid."
    pub edited_valid : Valid t
    edited_valid =
        fits_valid t
        (record {
          header = header;
          rows = row;
          whole = omega (arith, same_length, same_nodes, same_total, fits.whole);
          streams = stream;
        })
