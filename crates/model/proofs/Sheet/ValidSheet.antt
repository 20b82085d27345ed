-- What a valid sheet gives: lengths, places, counts and ranges, from "number is 0"; and that a sheet with these is valid. Assumes nothing.
use Prim.Native.Nat.{ℕ, suc, ◌+◌, ◌≤◌, ◌<◌}
use native.Mathlib.Omega.{arith}
use mathlib.Core.Path.{◌≡◌, ap}
use mathlib.Core.Bool.{false, ◌||◌, not}
use mathlib.Core.List.{List}
use borrow.Author.Tests.{ltb-false, leb-false, eqb-true, not-false, le-ltb, lt-leb, eq-eqb}
use lib.ListN.{length}
use lib.Dec.{ltb, eqb}
use Rattle.model.specs.Limits.{header_words, max_nodes, max_streams, max_budget, max_slot_ticks, max_time}
use Rattle.model.specs.Refusal.{refuse, refuse_if, first_of, outside}
use Rattle.model.specs.Sheet.{nodes, message_ticks, slot_ticks, place, stream_count, budget, contents_words, body_place, sheet_length, period, deadline, jitter, OnSheet, ticks_outside, counts_outside, times_outside, row_wrong, row_refusal, stream_refusal, body_refusal, header_refusal, sheet_refusal, Valid}
use Rattle.model.proofs.Sheet.Refusals.{or_else_both, or_else_none, refuse_if_none, refuse_if_passes, first_none, first_all}
use Rattle.theory.proofs.Tests.{or_neither, or_second}
use Rattle.model.proofs.Sheet.Range.{within, inside}

-- The header: n, TMS and TPR are in range, and the contents are there.
pub record HeaderFits (s : List ℕ) : Type 0 where
  pub header_there : header_words ≤ length s
  pub nodes_from : 1 ≤ nodes s
  pub nodes_to : nodes s ≤ max_nodes
  pub message_from : 1 ≤ message_ticks s
  pub message_to : message_ticks s ≤ max_slot_ticks
  pub slot_from : 1 ≤ slot_ticks s
  pub slot_to : slot_ticks s ≤ max_slot_ticks
  pub contents_there : contents_words s ≤ length s

-- The row of node k: its body is where it must be, and its counts are in range.
pub record RowFits (s : List ℕ) (k : ℕ) : Type 0 where
  pub placed : place s k ≡ body_place s k
  pub streams_to : stream_count s k ≤ max_streams
  pub budget_from : 1 ≤ budget s k
  pub budget_to : budget s k ≤ max_budget

-- Stream j of node k: its period, its deadline and its jitter are in range.
pub record StreamFits (s : List ℕ) (k j : ℕ) : Type 0 where
  pub period_from : 1 ≤ period s k j
  pub period_to : period s k j ≤ max_time
  pub deadline_from : 1 ≤ deadline s k j
  pub deadline_to : deadline s k j ≤ period s k j
  pub jitter_below : jitter s k j < period s k j

-- The whole sheet.
pub record SheetFits (s : List ℕ) : Type 0 where
  pub header : HeaderFits s
  pub rows : (k : ℕ) → 1 ≤ k → k ≤ nodes s → RowFits s k
  pub whole : length s ≡ sheet_length s
  pub streams : (k j : ℕ) → OnSheet s k j → StreamFits s k j

refuses : (number a b : ℕ) → (refuse (suc number) a b).number ≡ 0 → ⊥
refuses number a b e = omega arith

-- Ticks that pass the header's test are in range, and those in range pass it;
pub ticks_within : {message slot : ℕ}
    → ticks_outside message slot ≡ false
    → (1 ≤ message) × (message ≤ max_slot_ticks) × (1 ≤ slot) × (slot ≤ max_slot_ticks)
unfolding ticks_outside
ticks_within e =
    let both = or_neither _ _ e in
    let message = within 1 max_slot_ticks _ both.0 in
    let slot = within 1 max_slot_ticks _ both.1 in
    (message.0, message.1, slot.0, slot.1)

pub ticks_inside : {message slot : ℕ}
    → 1 ≤ message
    → message ≤ max_slot_ticks
    → 1 ≤ slot
    → slot ≤ max_slot_ticks
    → ticks_outside message slot ≡ false
unfolding ticks_outside
ticks_inside a b c d = or_second (inside 1 max_slot_ticks _ a b) (inside 1 max_slot_ticks _ c d)

-- so do a node's number of streams and its budget,
pub counts_within : {count budget : ℕ}
    → counts_outside count budget ≡ false
    → (count ≤ max_streams) × (1 ≤ budget) × (budget ≤ max_budget)
unfolding counts_outside
counts_within e =
    let both = or_neither _ _ e in
    let m = within 1 max_budget _ both.1 in
    (ltb-false _ _ both.0, m.0, m.1)

pub counts_inside : {count budget : ℕ} → count ≤ max_streams → 1 ≤ budget → budget ≤ max_budget → counts_outside count budget ≡ false
unfolding counts_outside
counts_inside a b c = or_second (le-ltb _ _ a) (inside 1 max_budget _ b c)

-- and a stream's period, deadline and jitter.
pub times_within : {period deadline jitter : ℕ}
    → times_outside period deadline jitter ≡ false
    → (1 ≤ period) × (period ≤ max_time) × (1 ≤ deadline) × (deadline ≤ period) × (jitter < period)
unfolding times_outside
times_within {period} {deadline} {jitter} e =
    let all = or_neither _ _ e in
    let both = or_neither _ _ all.0 in
    let ranged = within 1 max_time _ both.0 in
    let due = within 1 _ _ both.1 in
    (ranged.0, ranged.1, due.0, due.1, leb-false period jitter all.1)

pub times_inside : {period deadline jitter : ℕ}
    → 1 ≤ period
    → period ≤ max_time
    → 1 ≤ deadline
    → deadline ≤ period
    → jitter < period
    → times_outside period deadline jitter ≡ false
unfolding times_outside
times_inside a b c d e = or_second (or_second (inside 1 max_time _ a b) (inside 1 _ _ c d)) (lt-leb _ _ e)

pub header_fits : (s : List ℕ) → (header_refusal s).number ≡ 0 → HeaderFits s
unfolding header_refusal
header_fits s e =
    let one = or_else_both (refuse_if (ltb (length s) header_words) (refuse 1 0 0)) _ e in
    let two = or_else_both (refuse_if (outside 1 max_nodes (nodes s)) (refuse 2 0 0)) _ one.1 in
    let slots = ticks_outside (message_ticks s) (slot_ticks s) in
    let three = or_else_both (refuse_if slots (refuse 3 0 0)) _ two.1 in
    let short = refuse_if_none (ltb (length s) header_words) (refuse 1 0 0) (refuses 0 0 0) one.0 in
    let n = within 1 max_nodes (nodes s) (refuse_if_none (outside 1 max_nodes (nodes s)) (refuse 2 0 0) (refuses 1 0 0) two.0) in
    let ticks = ticks_within (refuse_if_none slots (refuse 3 0 0) (refuses 2 0 0) three.0) in
    let contents = refuse_if_none (ltb (length s) (contents_words s)) (refuse 4 0 0) (refuses 3 0 0) three.1 in
    record {
      header_there = ltb-false (length s) header_words short;
      nodes_from = n.0;
      nodes_to = n.1;
      message_from = ticks.0;
      message_to = ticks.1;
      slot_from = ticks.2;
      slot_to = ticks.3;
      contents_there = ltb-false (length s) (contents_words s) contents;
    }

pub row_fits : (s : List ℕ) (k : ℕ) → (row_refusal s k).number ≡ 0 → RowFits s k
unfolding row_refusal row_wrong
row_fits s k e =
    let wrong = not (eqb (place s k) (body_place s k)) in
    let range = counts_outside (stream_count s k) (budget s k) in
    let both = or_neither wrong range (refuse_if_none (wrong || range) (refuse 4 k 0) (refuses 3 k 0) e) in
    let counts = counts_within both.1 in
    record {
      placed = eqb-true (place s k) (body_place s k) (not-false (eqb (place s k) (body_place s k)) both.0);
      streams_to = counts.0;
      budget_from = counts.1;
      budget_to = counts.2;
    }

pub stream_fits : (s : List ℕ) (k j : ℕ) → (stream_refusal s k j).number ≡ 0 → StreamFits s k j
unfolding stream_refusal
stream_fits s k j e =
    let times = times_within (refuse_if_none (times_outside (period s k j) (deadline s k j) (jitter s k j)) (refuse 5 k j) (refuses 4 k j) e) in
    record { period_from = times.0; period_to = times.1; deadline_from = times.2; deadline_to = times.3; jitter_below = times.4 }

pub valid_fits : (s : List ℕ) → Valid s → SheetFits s
unfolding sheet_refusal body_refusal
valid_fits s e =
    let one = or_else_both (header_refusal s) _ e in
    let two = or_else_both (first_of (row_refusal s) 1 (nodes s)) _ one.1 in
    let wrong = not (eqb (length s) (sheet_length s)) in
    let three = or_else_both (refuse_if wrong (refuse 4 0 0)) _ two.1 in
    let exact = not-false (eqb (length s) (sheet_length s)) (refuse_if_none wrong (refuse 4 0 0) (refuses 3 0 0) three.0) in
    record {
      header = header_fits s one.0;
      rows = λ k low high. row_fits s k (first_none (row_refusal s) 1 (nodes s) two.0 k low (omega arith));
      whole = eqb-true (length s) (sheet_length s) exact;
      streams =
          λ k j on.
          stream_fits s k j
          (first_none (stream_refusal s k) 1 (stream_count s k)
          (first_none (body_refusal s) 1 (nodes s) three.1 k on.node_from (omega arith))
          j
          on.stream_from
          (omega arith));
    }

-- A sheet that fits is valid: none of its checks refuses.
pub fits_valid : (s : List ℕ) → SheetFits s → Valid s
unfolding sheet_refusal header_refusal body_refusal row_refusal row_wrong stream_refusal
fits_valid s fits =
    let h = fits.header in
    or_else_none _ _ (
    or_else_none _ _ (refuse_if_passes _ (le-ltb _ _ h.header_there)) (
    or_else_none _ _ (refuse_if_passes _ (inside 1 max_nodes _ h.nodes_from h.nodes_to)) (
    or_else_none _ _ (refuse_if_passes _ (ticks_inside h.message_from h.message_to h.slot_from h.slot_to)) (
    refuse_if_passes _ (le-ltb _ _ h.contents_there))))) (
    or_else_none _ _ (first_all _ 1 (nodes s) row) (
    or_else_none _ _ (refuse_if_passes _ (ap not (eq-eqb _ _ fits.whole))) (
    first_all _ 1 (nodes s) (λ k low high. first_all _ 1 (stream_count s k) (stream k low high)))))
  where
    row : (k : ℕ) → 1 ≤ k → k < 1 + nodes s → (row_refusal s k).number ≡ 0
    row k low high =
        let r = fits.rows k low (omega arith) in
        refuse_if_passes _ (or_second (ap not (eq-eqb _ _ r.placed)) (counts_inside r.streams_to r.budget_from r.budget_to))

    stream : (k : ℕ) → 1 ≤ k → k < 1 + nodes s → (j : ℕ) → 1 ≤ j → j < 1 + stream_count s k → (stream_refusal s k j).number ≡ 0
    stream k low high j from to =
        let on : OnSheet s k j = record { node_from = low; node_to = omega arith; stream_from = from; stream_to = omega arith } in
        let f = fits.streams k j on in
        refuse_if_passes _ (times_inside f.period_from f.period_to f.deadline_from f.deadline_to f.jitter_below)
