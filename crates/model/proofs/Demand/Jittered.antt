-- The demands applied where streams have jitters. A stream's own jitter is in its late test, and neither in its interference nor in its wait;
-- those ranked below have it in theirs. Events before tick 0 are within the premise, and the deadline runs from the event. Assumes nothing.
use Prim.Native.Nat.{ℕ, zero, suc, ◌+◌, ◌*◌, ◌≤◌, ◌<◌}
use native.Mathlib.Omega.{arith}
use mathlib.Core.Path.{◌≡◌, refl}
use mathlib.Core.Bool.{true, false≢true}
use mathlib.Core.List.{List, [], ◌∷◌}
use Rattle.theory.specs.Sum.{sum, up_to}
use Rattle.theory.specs.Queue.{first_in, first, first_ones}
use Rattle.model.specs.Refusal.{refuse_if, ◌or_else◌, first_of, outside}
use Rattle.model.specs.Sheet.{word, cycle, OnSheet, ticks_outside, counts_outside, times_outside, row_wrong, row_refusal, stream_refusal, body_refusal, header_refusal, sheet_refusal}
use Rattle.model.specs.Analysis.{stream_of, streams_from, outranks, above, most_releases, interference, wait_for, search, verdict, verdict_with}
use Rattle.model.specs.Protocol.{Successive, EventsFit, of_node, queued_before, waiting, begins_from, serve, next_node, next_bus, turn, start, run, replayed}
use Rattle.model.specs.Answers.{room_refusal, tick_before, release_refusal, log_refusal, horizon_refusal, unknown_refusal, verdict_answer, one_stream_answer, replay_answer}
use Rattle.model.specs.Demand.{StreamWait, StreamLate, BeginsWithin, DeliveredBy, Premises, WholeReplay}
use Rattle.model.specs.Bench.{sheet_jitter, log_jitter}
use Rattle.model.proofs.Demand.Demand2.{demand2}
use Rattle.model.proofs.Demand.Demand3.{demand3}

-- Jitter 18 is the most with which the first stream is in time: 18 + 17 − 1 + 5 + 1 = 40; and 4 is for the second: 4 + 3 × 17 − 1 + 5 + 1 = 60.
abbrev J : List ℕ
J = sheet_jitter 18 4

-- A stream of node 1.
on_node_1 : (first second j : ℕ) → 1 ≤ j → j ≤ 2 → OnSheet (sheet_jitter first second) 1 j
unfolding sheet_jitter
on_node_1 first second j from up_to = record { node_from = omega arith; node_to = omega arith; stream_from = from; stream_to = up_to }

-- The first is ranked above the second, and none above the first.
only_first : (i : ℕ) → OnSheet J 1 i → outranks (stream_of J 1 i) (stream_of J 1 2) ≡ true → i ≡ 1
unfolding sheet_jitter outranks
only_first zero on e = absurd (omega (arith, on.stream_from))
only_first (suc zero) on e = refl
only_first (suc (suc zero)) on e = absurd (false≢true e)
only_first (suc (suc (suc i))) on e = absurd (omega (arith, on.stream_to))

none_above : (i : ℕ) → OnSheet J 1 i → outranks (stream_of J 1 i) (stream_of J 1 1) ≡ true → ⊥
unfolding sheet_jitter outranks
none_above zero on e = omega (arith, on.stream_from)
none_above (suc zero) on e = false≢true e
none_above (suc (suc zero)) on e = false≢true e
none_above (suc (suc (suc i))) on e = omega (arith, on.stream_to)

-- The releases of the first stream are the seventh and the ninth, and that of the second the eighth.
of_first : (P : ℕ → Type 0) → P 6 → P 8 → (i : ℕ) → i < 9 → word log_jitter (2 * i + 1) ≡ 1 → P i
unfolding log_jitter
of_first P seventh ninth zero h e = absurd (omega arith)
of_first P seventh ninth (suc zero) h e = absurd (omega arith)
of_first P seventh ninth (suc (suc zero)) h e = absurd (omega arith)
of_first P seventh ninth (suc (suc (suc zero))) h e = absurd (omega arith)
of_first P seventh ninth (suc (suc (suc (suc zero)))) h e = absurd (omega arith)
of_first P seventh ninth (suc (suc (suc (suc (suc zero))))) h e = absurd (omega arith)
of_first P seventh ninth (suc (suc (suc (suc (suc (suc zero)))))) h e = seventh
of_first P seventh ninth (suc (suc (suc (suc (suc (suc (suc zero))))))) h e = absurd (omega arith)
of_first P seventh ninth (suc (suc (suc (suc (suc (suc (suc (suc zero)))))))) h e = ninth
of_first P seventh ninth (suc (suc (suc (suc (suc (suc (suc (suc (suc i))))))))) h e = absurd (omega arith)

of_second : (P : ℕ → Type 0) → P 7 → (i : ℕ) → i < 9 → word log_jitter (2 * i + 1) ≡ 2 → P i
unfolding log_jitter
of_second P eighth zero h e = absurd (omega arith)
of_second P eighth (suc zero) h e = absurd (omega arith)
of_second P eighth (suc (suc zero)) h e = absurd (omega arith)
of_second P eighth (suc (suc (suc zero))) h e = absurd (omega arith)
of_second P eighth (suc (suc (suc (suc zero)))) h e = absurd (omega arith)
of_second P eighth (suc (suc (suc (suc (suc zero))))) h e = absurd (omega arith)
of_second P eighth (suc (suc (suc (suc (suc (suc zero)))))) h e = absurd (omega arith)
of_second P eighth (suc (suc (suc (suc (suc (suc (suc zero))))))) h e = eighth
of_second P eighth (suc (suc (suc (suc (suc (suc (suc (suc zero)))))))) h e = absurd (omega arith)
of_second P eighth (suc (suc (suc (suc (suc (suc (suc (suc (suc i))))))))) h e = absurd (omega arith)

-- Events of the first stream, by the latest tick of queuing: at −17 and 23. No others fit: the first is queued as late as it may be, the
-- second at once, and they are a period apart.
abbrev first_events : ℕ → ℕ
first_events i = word (0 ∷ 0 ∷ 0 ∷ 0 ∷ 0 ∷ 0 ∷ 1 ∷ 0 ∷ 41 ∷ []) i

first_fit : EventsFit J log_jitter 1 1 first_events
unfolding sheet_jitter log_jitter sum up_to
first_fit =
    record {
      not_after = of_first (λ i. word log_jitter (2 * i) ≤ first_events i) (omega arith) (omega arith);
      not_before = of_first (λ i. first_events i ≤ word log_jitter (2 * i) + 18) (omega arith) (omega arith);
      apart = apart;
    }
  where
    -- a later one than the seventh is the ninth, and there is none later than that
    next : (b : ℕ) → b < 9 → word log_jitter (2 * b + 1) ≡ 1 → 6 < b → 41 ≤ first_events b
    next = of_first (λ b. 6 < b → 41 ≤ first_events b) (λ l. absurd (omega arith)) (λ l. omega arith)

    apart : (a b : ℕ) → Successive log_jitter 1 a b → first_events a + 40 ≤ first_events b
    apart a b s =
        of_first (λ a. a < b → first_events a + 40 ≤ first_events b)
        (λ l. next b s.in_log s.second l)
        (λ l. absurd (omega (arith, s.in_log)))
        a
        (omega (arith, s.ordered, s.in_log))
        s.first
        s.ordered

-- Any event of the second stream from 3 ticks before tick 0 to tick 1 fits.
second_fit : (f : ℕ) → 1 ≤ f → f ≤ 5 → EventsFit J log_jitter 1 2 (λ i. f)
unfolding sheet_jitter log_jitter sum up_to
second_fit f low high =
    record {
      not_after = of_second (λ i. word log_jitter (2 * i) ≤ f) (omega arith);
      not_before = of_second (λ i. f ≤ word log_jitter (2 * i) + 4) (omega arith);
      apart = apart;
    }
  where
    -- it has one release, and so no two
    apart : (a b : ℕ) → Successive log_jitter 2 a b → f + 60 ≤ f
    apart a b s =
        let first : a ≡ 7 = of_second (λ i. i ≡ 7) refl a (omega (arith, s.ordered, s.in_log)) s.first in
        let second : b ≡ 7 = of_second (λ i. i ≡ 7) refl b s.in_log s.second in
        absurd (omega (arith, s.ordered))

-- The premises of demand 3 for both.
first_premises : Premises J log_jitter 1 1 16 1
unfolding sheet_jitter sum up_to cycle streams_from outranks above most_releases interference wait_for search verdict verdict_with
first_premises =
    record {
      on_sheet = on_node_1 18 4 1 (omega arith) (omega arith);
      listed = refl;
      kept = record { itself = (first_events, first_fit); ranked_above = λ i on e. absurd (none_above i on e) };
    }

second_premises : Premises J log_jitter 1 2 50 3
unfolding sheet_jitter sum up_to cycle streams_from outranks above most_releases interference wait_for search verdict verdict_with
second_premises =
    record {
      on_sheet = on_node_1 18 4 2 (omega arith) (omega arith);
      listed = refl;
      kept =
          record {
            itself = (λ i. 1, second_fit 1 (omega arith) (omega arith));
            ranked_above = λ i on e. rw (only_first i on e) (first_events, first_fit);
          };
    }

-- What demand 3 says of any words that the replay up to 64 wrote: the second stream's message, queued at 1, begins within 50 ticks (it
-- waits 45, longer than it could if the first had no jitter); the first stream's messages are delivered 40 ticks after their events, the
-- one queued at 1 by 23; and the second's by 57 if its event was at −3, and by 61 if it was at 1.
pub record Jittered (words : List ℕ) : Type 0 where
  pub begins : BeginsWithin log_jitter words 50 7
  pub early_event : DeliveredBy J log_jitter words 6 23
  pub at_once : DeliveredBy J log_jitter words 8 63
  pub from_before : DeliveredBy J log_jitter words 7 57
  pub from_queuing : DeliveredBy J log_jitter words 7 61

pub jittered : (turns next : ℕ) (words : List ℕ) → WholeReplay J log_jitter 64 turns next words → Jittered words
unfolding sheet_jitter log_jitter sum up_to
jittered turns next words whole =
    record {
      begins = whole.within_wait 1 2 50 3 second_premises 7 (record { in_log = omega arith; of_stream = refl; in_time = omega arith });
      early_event =
          whole.delivered 1 1 16 1 first_premises first_events first_fit 6 23
          (record { in_log = omega arith; of_stream = refl; due = refl; in_time = omega arith });
      at_once =
          whole.delivered 1 1 16 1 first_premises first_events first_fit 8 63
          (record { in_log = omega arith; of_stream = refl; due = refl; in_time = omega arith });
      from_before =
          whole.delivered 1 2 50 3 second_premises (λ i. 1) (second_fit 1 (omega arith) (omega arith)) 7 57
          (record { in_log = omega arith; of_stream = refl; due = refl; in_time = omega arith });
      from_queuing =
          whole.delivered 1 2 50 3 second_premises (λ i. 5) (second_fit 5 (omega arith) (omega arith)) 7 61
          (record { in_log = omega arith; of_stream = refl; due = refl; in_time = omega arith });
    }

pub jittered_replay : Jittered (1 ∷ 6 ∷ 18 ∷ 23 ∷ 35 ∷ 40 ∷ 12 ∷ 46 ∷ 29 ∷ [])
unfolding
    sheet_jitter log_jitter sum up_to cycle first_in first first_ones refuse_if ◌or_else◌ first_of outside
    ticks_outside counts_outside times_outside row_wrong row_refusal stream_refusal body_refusal header_refusal sheet_refusal
    outranks of_node queued_before waiting begins_from serve next_node next_bus turn start run replayed
    room_refusal tick_before release_refusal log_refusal horizon_refusal replay_answer
jittered_replay = jittered 19 64 (1 ∷ 6 ∷ 18 ∷ 23 ∷ 35 ∷ 40 ∷ 12 ∷ 46 ∷ 29 ∷ []) (demand3 J log_jitter 64 refl)

-- Demand 2: the first stream's wait is 16, as without its jitter, and the second's 50, where it would be 33 if the first had none. With one
-- tick of jitter more each would be late.
pub record Waits : Type 0 where
  pub own : StreamWait J 1 1 1 16
  pub below : StreamWait J 1 2 3 50
  pub without : StreamWait (sheet_jitter 0 4) 1 2 2 33
  pub first_late : StreamLate (sheet_jitter 19 4) 1 1
  pub second_late : StreamLate (sheet_jitter 18 5) 1 2

pub waits : Waits
unfolding
    sheet_jitter sum up_to cycle refuse_if ◌or_else◌ first_of outside
    ticks_outside counts_outside times_outside row_wrong row_refusal stream_refusal body_refusal header_refusal sheet_refusal
    streams_from outranks above most_releases interference wait_for search verdict verdict_with
    unknown_refusal verdict_answer one_stream_answer
waits =
    record {
      own = ((demand2.one_stream J refl 1 1 (on_node_1 18 4 1 (omega arith) (omega arith))).listed 16 1).0 refl;
      below = ((demand2.one_stream J refl 1 2 (on_node_1 18 4 2 (omega arith) (omega arith))).listed 50 3).0 refl;
      without = ((demand2.one_stream (sheet_jitter 0 4) refl 1 2 (on_node_1 0 4 2 (omega arith) (omega arith))).listed 33 2).0 refl;
      first_late = (demand2.one_stream (sheet_jitter 19 4) refl 1 1 (on_node_1 19 4 1 (omega arith) (omega arith))).late.0 refl;
      second_late = (demand2.one_stream (sheet_jitter 18 5) refl 1 2 (on_node_1 18 5 2 (omega arith) (omega arith))).late.0 refl;
    }
