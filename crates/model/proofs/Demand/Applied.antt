-- The demands applied to concrete sheets and replays. Each conclusion has numbers that a weaker demand would not give: of the words that
-- a replay wrote nothing is known here but what demand 3 says. Assumes nothing.
use Prim.Native.Nat.{ℕ, zero, suc, ◌+◌, ◌*◌, ◌≤◌, ◌<◌}
use native.Mathlib.Omega.{arith}
use mathlib.Core.Path.{◌≡◌, refl, sym, ap, ◌∙◌}
use mathlib.Core.Logic.{inl, inr}
use mathlib.Core.Bool.{true, false, true≢false, false≢true}
use mathlib.Core.List.{List, [], ◌∷◌}
use Rattle.theory.specs.Sum.{sum, up_to}
use Rattle.theory.specs.Queue.{first_in, first, first_ones}
use Rattle.theory.specs.Listing.{values_from, joined_from}
use Rattle.model.specs.declared.Answer.{Answer}
use Rattle.model.specs.Limits.{not_begun}
use Rattle.model.specs.Refusal.{refuse_if, ◌or_else◌, first_of, outside}
use Rattle.model.specs.Sheet.{word, cycle, OnSheet, ticks_outside, counts_outside, times_outside, row_wrong, row_refusal, stream_refusal, body_refusal, header_refusal, sheet_refusal}
use Rattle.model.specs.Analysis.{stream_of, streams_from, outranks, above, most_releases, interference, wait_for, search, verdict, higher_streams, verdict_with}
use Rattle.model.specs.Protocol.{release_tick, KeepsPeriod, of_node, queued_before, waiting, begins_from, serve, next_node, next_bus, turn, start, state_at, start_of, node_of, TurnsBefore, run, replayed}
use Rattle.model.specs.Answers.{room_refusal, tick_before, release_refusal, log_refusal, horizon_refusal, unknown_refusal, verdict_answer, late_refusal, node_late_with, wait_word, buffer_after, one_stream_answer, admit_answer, admit_buffer, replay_answer, stepped}
use Rattle.model.specs.Demand.{StreamWait, StreamLate, AllJudged, messages_of, BeginsWithin, DeliveredBy, NextTurn, PeriodsKept, Premises, DueBefore, WholeReplay}
use Rattle.model.specs.Bench.{sheet_a, crowded_by, log_crowded, log_periodic}
use Rattle.model.proofs.Protocol.Events.{PeriodApart, apart_fit, apart_kept, kept_apart}
use Rattle.model.proofs.Protocol.Run.{turns_unique}
use Rattle.model.proofs.Answers.Stepping.{in_front, stepping}
use Rattle.model.proofs.Demand.Demand2.{demand2}
use Rattle.model.proofs.Demand.Demand3.{demand3}

-- "Sheet A".
abbrev pub A : List ℕ
A = sheet_a 40 40 60

-- A stream of node 1 of sheet A, or of one like it.
pub on_node_1 : (p first second j : ℕ) → 1 ≤ j → j ≤ 2 → OnSheet (sheet_a p first second) 1 j
unfolding sheet_a
on_node_1 p first second j from up_to = record { node_from = omega arith; node_to = omega arith; stream_from = from; stream_to = up_to }

-- None of node 1's streams is ranked above one that neither of the two is ranked above.
pub highest : (p first second j : ℕ)
    → outranks (stream_of (sheet_a p first second) 1 1) (stream_of (sheet_a p first second) 1 j) ≡ false
    → outranks (stream_of (sheet_a p first second) 1 2) (stream_of (sheet_a p first second) 1 j) ≡ false
    → (i : ℕ)
    → OnSheet (sheet_a p first second) 1 i
    → outranks (stream_of (sheet_a p first second) 1 i) (stream_of (sheet_a p first second) 1 j) ≡ true
    → ⊥
unfolding sheet_a
highest p first second j one two zero on e = omega (arith, on.stream_from)
highest p first second j one two (suc zero) on e = true≢false (sym e ∙ one)
highest p first second j one two (suc (suc zero)) on e = true≢false (sym e ∙ two)
highest p first second j one two (suc (suc (suc i))) on e = omega (arith, on.stream_to)

-- On sheet A the first is ranked above the second, and no other.
only_first : (i : ℕ) → OnSheet A 1 i → outranks (stream_of A 1 i) (stream_of A 1 2) ≡ true → i ≡ 1
unfolding sheet_a outranks
only_first zero on e = absurd (omega (arith, on.stream_from))
only_first (suc zero) on e = refl
only_first (suc (suc zero)) on e = absurd (false≢true e)
only_first (suc (suc (suc i))) on e = absurd (omega (arith, on.stream_to))

-- In a crowded log one stream of node 1 releases once, so that it keeps its period whatever the others do.
once_apart : (p first second often j : ℕ) → j ≤ 2 → (often ≡ j → ⊥) → PeriodApart (sheet_a p first second) (crowded_by often j) 1 j
unfolding sheet_a crowded_by sum up_to
once_apart p first second often j low other zero b s = absurd (other (omega (arith, s.first)))
once_apart p first second often j low other (suc zero) b s = absurd (other (omega (arith, s.first)))
once_apart p first second often j low other (suc (suc zero)) b s = absurd (omega (arith, s.first))
once_apart p first second often j low other (suc (suc (suc zero))) b s = absurd (omega (arith, s.first))
once_apart p first second often j low other (suc (suc (suc (suc a)))) b s = absurd (omega (arith, s.ordered, s.in_log))

pub once : (p first second often j : ℕ) → j ≤ 2 → (often ≡ j → ⊥) → KeepsPeriod (sheet_a p first second) (crowded_by often j) 1 j
once p first second often j low other =
    apart_kept (sheet_a p first second) (crowded_by often j) 1 j (once_apart p first second often j low other)

-- The stream that releases twice at tick 0 does not keep it: without a jitter no events fit.
pub broken : KeepsPeriod A log_crowded 1 2 → ⊥
unfolding sheet_a crowded_by sum up_to
broken kept =
    omega (
      arith,
      kept_apart A log_crowded 1 2 refl kept 0 1
          (record { ordered = omega arith; in_log = omega arith; first = refl; second = refl; none_between = λ i low high e. omega arith }),
    )

-- Between its first two turns node 1 has no other.
next_turn : NextTurn A log_crowded 0 2
unfolding sheet_a crowded_by sum up_to first_in first first_ones outranks of_node queued_before waiting begins_from serve next_node next_bus turn start state_at
next_turn = record { ordered = omega arith; same_node = refl; none_between = none }
  where
    none : (i : ℕ) → 0 < i → i < 2 → node_of A log_crowded i ≡ node_of A log_crowded 0 → ⊥
    none zero low high e = omega arith
    none (suc zero) low high e = omega arith
    none (suc (suc i)) low high e = omega arith

-- What demand 3 says of any words that the replay of the crowded log up to 18 wrote.
pub record Crowded (words : List ℕ) : Type 0 where
  -- every release has its word; the second has not begun
  pub words0 : word words 0 ≡ 0
  pub words1 : word words 1 ≡ not_begun
  pub words2 : word words 2 ≡ 6
  pub words3 : word words 3 ≡ 11
  pub words4 : word words 4 ≡ 17
  -- node 1's turns start at 0 and 17, and C is 17
  pub cycle_apart : start_of A log_crowded 2 ≤ start_of A log_crowded 0 + 17
  -- node 2's turn has two messages, which is its budget
  pub full : messages_of A log_crowded words 1 ≤ 2
  -- stream 1's message, released at 1, begins within 16 ticks, though the others break their periods
  pub begun : word words 4 ≡ not_begun → ⊥
  pub not_earlier : 1 ≤ word words 4
  pub within : word words 4 ≤ 17

pub crowded : (words : List ℕ) → WholeReplay A log_crowded 18 3 23 words → Crowded words
unfolding
    sheet_a crowded_by sum up_to cycle first_in first first_ones streams_from outranks above most_releases interference wait_for search verdict verdict_with
    of_node queued_before waiting begins_from serve next_node next_bus turn start state_at
crowded words whole =
    let due : DueBefore A log_crowded 18 1 1 16 4 = record { in_log = omega arith; of_stream = refl; in_time = omega arith } in
    let kept : PeriodsKept A log_crowded 1 1 = record { itself = once 40 40 60 2 1 (omega arith) (λ e. omega arith); ranked_above = λ i on e. absurd (highest 40 40 60 1 refl refl i on e) } in
    let premises : Premises A log_crowded 1 1 16 1 =
    record { on_sheet = on_node_1 40 40 60 1 (omega arith) (omega arith); listed = refl; kept = kept }
    in
    let m : BeginsWithin log_crowded words 16 4 = whole.within_wait 1 1 16 1 premises 4 due in
    record {
      words0 = whole.every_release 0 (omega arith);
      words1 = whole.every_release 1 (omega arith);
      words2 = whole.every_release 2 (omega arith);
      words3 = whole.every_release 3 (omega arith);
      words4 = whole.every_release 4 (omega arith);
      cycle_apart = whole.one_cycle_apart 0 2 next_turn (omega arith);
      full = whole.within_budget 1 (omega arith);
      begun = m.written;
      not_earlier = m.not_earlier;
      within = m.within;
    }

-- Demand 3 counts the turns and names the next tick: of the crowded log up to 18 there are three, and the next would start at 23.
crowded_three : TurnsBefore A log_crowded 18 3
unfolding sheet_a crowded_by sum up_to first_in first first_ones outranks of_node queued_before waiting begins_from serve next_node next_bus turn start state_at
crowded_three = record { started = started; ended = omega arith }
  where
    started : (i : ℕ) → i < 3 → start_of A log_crowded i < 18
    started zero h = omega arith
    started (suc zero) h = omega arith
    started (suc (suc zero)) h = omega arith
    started (suc (suc (suc i))) h = absurd (omega arith)

pub crowded_turns : (turns next : ℕ) (words : List ℕ) → WholeReplay A log_crowded 18 turns next words → (turns ≡ 3) × (next ≡ 23)
unfolding sheet_a crowded_by sum up_to first_in first first_ones outranks of_node queued_before waiting begins_from serve next_node next_bus turn start state_at
crowded_turns turns next words whole =
    let three : turns ≡ 3 = turns_unique whole.turns_counted crowded_three in
    (three, whole.next_start ∙ ap (start_of A log_crowded) three)

-- The periodic log: stream 1 releases at 0 and 40, its period apart, and stream 2 once.
apart : PeriodApart A log_periodic 1 1
unfolding sheet_a log_periodic sum up_to
apart zero b s = later b s.ordered s.in_log s.second
  where
    later : (b : ℕ) → 0 < b → b < 5 → word log_periodic (2 * b + 1) ≡ 1 → 40 ≤ word log_periodic (2 * b)
    later zero low high e = absurd (omega arith)
    later (suc zero) low high e = absurd (omega arith)
    later (suc (suc zero)) low high e = absurd (omega arith)
    later (suc (suc (suc zero))) low high e = absurd (omega arith)
    later (suc (suc (suc (suc zero)))) low high e = omega arith
    later (suc (suc (suc (suc (suc b))))) low high e = absurd (omega arith)
apart (suc zero) b s = absurd (omega (arith, s.first))
apart (suc (suc zero)) b s = absurd (omega (arith, s.first))
apart (suc (suc (suc zero))) b s = absurd (omega (arith, s.first))
apart (suc (suc (suc (suc a)))) b s = absurd (omega (arith, s.ordered, s.in_log))

once_second : PeriodApart A log_periodic 1 2
unfolding sheet_a log_periodic sum up_to
once_second zero b s = absurd (omega (arith, s.first))
once_second (suc zero) b s = absurd (omega (arith, s.first))
once_second (suc (suc zero)) b s = absurd (omega (arith, s.first))
once_second (suc (suc (suc zero))) b s = last b s.ordered s.in_log s.second
  where
    last : (b : ℕ) → 3 < b → b < 5 → word log_periodic (2 * b + 1) ≡ 2 → 61 ≤ word log_periodic (2 * b)
    last zero low high e = absurd (omega arith)
    last (suc zero) low high e = absurd (omega arith)
    last (suc (suc zero)) low high e = absurd (omega arith)
    last (suc (suc (suc zero))) low high e = absurd (omega arith)
    last (suc (suc (suc (suc zero)))) low high e = absurd (omega arith)
    last (suc (suc (suc (suc (suc b))))) low high e = absurd (omega arith)
once_second (suc (suc (suc (suc a)))) b s = absurd (omega (arith, s.ordered, s.in_log))

-- The premises of demand 3 for stream 1,
pub first_premises : Premises A log_periodic 1 1 16 1
unfolding sheet_a log_periodic sum up_to cycle streams_from outranks above most_releases interference wait_for search verdict verdict_with
first_premises =
    record {
      on_sheet = on_node_1 40 40 60 1 (omega arith) (omega arith);
      listed = refl;
      kept = record { itself = apart_kept A log_periodic 1 1 apart; ranked_above = λ i on e. absurd (highest 40 40 60 1 refl refl i on e) };
    }

-- and for stream 2, whose J is 2.
pub second_premises : Premises A log_periodic 1 2 33 2
unfolding sheet_a log_periodic sum up_to cycle streams_from outranks above most_releases interference wait_for search verdict verdict_with
second_premises =
    record {
      on_sheet = on_node_1 40 40 60 2 (omega arith) (omega arith);
      listed = refl;
      kept =
          record {
            itself = apart_kept A log_periodic 1 2 once_second;
            ranked_above = λ i on e. rw (only_first i on e) (apart_kept A log_periodic 1 1 apart);
          };
    }

-- What demand 3 says of any words that the replay of the periodic log up to 57 wrote: of stream 2, whose J is 2, and of stream 1, whose
-- second message is due a tick before the horizon.
pub record Periodic (words : List ℕ) : Type 0 where
  pub second : BeginsWithin log_periodic words 33 3
  pub first : BeginsWithin log_periodic words 16 4

pub periodic : (turns next : ℕ) (words : List ℕ) → WholeReplay A log_periodic 57 turns next words → Periodic words
unfolding sheet_a log_periodic sum up_to cycle streams_from outranks above most_releases interference wait_for search verdict verdict_with
periodic turns next words whole =
    record {
      second =
          whole.within_wait 1 2 33 2 second_premises 3 (record { in_log = omega arith; of_stream = refl; in_time = omega arith });
      first =
          whole.within_wait 1 1 16 1 first_premises 4 (record { in_log = omega arith; of_stream = refl; in_time = omega arith });
    }

-- The promise of delivery where J is 2: its message, whose event is its release at 1, is delivered by 61, its deadline, a tick before
-- the horizon.
pub second_delivered : (turns next : ℕ) (words : List ℕ)
    → WholeReplay A log_periodic 62 turns next words
    → DeliveredBy A log_periodic words 3 61
unfolding sheet_a log_periodic sum up_to
second_delivered turns next words whole =
    whole.delivered 1 2 33 2 second_premises (release_tick log_periodic) (apart_fit A log_periodic 1 2 once_second) 3 61
    (record { in_log = omega arith; of_stream = refl; due = refl; in_time = omega arith })

-- Demand 3 about these replays, with the numbers that they answer.
pub crowded_replay : Crowded (0 ∷ not_begun ∷ 6 ∷ 11 ∷ 17 ∷ [])
unfolding
    sheet_a crowded_by sum up_to cycle first_in first first_ones refuse_if ◌or_else◌ first_of outside
    ticks_outside counts_outside times_outside row_wrong row_refusal stream_refusal body_refusal header_refusal sheet_refusal
    outranks of_node queued_before waiting begins_from serve next_node next_bus turn start run replayed
    room_refusal tick_before release_refusal log_refusal horizon_refusal replay_answer
crowded_replay = crowded (0 ∷ not_begun ∷ 6 ∷ 11 ∷ 17 ∷ []) (demand3 A log_crowded 18 refl)

pub periodic_replay : Periodic (0 ∷ 6 ∷ 11 ∷ 17 ∷ 40 ∷ [])
unfolding
    sheet_a log_periodic sum up_to cycle first_in first first_ones refuse_if ◌or_else◌ first_of outside
    ticks_outside counts_outside times_outside row_wrong row_refusal stream_refusal body_refusal header_refusal sheet_refusal
    outranks of_node queued_before waiting begins_from serve next_node next_bus turn start run replayed
    room_refusal tick_before release_refusal log_refusal horizon_refusal replay_answer
periodic_replay = periodic 32 57 (0 ∷ 6 ∷ 11 ∷ 17 ∷ 40 ∷ []) (demand3 A log_periodic 57 refl)

-- Sheet A with the deadline 38 for both streams of node 1: the shorter period is ranked above.
abbrev A38 : List ℕ
A38 = sheet_a 40 38 38

-- Demand 2 about node 1's second stream: on sheet A it has the wait 33 at J = 2, has a place in its turn, and is not late; with the
-- deadlines 38 it is late and has no wait: it could be delivered 39 ticks after its release. And about all streams: admit writes 33 for
-- it, or refuses there, with the first in time.
pub record Second : Type 0 where
  pub listed : StreamWait A 1 2 2 33
  pub placed : 1 ≤ interference (higher_streams A 1 2) 33
  pub not_late : StreamLate A 1 2 → ⊥
  pub late : StreamLate A38 1 2
  pub no_wait : (J wait : ℕ) → StreamWait A38 1 2 J wait → ⊥
  pub admitted : (J : ℕ) × StreamWait A 1 2 J 33
  pub refused : OnSheet A38 1 2 × StreamLate A38 1 2
  pub before : (J wait : ℕ) × StreamWait A38 1 1 J wait

pub second : Second
unfolding
    sheet_a sum up_to cycle refuse_if ◌or_else◌ first_of outside
    ticks_outside counts_outside times_outside row_wrong row_refusal stream_refusal body_refusal header_refusal sheet_refusal
    streams_from outranks above most_releases interference wait_for search verdict verdict_with
    unknown_refusal verdict_answer one_stream_answer room_refusal late_refusal node_late_with wait_word values_from joined_from buffer_after admit_answer admit_buffer
second =
    let judged = demand2.one_stream A refl 1 2 (on_node_1 40 40 60 2 (omega arith) (omega arith)) in
    let judged38 = demand2.one_stream A38 refl 1 2 (on_node_1 40 38 38 2 (omega arith) (omega arith)) in
    let all = demand2.admission A (9 ∷ 9 ∷ 9 ∷ []) refl (omega arith) in
    let all38 = demand2.admission A38 (9 ∷ 9 ∷ 9 ∷ []) refl (omega arith) in
    let listed : StreamWait A 1 2 2 33 = (judged.listed 33 2).0 refl in
    record {
      listed = listed;
      placed = judged.placed 33 2 listed;
      not_late = λ late. omega (arith, ap (λ (a : Answer). a.number) (judged.late.1 late));
      late = judged38.late.0 refl;
      no_wait = λ J wait h. omega (arith, ap (λ (a : Answer). a.number) ((judged38.listed wait J).1 h));
      admitted = all.admitted refl 1 2 (on_node_1 40 40 60 2 (omega arith) (omega arith));
      refused = all38.refused refl;
      before = all38.first refl 1 1 (on_node_1 40 38 38 1 (omega arith) (omega arith)) (omega arith);
    }

-- No stream of sheet A is late, so that demand 2 leaves admit no answer but number 0, whatever it writes.
none_late : (k j : ℕ) → OnSheet A k j → StreamLate A k j → ⊥
unfolding
    sheet_a sum up_to cycle refuse_if ◌or_else◌ first_of outside
    ticks_outside counts_outside times_outside row_wrong row_refusal stream_refusal body_refusal header_refusal sheet_refusal
    streams_from outranks above most_releases interference wait_for search verdict verdict_with
    unknown_refusal verdict_answer one_stream_answer
none_late zero j on late = omega (arith, on.node_from)
none_late (suc zero) zero on late = omega (arith, on.stream_from)
none_late (suc zero) (suc zero) on late = omega (arith, ap (λ (a : Answer). a.number) ((demand2.one_stream A refl 1 1 on).late.1 late))
none_late (suc zero) (suc (suc zero)) on late = omega (arith, ap (λ (a : Answer). a.number) ((demand2.one_stream A refl 1 2 on).late.1 late))
none_late (suc zero) (suc (suc (suc j))) on late = omega (arith, on.stream_to)
none_late (suc (suc zero)) zero on late = omega (arith, on.stream_from)
none_late (suc (suc zero)) (suc zero) on late = omega (arith, ap (λ (a : Answer). a.number) ((demand2.one_stream A refl 2 1 on).late.1 late))
none_late (suc (suc zero)) (suc (suc j)) on late = omega (arith, on.stream_to)
none_late (suc (suc (suc k))) j on late = omega (arith, on.node_to)

pub must_admit : (answer : Answer) (words : List ℕ) → AllJudged A answer words → answer.number ≡ 0
must_admit answer words all =
    elim all.decided [
      | inl admitted ↦ admitted
      | inr refused ↦
          let stream = all.refused refused in
          absurd (none_late answer.second answer.third stream.0 stream.1)
    ]

-- Stepping applied: three steps from (0, 1, 0) over a buffer a word longer than the crowded log are its replay up to 18.
pub crowded_steps : stepped A log_crowded 3 (in_front (9 ∷ []) (start log_crowded))
    ≡ record { bus = record { tick = 23; node = 2; turns = 3 }; begins = 0 ∷ not_begun ∷ 6 ∷ 11 ∷ 17 ∷ 9 ∷ [] }
unfolding
    sheet_a crowded_by sum up_to cycle first_in first first_ones refuse_if ◌or_else◌ first_of outside
    ticks_outside counts_outside times_outside row_wrong row_refusal stream_refusal body_refusal header_refusal sheet_refusal
    outranks of_node queued_before waiting begins_from serve next_node next_bus turn start state_at
    tick_before release_refusal log_refusal
crowded_steps = stepping A log_crowded (9 ∷ []) refl refl 3 (omega arith)
