-- Delivery applied, with nothing to spare: a message that is first in a turn of two is delivered at its deadline, when the turn's slot
-- ends, 11 ticks after it begins. Assumes nothing.
use Prim.Native.Nat.{ℕ, zero, suc, ◌≤◌, ◌<◌}
use native.Mathlib.Omega.{arith}
use mathlib.Core.Path.{◌≡◌, refl}
use mathlib.Core.Bool.{true, false≢true}
use mathlib.Core.List.{List, [], ◌∷◌}
use Rattle.theory.specs.Sum.{sum, up_to}
use Rattle.theory.specs.Queue.{first_in, first, first_ones}
use Rattle.model.specs.Refusal.{refuse_if, ◌or_else◌, first_of, outside}
use Rattle.model.specs.Sheet.{word, cycle, OnSheet, ticks_outside, counts_outside, times_outside, row_wrong, row_refusal, stream_refusal, body_refusal, header_refusal, sheet_refusal}
use Rattle.model.specs.Analysis.{stream_of, streams_from, outranks, above, most_releases, interference, wait_for, search, verdict, verdict_with}
use Rattle.model.specs.Protocol.{release_tick, of_node, queued_before, waiting, begins_from, serve, next_node, next_bus, turn, start, state_at, start_of, run, replayed}
use Rattle.model.specs.Answers.{room_refusal, tick_before, release_refusal, log_refusal, horizon_refusal, replay_answer}
use Rattle.model.specs.Demand.{DeliveredBy, Premises, WholeReplay}
use Rattle.model.specs.Bench.{sheet_pair, log_pair}
use Rattle.model.proofs.Protocol.Events.{PeriodApart, apart_fit, apart_kept}
use Rattle.model.proofs.Demand.TurnMessages.{within_turn}
use Rattle.model.proofs.Demand.Demand3.{demand3}

-- The deadline 27 is the shortest that passes: 17 − 1 + 2 × 5 + 1.
abbrev Pair : List ℕ
Pair = sheet_pair 27

-- Node 2's first stream releases once, and none is ranked above it.
once : PeriodApart Pair log_pair 2 1
unfolding sheet_pair log_pair sum up_to
once zero b s = absurd (omega (arith, s.first))
once (suc zero) b s = absurd (omega (arith, s.first))
once (suc (suc zero)) b s = absurd (omega (arith, s.first))
once (suc (suc (suc zero))) b s = absurd (omega (arith, s.first))
once (suc (suc (suc (suc zero)))) b s = absurd (omega (arith, s.first))
once (suc (suc (suc (suc (suc a))))) b s = absurd (omega (arith, s.ordered, s.in_log))

none_above : (i : ℕ) → OnSheet Pair 2 i → outranks (stream_of Pair 2 i) (stream_of Pair 2 1) ≡ true → ⊥
unfolding sheet_pair outranks
none_above zero on e = omega (arith, on.stream_from)
none_above (suc zero) on e = false≢true e
none_above (suc (suc zero)) on e = false≢true e
none_above (suc (suc (suc i))) on e = omega (arith, on.stream_to)

premises : Premises Pair log_pair 2 1 16 1
unfolding sheet_pair sum up_to cycle streams_from outranks above most_releases interference wait_for search verdict verdict_with
premises =
    record {
      on_sheet = record { node_from = omega arith; node_to = omega arith; stream_from = omega arith; stream_to = omega arith };
      listed = refl;
      kept = record { itself = apart_kept Pair log_pair 2 1 once; ranked_above = λ i on e. absurd (none_above i on e) };
    }

-- What is said of any words that the replay up to 35 wrote: the message, released at 7, has its begin tick in a turn that is over by
-- 34, its deadline. As it begins at 23, that turn is the one from 23 to 34.
pub record Paired (words : List ℕ) : Type 0 where
  pub turn : ℕ
  pub from : start_of Pair log_pair turn ≤ word words 5
  pub next : word words 5 < start_of Pair log_pair (suc turn)
  pub over : start_of Pair log_pair (suc turn) ≤ 34
  pub begins : word words 5 ≡ 23
  pub started : start_of Pair log_pair 3 ≡ 23
  pub ended : start_of Pair log_pair 4 ≡ 34

pub paired : (words : List ℕ) → WholeReplay Pair log_pair 35 5 35 words → Paired words
unfolding sheet_pair log_pair sum up_to first_in first first_ones outranks of_node queued_before waiting begins_from serve next_node next_bus turn start state_at
paired words whole =
    let d : DeliveredBy Pair log_pair words 5 34 =
    whole.delivered 2 1 16 1 premises (release_tick log_pair) (apart_fit Pair log_pair 2 1 once) 5 34
    (record { in_log = omega arith; of_stream = refl; due = refl; in_time = omega arith })
    in
    let in_turn_lem = (within_turn Pair log_pair words d.turn 5).0 d.begins in
    record {
      turn = d.turn;
      from = in_turn_lem.0;
      next = in_turn_lem.1;
      over = d.over;
      begins = whole.every_release 5 (omega arith);
      started = refl;
      ended = refl;
    }

pub paired_replay : Paired (0 ∷ 17 ∷ 6 ∷ 11 ∷ 28 ∷ 23 ∷ [])
unfolding
    sheet_pair log_pair sum up_to cycle first_in first first_ones refuse_if ◌or_else◌ first_of outside
    ticks_outside counts_outside times_outside row_wrong row_refusal stream_refusal body_refusal header_refusal sheet_refusal
    outranks of_node queued_before waiting begins_from serve next_node next_bus turn start run replayed
    room_refusal tick_before release_refusal log_refusal horizon_refusal replay_answer
paired_replay = paired (0 ∷ 17 ∷ 6 ∷ 11 ∷ 28 ∷ 23 ∷ []) (demand3 Pair log_pair 35 refl)
