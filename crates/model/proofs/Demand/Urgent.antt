-- The demands applied where rank by deadline and rank by period differ: a stream with the longer period and the shorter deadline goes first,
-- in its wait and in the replay. Assumes nothing.
use Prim.Native.Nat.{ℕ}
use native.Mathlib.Omega.{arith}
use mathlib.Core.Path.{◌≡◌, refl}
use mathlib.Core.List.{List, [], ◌∷◌}
use Rattle.theory.specs.Sum.{sum, up_to}
use Rattle.theory.specs.Queue.{first_in, first, first_ones}
use Rattle.model.specs.Limits.{not_begun}
use Rattle.model.specs.Refusal.{refuse_if, ◌or_else◌, first_of, outside}
use Rattle.model.specs.Sheet.{word, cycle, ticks_outside, counts_outside, times_outside, row_wrong, row_refusal, stream_refusal, body_refusal, header_refusal, sheet_refusal}
use Rattle.model.specs.Analysis.{streams_from, outranks, above, most_releases, interference, wait_for, search, verdict, verdict_with}
use Rattle.model.specs.Protocol.{of_node, queued_before, waiting, begins_from, serve, next_node, next_bus, turn, start, state_at, run, replayed}
use Rattle.model.specs.Answers.{room_refusal, tick_before, release_refusal, log_refusal, horizon_refusal, unknown_refusal, verdict_answer, one_stream_answer, replay_answer}
use Rattle.model.specs.Demand.{StreamWait, BeginsWithin, PeriodsKept, WholeReplay}
use Rattle.model.specs.Bench.{sheet_a, crowded_by, log_urgent}
use Rattle.model.proofs.Demand.Demand2.{demand2}
use Rattle.model.proofs.Demand.Demand3.{demand3}
use Rattle.model.proofs.Demand.Applied.{on_node_1, highest, once}

-- The sheet of P2: node 1's second stream has the longer period and the shorter deadline, and is ranked above the first.
abbrev P2 : List ℕ
P2 = sheet_a 40 40 38

-- What the demands say of it, and of any words that the replay of the urgent log up to 18 wrote.
pub record Urgent (words : List ℕ) : Type 0 where
  -- demand 2: the second stream goes in the first turn, and the first behind it
  pub listed : StreamWait P2 1 2 1 16
  pub behind : StreamWait P2 1 1 2 33
  -- demand 3: its message, released at 1, begins within 16 ticks; the first stream, which breaks its period, waits since tick 0
  pub passed : word words 1 ≡ not_begun
  pub message : BeginsWithin log_urgent words 16 4

pub urgent : (words : List ℕ) → WholeReplay P2 log_urgent 18 3 23 words → Urgent words
unfolding
    sheet_a crowded_by sum up_to cycle first_in first first_ones refuse_if ◌or_else◌ first_of outside
    ticks_outside counts_outside times_outside row_wrong row_refusal stream_refusal body_refusal header_refusal sheet_refusal
    streams_from outranks above most_releases interference wait_for search verdict verdict_with
    of_node queued_before waiting begins_from serve next_node next_bus turn start state_at
    unknown_refusal verdict_answer one_stream_answer
urgent words whole =
    let one = on_node_1 40 40 38 1 (omega arith) (omega arith) in
    let two = on_node_1 40 40 38 2 (omega arith) (omega arith) in
    let kept : PeriodsKept P2 log_urgent 1 2 =
    record { itself = once 40 40 38 1 2 (omega arith) (λ e. omega arith); ranked_above = λ i on e. absurd (highest 40 40 38 2 refl refl i on e) }
    in
    record {
      listed = ((demand2.one_stream P2 refl 1 2 two).listed 16 1).0 refl;
      behind = ((demand2.one_stream P2 refl 1 1 one).listed 33 2).0 refl;
      passed = whole.every_release 1 (omega arith);
      message =
          whole.within_wait 1 2 16 1 (record { on_sheet = two; listed = refl; kept = kept }) 4
          (record { in_log = omega arith; of_stream = refl; in_time = omega arith });
    }

pub urgent_replay : Urgent (0 ∷ not_begun ∷ 6 ∷ 11 ∷ 17 ∷ [])
unfolding
    sheet_a crowded_by sum up_to cycle first_in first first_ones refuse_if ◌or_else◌ first_of outside
    ticks_outside counts_outside times_outside row_wrong row_refusal stream_refusal body_refusal header_refusal sheet_refusal
    outranks of_node queued_before waiting begins_from serve next_node next_bus turn start run replayed
    room_refusal tick_before release_refusal log_refusal horizon_refusal replay_answer
urgent_replay = urgent (0 ∷ not_begun ∷ 6 ∷ 11 ∷ 17 ∷ []) (demand3 P2 log_urgent 18 refl)
