-- The theorem of the pieces with numbers: P9's log, cut in three, is fed up to two horizons. What the pieces answer is computed; what the
-- whole log's replay gives is read off that by the theorem, and no whole replay is computed for it. Then what anything that keeps the
-- promise of a piece holds and has answered. Assumes nothing.
use Prim.Native.Nat.{ℕ, ◌*◌}
use native.Mathlib.Omega.{arith}
use mathlib.Core.Path.{◌≡◌, refl, sym, ap, subst}
use mathlib.Core.List.{List, [], ◌∷◌, ◌++◌}
use lib.ListN.{take, replicate}
use Rattle.theory.specs.Sum.{sum, up_to}
use Rattle.theory.specs.Queue.{first_in, first, first_ones}
use Rattle.theory.specs.Listing.{values_from, joined_from, holding_below}
use Rattle.model.specs.declared.Bus.{Bus}
use Rattle.model.specs.Limits.{release_words, not_begun}
use Rattle.model.specs.Refusal.{refuse_if, ◌or_else◌, first_of, outside}
use Rattle.model.specs.Sheet.{word, cycle, ticks_outside, counts_outside, times_outside, row_wrong, row_refusal, stream_refusal, body_refusal, header_refusal, sheet_refusal, Valid}
use Rattle.model.specs.Analysis.{outranks}
use Rattle.model.specs.Protocol.{of_node, queued_before, waiting, begins_from, serve, next_node, next_bus, turn, start, run, replayed}
use Rattle.model.specs.Trace.{begin_words, run_words, begin_listed}
use Rattle.model.specs.Answers.{room_refusal, tick_before, piece_release_refusal, piece_refusal, record_refusal, waiting_refusal, buffer_after}
use Rattle.model.specs.Demand.{Accepts}
use Rattle.model.specs.Bench.{sheet_a, log_p9}
use Rattle.pieces.specs.declared.Checkpoint.{Checkpoint}
use Rattle.pieces.specs.Pieces.{fresh_checkpoint, piece_end, piece_words, piece_checkpoint, checkpoint_refusal, piece_horizon_refusal, places_refusal, resume_refusal, resume_answer, resume_checkpoint, resume_buffer, Piece, NoneRefused, last_checkpoint, words_joined, log_joined, Represents, Outcome, Continues, AsWhole}
use Rattle.pieces.proofs.Theorem.{fresh_represents, pieces_represent, as_whole}

-- "Sheet A".
abbrev A : List ℕ
A = sheet_a 40 40 60

valid_a_lem : Valid A
unfolding
    sheet_a sum up_to cycle refuse_if ◌or_else◌ first_of outside
    ticks_outside counts_outside times_outside row_wrong row_refusal stream_refusal body_refusal header_refusal sheet_refusal
valid_a_lem = refl

-- P9's log in three pieces, the last of which brings no release: the second message begins at 12, two pieces after its own.
unfoldable pub day : ℕ → List Piece
day horizon =
    record { log = 0 ∷ 1 ∷ 0 ∷ 2 ∷ []; horizon = 1; room = replicate 4 9 }
    ∷ record { log = 1 ∷ 3 ∷ []; horizon = 7; room = replicate 4 9 }
    ∷ record { log = []; horizon = horizon; room = replicate 3 9 }
    ∷ []

-- The record that the day hands back,
abbrev pub at_end : ℕ → Checkpoint
at_end horizon = last_checkpoint A fresh_checkpoint (day horizon)

-- and what its pieces answer, none of which is refused.
pub record Fed (horizon : ℕ) (bus : Bus) (words : List ℕ) : Type 0 where
  pub taken : NoneRefused A fresh_checkpoint (day horizon)
  pub joined : log_joined (day horizon) ≡ log_p9
  pub last : (at_end horizon).horizon ≡ horizon
  pub next : (at_end horizon).bus ≡ bus
  pub answered : words_joined A fresh_checkpoint (day horizon) ≡ words

-- The numbers answered, up to two horizons.
pub record Days : Type 0 where
  -- up to 40 all three begin, one in each piece
  pub to40 : Fed 40 (record { tick = 40; node = 2; turns = 25 }) (1 ∷ 0 ∷ 3 ∷ 6 ∷ 2 ∷ 12 ∷ [])
  -- up to 12 the second does not: its turn starts there
  pub to12 : Fed 12 (record { tick = 12; node = 1; turns = 2 }) (1 ∷ 0 ∷ 3 ∷ 6 ∷ [])

pub days : Days
unfolding
    sheet_a log_p9 day sum up_to values_from joined_from holding_below cycle first_in first first_ones refuse_if ◌or_else◌ first_of outside
    ticks_outside counts_outside times_outside row_wrong row_refusal stream_refusal body_refusal header_refusal sheet_refusal
    outranks of_node queued_before waiting begins_from serve next_node next_bus turn run begin_words run_words
    room_refusal tick_before piece_release_refusal piece_refusal record_refusal waiting_refusal buffer_after
    piece_end piece_words piece_checkpoint checkpoint_refusal piece_horizon_refusal places_refusal resume_refusal resume_answer resume_checkpoint resume_buffer
    NoneRefused last_checkpoint words_joined log_joined
days =
    record {
      to40 = record { taken = (refl, (refl, (refl, tt))); joined = refl; last = refl; next = refl; answered = refl };
      to12 = record { taken = (refl, (refl, (refl, tt))); joined = refl; last = refl; next = refl; answered = refl };
    }

-- The theorem about such a day.
whole_day : {horizon : ℕ} {bus : Bus} {words : List ℕ} → Fed horizon bus words → AsWhole A log_p9 horizon (at_end horizon) words
whole_day {horizon} {words = words} fed =
    subst (λ (h : ℕ). AsWhole A log_p9 h (at_end horizon) words) fed.last
    (rw (fed.joined, fed.answered) at (as_whole A (day horizon) valid_a_lem fed.taken))

-- What the whole log's replay gives: each release's begin, the turns and the tick of the next one.
pub record Replay (horizon first second third turns next : ℕ) : Type 0 where
  pub accepted : Accepts A log_p9 horizon
  pub begin1 : word (replayed A log_p9 horizon).begins 0 ≡ first
  pub begin2 : word (replayed A log_p9 horizon).begins 1 ≡ second
  pub begin3 : word (replayed A log_p9 horizon).begins 2 ≡ third
  pub turns_started : (replayed A log_p9 horizon).bus.turns ≡ turns
  pub next_start : (replayed A log_p9 horizon).bus.tick ≡ next

-- Read off the pieces: what the words list, and the record's next turn.
read_off : {horizon : ℕ} {bus : Bus} {words : List ℕ}
    → Fed horizon bus words
    → Replay horizon (begin_listed words 1) (begin_listed words 2) (begin_listed words 3) bus.turns bus.tick
unfolding log_p9
read_off fed =
    let whole = whole_day fed in
    record {
      accepted = whole.accepted;
      begin1 = sym (whole.begins 0 (omega arith));
      begin2 = sym (whole.begins 1 (omega arith));
      begin3 = sym (whole.begins 2 (omega arith));
      turns_started = rw (← whole.turn, fed.next) refl;
      next_start = rw (← whole.turn, fed.next) refl;
    }

-- P9: "0, 12, 6", 25 turns, and the next at 40.
pub replay_40 : Replay 40 0 12 6 25 40
unfolding begin_listed
replay_40 = read_off days.to40

-- P10: the second has not begun; 2 turns, and the next at 12.
pub replay_12 : Replay 12 0 not_begun 6 2 12
unfolding begin_listed
replay_12 = read_off days.to12

-- Words that list a release twice are not those of pieces, though they give each its begin.
pub not_twice : (c : Checkpoint) → AsWhole A log_p9 40 c (1 ∷ 0 ∷ 3 ∷ 6 ∷ 2 ∷ 12 ∷ 2 ∷ 12 ∷ []) → ⊥
not_twice c whole = whole.once 2 3 (omega arith) (omega arith) refl

-- A record in which the second message waits, with its number, tick and stream at the first place, and nothing behind it.
pub record SecondWaits (c : Checkpoint) : Type 0 where
  pub one : c.waiting ≡ 1
  pub number : word c.numbers 0 ≡ 2
  pub tick : word c.ticks 0 ≡ 0
  pub stream : word c.streams 0 ≡ 2
  pub free : word c.numbers 1 ≡ 0

-- Any record that stands for P9's log up to 12 is one,
pub second_waits : (c : Checkpoint) (words : List ℕ) → Represents A log_p9 c words → c.horizon ≡ 12 → SecondWaits c
unfolding
    sheet_a log_p9 sum up_to values_from holding_below first_in first first_ones
    outranks of_node queued_before waiting begins_from serve next_node next_bus turn start run replayed
second_waits c words rep at =
    let held = rw at at rep.waiting in
    record {
      one = ap (λ (c : Checkpoint). c.waiting) held;
      number = ap (λ (c : Checkpoint). word c.numbers 0) held;
      tick = ap (λ (c : Checkpoint). word c.ticks 0) held;
      stream = ap (λ (c : Checkpoint). word c.streams 0) held;
      free = ap (λ (c : Checkpoint). word c.numbers 1) held;
    }

-- so that the day's is, up to 12.
pub day_waits : SecondWaits (at_end 12)
day_waits =
    second_waits (at_end 12) _
    (rw days.to12.joined at (pieces_represent A [] fresh_checkpoint [] (day 12) (fresh_represents A valid_a_lem) days.to12.taken)) days.to12.last

-- And so is what any two pieces make that keep what `resume` promises, with the words that they answer.
pub two_pieces : (one two : Outcome) (room_one room_two : List ℕ)
    → Continues A fresh_checkpoint (0 ∷ 1 ∷ 0 ∷ 2 ∷ []) one room_one
    → Continues A one.checkpoint (1 ∷ 3 ∷ []) two room_two
    → one.answer.number ≡ 0
    → two.answer.number ≡ 0
    → two.checkpoint.horizon ≡ 12
    → SecondWaits two.checkpoint
    × ((take (release_words * one.answer.second) room_one ++ take (release_words * two.answer.second) room_two) ≡ (1 ∷ 0 ∷ 3 ∷ 6 ∷ []))
unfolding
    sheet_a log_p9 sum up_to values_from first_in first first_ones
    outranks of_node queued_before waiting begins_from serve next_node next_bus turn start begin_words run_words
two_pieces one two room_one room_two first second one_taken two_taken at =
    let rep = second _ _ (first [] [] (fresh_represents A valid_a_lem) one_taken) two_taken in
    (second_waits two.checkpoint _ rep at, rw at at rep.answered)
