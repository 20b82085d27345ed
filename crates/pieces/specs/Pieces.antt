-- Document 02, "Seven. Feed the replay as the day goes": a replay that is run piece by piece, from the record that the piece before handed
-- back. A piece is run over the messages that wait and its own releases, by the turns of specs/Protocol. Rules 5.6 to 5.9. Assumes nothing.
use Rattle.std.specs.Prelude.{ℕ, suc, ◌+◌, ◌-◌, ◌*◌, ◌<◌, ◌≡◌, cond, ◌||◌, List, [], ◌∷◌, ◌++◌, map, length, take, set, replicate, ltb, eqb, Result, Ok, Err}
use Rattle.theory.specs.Listing.{values_from, joined_from}
use Rattle.model.specs.declared.Answer.{Answer}
use Rattle.model.specs.declared.Bus.{Bus}
use Rattle.pieces.specs.declared.Checkpoint.{Checkpoint}
use Rattle.pieces.specs.declared.Resumed.{Resumed}
use Rattle.model.specs.Limits.{release_words, max_releases, max_time, max_waiting}
use Rattle.model.specs.Refusal.{success, refuse, refuse_if, ◌or_else◌, first_of}
use Rattle.model.specs.Sheet.{word, sheet_refusal}
use Rattle.model.specs.Protocol.{releases, release_tick, release_stream, State, none_begun, first_turn, run, replayed}
use Rattle.model.specs.Trace.{run_words, replay_words, begin_listed, unbegun}
use Rattle.model.specs.Answers.{record_refusal, waiting_refusal, room_refusal, piece_refusal, buffer_after}
use Rattle.model.specs.Demand.{Accepts}
use Rattle.refusals.specs.declared.Refused.{Refused}
use Rattle.refusals.specs.Numbers.{numbers}

-- The record with nothing waiting, at a horizon, with a next turn and so many releases.
abbrev pub emptied : ℕ → Bus → ℕ → Checkpoint
emptied horizon bus count =
    record {
      horizon = horizon;
      bus = bus;
      releases = count;
      waiting = 0;
      numbers = replicate max_waiting 0;
      ticks = replicate max_waiting 0;
      streams = replicate max_waiting 0;
    }

-- "A fresh record has horizon 0"; its first turn is the bus's first, and nothing waits.
abbrev pub fresh_checkpoint : Checkpoint
fresh_checkpoint = emptied 0 first_turn 0

-- The record with one more message waiting, at the first free place.
abbrev pub with_release : Checkpoint → ℕ → ℕ → ℕ → Checkpoint
with_release c number tick stream =
    record {
      horizon = c.horizon;
      bus = c.bus;
      releases = c.releases;
      waiting = c.waiting + 1;
      numbers = set c.numbers c.waiting number;
      ticks = set c.ticks c.waiting tick;
      streams = set c.streams c.waiting stream;
    }

-- The messages that wait, as a log: "the waiting stand in log order from the first place", "its waiting ticks read as the log's".
abbrev pub waiting_log : Checkpoint → List ℕ
waiting_log c = joined_from (λ i. word c.ticks i ∷ word c.streams i ∷ []) 0 c.waiting

-- The log that a piece is run over: those that wait, and then its own releases.
abbrev pub open_log : Checkpoint → List ℕ → List ℕ
open_log c piece = waiting_log c ++ piece

-- The release numbers of those: "release numbers" run on over all pieces, from 1.
abbrev pub open_numbers : Checkpoint → List ℕ → List ℕ
open_numbers c piece = take c.waiting c.numbers ++ values_from suc c.releases (releases piece)

-- The bus after the last turn of a piece that starts before its horizon.
unfoldable pub piece_end : List ℕ → Checkpoint → List ℕ → ℕ → State
piece_end s c piece horizon = run s (open_log c piece) horizon horizon (none_begun (open_log c piece) c.bus)

-- "Each piece answers release numbers and begin ticks in the order begun."
unfoldable pub piece_words : List ℕ → Checkpoint → List ℕ → ℕ → List ℕ
piece_words s c piece horizon =
    run_words s (open_log c piece) (open_numbers c piece) horizon horizon (none_begun (open_log c piece) c.bus)

-- The words of all places where those of the first ones are given: "every place past the waiting holds 0".
abbrev pub in_places : List ℕ → List ℕ
in_places xs = xs ++ replicate (max_waiting - length xs) 0

-- A record whose waiting messages are those at such places of a log: "the waiting stand in log order from the first place, freed places are
-- used again".
abbrev pub holding : Checkpoint → List ℕ → List ℕ → List ℕ → Checkpoint
holding c log numbers xs =
    record {
      horizon = c.horizon;
      bus = c.bus;
      releases = c.releases;
      waiting = length xs;
      numbers = in_places (map (word numbers) xs);
      ticks = in_places (map (release_tick log) xs);
      streams = in_places (map (release_stream log) xs);
    }

-- The record that a piece hands back.
unfoldable pub piece_checkpoint : List ℕ → Checkpoint → List ℕ → ℕ → Checkpoint
piece_checkpoint s c piece horizon =
    let end = piece_end s c piece horizon in
    holding (emptied horizon end.bus (c.releases + releases piece)) (open_log c piece) (open_numbers c piece) (unbegun end.begins)

-- Refusal 16 of the record: as for the bus record, "also for a waiting stream out of range, a waiting count over 256 or over 4,096 releases so
-- far". Nothing else is asked of it.
unfoldable pub checkpoint_refusal : List ℕ → Checkpoint → Answer
checkpoint_refusal s c =
    record_refusal s c.bus
    or_else refuse_if (ltb max_waiting c.waiting || ltb max_releases c.releases) (refuse 16 0 0)
    or_else first_of (waiting_refusal s c.streams) 1 c.waiting

-- Refusal 10 of a piece: "horizon fallen or too large".
unfoldable pub piece_horizon_refusal : Checkpoint → ℕ → Answer
piece_horizon_refusal c horizon = refuse_if (ltb horizon c.horizon || ltb max_time horizon) (refuse 10 0 0)

-- Refusal 12: "exactly if waiting messages and the piece's releases come to more than 256".
unfoldable pub places_refusal : Checkpoint → List ℕ → Answer
places_refusal c piece = refuse_if (ltb max_waiting (c.waiting + releases piece)) (refuse 12 0 0)

-- The refusals of a piece, with a buffer of so many words: 1 to 5, 16, 9, 10, 12, "then 6, which asks two words for each of them".
unfoldable pub resume_refusal : List ℕ → Checkpoint → List ℕ → ℕ → ℕ → Answer
resume_refusal s c piece horizon room =
    sheet_refusal s
    or_else checkpoint_refusal s c
    or_else piece_refusal s c.releases c.horizon horizon piece
    or_else piece_horizon_refusal c horizon
    or_else places_refusal c piece
    or_else room_refusal (release_words * (c.waiting + releases piece)) room

-- The answer to a piece: "its numbers are the messages begun in it and the turns so far". Two words are written a message.
unfoldable pub resume_answer : List ℕ → Checkpoint → List ℕ → ℕ → ℕ → Answer
resume_answer s c piece horizon room =
    resume_refusal s c piece horizon room
    or_else success (releases (piece_words s c piece horizon)) (piece_end s c piece horizon).bus.turns

-- The record after a piece: "record handed back unchanged" by a refusal.
unfoldable pub resume_checkpoint : List ℕ → Checkpoint → List ℕ → ℕ → ℕ → Checkpoint
resume_checkpoint s c piece horizon room =
    cond (eqb (resume_refusal s c piece horizon room).number 0) (piece_checkpoint s c piece horizon) c

-- The buffer after a piece: its words first, and the rest unchanged.
unfoldable pub resume_buffer : List ℕ → Checkpoint → List ℕ → ℕ → List ℕ → List ℕ
resume_buffer s c piece horizon room =
    buffer_after (resume_refusal s c piece horizon (length room)) (piece_words s c piece horizon) room

-- A piece as it is handed in: its releases, its horizon and the lent buffer.
pub record Piece : Type 0 where
  pub log : List ℕ
  pub horizon : ℕ
  pub room : List ℕ

-- What is answered to it, with a record,
abbrev pub answer_to : List ℕ → Checkpoint → Piece → Answer
answer_to s c p = resume_answer s c p.log p.horizon (length p.room)

-- the record handed back,
abbrev pub checkpoint_after : List ℕ → Checkpoint → Piece → Checkpoint
checkpoint_after s c p = resume_checkpoint s c p.log p.horizon (length p.room)

-- and the words written: two for each message begun.
abbrev pub words_answered : List ℕ → Checkpoint → Piece → List ℕ
words_answered s c p = take (release_words * (answer_to s c p).second) (resume_buffer s c p.log p.horizon p.room)

-- Pieces, each with the record that the one before handed back: no piece is refused,
unfoldable pub NoneRefused : List ℕ → Checkpoint → List Piece → Type 0
NoneRefused s c [] = Unit {0}
NoneRefused s c (p ∷ pieces) = ((answer_to s c p).number ≡ 0) × NoneRefused s (checkpoint_after s c p) pieces

-- the last record,
unfoldable pub last_checkpoint : List ℕ → Checkpoint → List Piece → Checkpoint
last_checkpoint s c [] = c
last_checkpoint s c (p ∷ pieces) = last_checkpoint s (checkpoint_after s c p) pieces

-- "the pieces joined": all words answered,
unfoldable pub words_joined : List ℕ → Checkpoint → List Piece → List ℕ
words_joined s c [] = []
words_joined s c (p ∷ pieces) = words_answered s c p ++ words_joined s (checkpoint_after s c p) pieces

-- and the log that they are a "cutting of".
unfoldable pub log_joined : List Piece → List ℕ
log_joined [] = []
log_joined (p ∷ pieces) = p.log ++ log_joined pieces

-- What a record made by pieces is, where `log` is what they were a cutting of and `words` what they answered: its next turn is the one of the
-- whole log's replay up to its horizon, and its waiting messages are, in log order, the releases that have not begun there. This is the
-- invariant of the pieces.
pub record Represents (s log : List ℕ) (c : Checkpoint) (words : List ℕ) : Type 0 where
  -- the replay takes the log and the horizon
  pub accepted : Accepts s log c.horizon
  pub before : (i : ℕ) → i < releases log → release_tick log i < c.horizon
  pub counted : c.releases ≡ releases log
  pub bus : c.bus ≡ (replayed s log c.horizon).bus
  pub waiting : c ≡ holding c log (values_from suc 0 (releases log)) (unbegun (replayed s log c.horizon).begins)
  pub answered : words ≡ replay_words s log c.horizon

-- What a piece answers, and the record that it hands back.
pub record Outcome : Type 0 where
  pub answer : Answer
  pub checkpoint : Checkpoint

-- The numbers of a piece that was run: the messages begun in it, and the turns so far.
abbrev pub resumed_numbers : Resumed → Answer
resumed_numbers r = success r.begun r.turns

-- What a piece answers, and the record that it hands back, refused or not.
abbrev pub outcome_of : Result Resumed (Refused Checkpoint) → Outcome
outcome_of (Ok r) = record { answer = resumed_numbers r; checkpoint = r.checkpoint }
outcome_of (Err refused) = record { answer = numbers refused.refusal; checkpoint = refused.kept }

-- What a piece promises of a record that pieces made: the one handed back, with the words answered, is one of the log with this piece after
-- it.
abbrev pub Continues : List ℕ → Checkpoint → List ℕ → Outcome → List ℕ → Type 0
Continues s c piece r room =
    (log words : List ℕ)
    → Represents s log c words
    → r.answer.number ≡ 0
    → Represents s (log ++ piece) r.checkpoint (words ++ take (release_words * r.answer.second) room)

-- "the pieces joined give each release the begin the whole log gives at the last horizon, and the same turns": also none where it has not
-- begun, and the same next turn. No release is listed twice.
pub record AsWhole (s log : List ℕ) (horizon : ℕ) (c : Checkpoint) (words : List ℕ) : Type 0 where
  pub accepted : Accepts s log horizon
  pub turn : c.bus ≡ (replayed s log horizon).bus
  pub begins : (i : ℕ) → i < releases log → begin_listed words (suc i) ≡ word (replayed s log horizon).begins i
  pub once : (p r : ℕ) → p < r → r < releases words → release_tick words p ≡ release_tick words r → ⊥
