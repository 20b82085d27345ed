-- Demands 2 and 3: what holds of the waits that are listed, and of a whole replay. Rules 9.2 and 9.3. Assumes nothing.
use Rattle.std.specs.Prelude.{ℕ, suc, pred, ◌+◌, ◌-◌, ◌*◌, ◌≤◌, ◌<◌, ◌≡◌, ◌↔◌, ◌⊎◌, Bool, true, ◌&&◌, List, length, leb, ltb}
use Rattle.theory.specs.Count.{count_below}
use Rattle.model.specs.declared.Answer.{Answer}
use Rattle.model.specs.declared.StreamRecord.{StreamRecord}
use Rattle.model.specs.declared.Verdict.TheVariants.{Listed}
use Rattle.model.specs.Limits.{not_begun}
use Rattle.model.specs.Refusal.{success, refuse}
use Rattle.model.specs.Sheet.{word, budget, cycle, deadline, jitter, running_number, total_streams, OnSheet, Valid}
use Rattle.model.specs.Analysis.{stream_of, outranks, interference, HasWait, IsLate, higher_streams, timing_of, verdict_of}
use Rattle.model.specs.Protocol.{releases, release_tick, release_stream, EventsFit, KeepsPeriod, state_at, start_of, node_of, TurnsBefore, replayed}
use Rattle.model.specs.Records.{record_at}
use Rattle.model.specs.Answers.{one_stream_answer, admit_answer, admit_buffer, replay_answer}

-- Stream j of node k has that "listed wait", at J.
abbrev pub StreamWait : List ℕ → ℕ → ℕ → ℕ → ℕ → Type 0
StreamWait s k j J wait = HasWait (interference (higher_streams s k j)) (timing_of s k) (stream_of s k j) J wait

-- Stream j of node k is "late".
abbrev pub StreamLate : List ℕ → ℕ → ℕ → Type 0
StreamLate s k j = IsLate (interference (higher_streams s k j)) (timing_of s k) (stream_of s k j)

-- What demand 2 says of stream j of node k and what one stream answers for it.
pub record Judged (s : List ℕ) (k j : ℕ) (answer : Answer) : Type 0 where
  -- "The wait listed for a stream is the one document 01 defines, to the tick", and so is J
  pub listed : (wait J : ℕ) → (answer ≡ success wait J) ↔ StreamWait s k j J wait
  -- "a stream is called late exactly when no such wait meets its deadline"
  pub late : (answer ≡ refuse 7 k j) ↔ StreamLate s k j
  -- the place in the turn, "x = H(J × C − 1) − (J − 1) × m", is no negative number
  pub placed : (wait J : ℕ) → StreamWait s k j J wait → pred J * budget s k ≤ interference (higher_streams s k j) (J * cycle s - 1)

-- What demand 2 says of all streams, where admit answers so and leaves these words.
pub record AllJudged (s : List ℕ) (answer : Answer) (words : List ℕ) : Type 0 where
  -- admitted: each stream has the listed wait that stands for it "in sheet order"
  pub admitted : answer.number ≡ 0
      → (k j : ℕ)
      → OnSheet s k j
      → (J : ℕ) × StreamWait s k j J (word words (pred (running_number s k j)))
  -- refused 7: that stream is late, and those before it "in sheet order" have listed waits
  pub refused : answer.number ≡ 7
      → OnSheet s answer.second answer.third × StreamLate s answer.second answer.third
  pub first : answer.number ≡ 7
      → (k j : ℕ)
      → OnSheet s k j
      → running_number s k j < running_number s answer.second answer.third
      → (J wait : ℕ) × StreamWait s k j J wait
  -- it is one of the two: a sheet is admitted unless a stream is late
  pub decided : (answer.number ≡ 0) ⊎ (answer.number ≡ 7)

-- Demand 2, whole: for any valid sheet, each stream by its one-stream answer, and all of them by what admit answers and writes,
-- where the buffer has a word for each.
pub record Demand2 : Type 0 where
  pub one_stream : (s : List ℕ) → Valid s → (k j : ℕ) → OnSheet s k j → Judged s k j (one_stream_answer s k j)
  pub admission : (s room : List ℕ)
      → Valid s
      → total_streams s ≤ length room
      → AllJudged s (admit_answer s (length room)) (admit_buffer s room)

-- "The replay accepts a log and horizon if, with room enough, it answers number 0".
abbrev pub Accepts : List ℕ → List ℕ → ℕ → Type 0
Accepts s log horizon = (replay_answer s log horizon (releases log)).number ≡ 0

-- True for "the releases whose written begin tick is at or after its start and before the tick the next turn would start".
abbrev pub began_within : List ℕ → ℕ → ℕ → ℕ → Bool
began_within words from next i = leb from (word words i) && ltb (word words i) next

-- "A turn's messages": how many releases have their written begin tick in turn i.
abbrev pub messages_of : List ℕ → List ℕ → List ℕ → ℕ → ℕ
messages_of s log words i = count_below (began_within words (start_of s log i) (start_of s log (suc i))) (releases log)

-- "in that log it and those ranked above it in its node keep their least periods": for each of them such events exist.
pub record PeriodsKept (s log : List ℕ) (k j : ℕ) : Type 0 where
  pub itself : KeepsPeriod s log k j
  pub ranked_above : (i : ℕ) → OnSheet s k i → outranks (stream_of s k i) (stream_of s k j) ≡ true → KeepsPeriod s log k i

-- The premises of demand 3 for stream j of node k: "any stream with a listed wait, where in that log it and those ranked above it in
-- its node keep their least periods".
pub record Premises (s log : List ℕ) (k j wait cycles : ℕ) : Type 0 where
  pub on_sheet : OnSheet s k j
  pub listed : verdict_of s k j ≡ Listed wait cycles
  pub kept : PeriodsKept s log k j

-- "begins within that wait: the replay writes a begin tick for it, no earlier than its release and at most the listed wait
-- after it".
pub record BeginsWithin (log words : List ℕ) (wait i : ℕ) : Type 0 where
  pub written : word words i ≡ not_begun → ⊥
  pub not_earlier : release_tick log i ≤ word words i
  pub within : word words i ≤ release_tick log i + wait

-- Delivery: "Modules hand it up at the end of the turn's protocol slot". Release i is delivered by a tick: the turn that has its written
-- begin tick, whatever its place there, is over by then; its slot ends where the next turn starts.
pub record DeliveredBy (s log words : List ℕ) (i tick : ℕ) : Type 0 where
  pub turn : ℕ
  pub begins : began_within words (start_of s log turn) (start_of s log (suc turn)) i ≡ true
  pub over : start_of s log (suc turn) ≤ tick

-- Turns a and b are "two turns of a node, one the next after the other".
pub record NextTurn (s log : List ℕ) (a b : ℕ) : Type 0 where
  pub ordered : a < b
  pub same_node : node_of s log b ≡ node_of s log a
  pub none_between : (i : ℕ) → a < i → i < b → node_of s log i ≡ node_of s log a → ⊥

-- Release i is a "message of that stream", and its release plus so many ticks "comes before the horizon".
pub record DueBefore (s log : List ℕ) (horizon k j ticks i : ℕ) : Type 0 where
  pub in_log : i < releases log
  pub of_stream : release_stream log i ≡ running_number s k j
  pub in_time : release_tick log i + ticks < horizon

-- Release i is a "message of that stream", `tick` is its "event plus deadline", where its event is the one named `latest`, and it
-- "comes before the horizon".
pub record DueAt (s log : List ℕ) (horizon k j latest tick i : ℕ) : Type 0 where
  pub in_log : i < releases log
  pub of_stream : release_stream log i ≡ running_number s k j
  pub due : tick + jitter s k j ≡ latest + deadline s k j
  pub in_time : tick < horizon

-- What demand 3, and the promise of delivery, say of a replay that reported so many turns and the next tick, and wrote these words, one a release.
pub record WholeReplay (s log : List ℕ) (horizon turns next : ℕ) (words : List ℕ) : Type 0 where
  -- "The turns in demand 3 are those the protocol starts before the horizon", and the next would start at the tick reported
  pub turns_counted : TurnsBefore s log horizon turns
  pub next_start : next ≡ start_of s log turns
  -- "every release gets the word that document 01 fixes for it": what the protocol's turns before the horizon leave
  pub every_release : (i : ℕ) → i < releases log → word words i ≡ word (state_at s log turns).begins i
  -- "each node's turns start at most one full cycle apart"
  pub one_cycle_apart : (a b : ℕ) → NextTurn s log a b → b < turns → start_of s log b ≤ start_of s log a + cycle s
  -- "no turn has more messages than its node's budget"
  pub within_budget : (i : ℕ) → i < turns → messages_of s log words i ≤ budget s (node_of s log i)
  -- "Whatever all others release ..., every message of that stream ... begins within that wait"
  pub within_wait : (k j wait cycles : ℕ)
      → Premises s log k j wait cycles
      → (i : ℕ)
      → DueBefore s log horizon k j wait i
      → BeginsWithin log words wait i
  -- "Under the premises of demand 3, every message whose" event plus deadline "comes before the horizon is delivered by its
  -- deadline", whichever events are taken that fit
  pub delivered : (k j wait J : ℕ)
      → Premises s log k j wait J
      → (latest : ℕ → ℕ)
      → EventsFit s log k j latest
      → (i tick : ℕ)
      → DueAt s log horizon k j (latest i) tick i
      → DeliveredBy s log words i tick

-- Demand 3 read off a list of stream records (document 02, "Eight"): a stream under its premises, all of whose messages are due before the
-- horizon, has none that waited longer than the listed wait.
abbrev pub NoneOver : List ℕ → List ℕ → ℕ → List StreamRecord → Type 0
NoneOver s log horizon records =
    (k j wait cycles : ℕ) →
    Premises s log k j wait cycles →
    ((i : ℕ) → i < releases log → release_stream log i ≡ running_number s k j → release_tick log i + wait < horizon) →
    (record_at records (pred (running_number s k j))).over ≡ 0

-- Demand 3, whole, and the promise of delivery: for any valid sheet, and any log and horizon that the replay accepts, with the numbers
-- that the replay answers and the words that it writes.
abbrev pub Demand3 : Type 0
Demand3 =
    (s log : List ℕ) (horizon : ℕ) →
    Accepts s log horizon →
    WholeReplay s log horizon (replayed s log horizon).bus.turns (replayed s log horizon).bus.tick (replayed s log horizon).begins
