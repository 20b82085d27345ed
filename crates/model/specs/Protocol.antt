-- "How the bus runs" and "The log and the replay": a log, one turn, and the run from tick 0 to a horizon. Rules 2 and 5.
-- Assumes nothing.
use Rattle.std.specs.Prelude.{ℕ, zero, suc, ◌+◌, ◌-◌, ◌*◌, ◌/◌, ◌≤◌, ◌<◌, ◌≡◌, Bool, true, false, cond, ◌||◌, ◌&&◌, List, [], ◌∷◌, length, set, replicate, ltb, leb, eqb}
use Rattle.theory.specs.Queue.{Queue, first_ones}
use Rattle.model.specs.declared.Bus.{Bus}
use Rattle.model.specs.declared.Stream.{Stream}
use Rattle.model.specs.Limits.{release_words, not_begun}
use Rattle.model.specs.Sheet.{word, nodes, message_ticks, slot_ticks, budget, period, jitter, streams_before, streams_up_to, running_number}
use Rattle.model.specs.Analysis.{stream_of, outranks}

-- The number of releases in a "log": "two words a release: tick, running stream number".
abbrev pub releases : List ℕ → ℕ
releases log = length log / release_words

-- The tick of release i, counted from 0.
abbrev pub release_tick : List ℕ → ℕ → ℕ
release_tick log i = word log (release_words * i)

-- The running stream number of release i.
abbrev pub release_stream : List ℕ → ℕ → ℕ
release_stream log i = word log (release_words * i + 1)

-- Two releases of stream r in the log, "one the next after the other".
pub record Successive (log : List ℕ) (r a b : ℕ) : Type 0 where
  pub ordered : a < b
  pub in_log : b < releases log
  pub first : release_stream log a ≡ r
  pub second : release_stream log b ≡ r
  pub none_between : (i : ℕ) → a < i → i < b → release_stream log i ≡ r → ⊥

-- Events that fit the releases of stream j of node k in a log: "Events of a stream are at least a period apart; each message is queued
-- 0 to jitter ticks after its event." An event is named by the latest tick at which its message may be queued, event + jitter, which
-- is no negative number also where the event lies before tick 0.
pub record EventsFit (s log : List ℕ) (k j : ℕ) (latest : ℕ → ℕ) : Type 0 where
  -- queued not after its latest tick, and not before its event
  pub not_after : (i : ℕ) → i < releases log → release_stream log i ≡ running_number s k j → release_tick log i ≤ latest i
  pub not_before : (i : ℕ)
      → i < releases log
      → release_stream log i ≡ running_number s k j
      → latest i ≤ release_tick log i + jitter s k j
  pub apart : (a b : ℕ) → Successive log (running_number s k j) a b → latest a + period s k j ≤ latest b

-- A stream keeps its least period in a log: "such events exist for the log".
abbrev pub KeepsPeriod : List ℕ → List ℕ → ℕ → ℕ → Type 0
KeepsPeriod s log k j = (latest : ℕ → ℕ) × EventsFit s log k j latest

-- True where running stream number r is one of node k's.
unfoldable pub of_node : List ℕ → ℕ → ℕ → Bool
of_node s k r = ltb (streams_before s k) r && leb r (streams_up_to s k)

-- The stream of release i, which is one of node k's.
abbrev pub stream_of_release : List ℕ → List ℕ → ℕ → ℕ → Stream
stream_of_release s log k i = stream_of s k (release_stream log i - streams_before s k)

-- The queue order of node k, "rank order": by rank of the streams; "within one stream, earlier in the log first". True where
-- release a comes before release b.
unfoldable pub queued_before : List ℕ → List ℕ → ℕ → ℕ → ℕ → Bool
queued_before s log k a b =
    outranks (stream_of_release s log k a) (stream_of_release s log k b)
    || eqb (release_stream log a) (release_stream log b) && ltb a b

-- True where release i is in node k's "queue" at a tick: "the releases of its streams with tick at or before s that have not
-- begun". The list has a word for each release, and only 4294967295 means that it has not begun.
unfoldable pub waiting : List ℕ → List ℕ → ℕ → ℕ → List ℕ → ℕ → Bool
waiting s log k tick begins i =
    leb (release_tick log i) tick && of_node s k (release_stream log i) && eqb (word begins i) not_begun

-- Node k's queue at a tick, in "rank order".
abbrev pub queue_of : List ℕ → List ℕ → ℕ → ℕ → List ℕ → Queue
queue_of s log k tick begins =
    record { size = releases log; waits = waiting s log k tick begins; before = queued_before s log k }

-- Those that a turn with a budget takes: it "looks once at its queue" and "takes the first ones in rank order, as many as its budget
-- allows or fewer if fewer wait". "A message released during the turn is not taken in it."
abbrev pub taken_by : List ℕ → List ℕ → ℕ → ℕ → ℕ → List ℕ → List ℕ
taken_by s log k tick m begins = first_ones m (queue_of s log k tick begins)

-- The begin words once those taken have begun, the first at `tick`: "the j-th taken (from 0) begins at s + j × TMS".
unfoldable pub begins_from : ℕ → ℕ → List ℕ → List ℕ → List ℕ
begins_from ticks tick [] begins = begins
begins_from ticks tick (i ∷ taken) begins = begins_from ticks (tick + ticks) taken (set begins i tick)

-- What a turn does: how many messages it took, and the begin words after it.
pub record Served : Type 0 where
  pub taken : ℕ
  pub begins : List ℕ

-- A turn of node k with a budget, that starts at `tick`.
unfoldable pub serve : List ℕ → List ℕ → ℕ → ℕ → ℕ → List ℕ → Served
serve s log k tick m begins =
    let taken = taken_by s log k tick m begins in
    record { taken = length taken; begins = begins_from (message_ticks s) tick taken begins }

-- The turn of the bus record's node at its tick.
abbrev pub serve_turn : List ℕ → List ℕ → Bus → List ℕ → Served
serve_turn s log bus begins = serve s log bus.node bus.tick (budget s bus.node) begins

-- "After node n comes node 1."
unfoldable pub next_node : List ℕ → ℕ → ℕ
next_node s k = cond (eqb k (nodes s)) 1 (k + 1)

-- The record of the next turn: "if x were taken, the next node's turn starts at s + x × TMS + TPR".
unfoldable pub next_bus : List ℕ → Bus → ℕ → Bus
next_bus s bus x =
    record {
      tick = bus.tick + x * message_ticks s + slot_ticks s;
      node = next_node s bus.node;
      turns = bus.turns + 1;
    }

-- The bus between two turns: the record of the next one, and a begin word for each release.
pub record State : Type 0 where
  pub bus : Bus
  pub begins : List ℕ

-- One turn of the bus.
unfoldable pub turn : List ℕ → List ℕ → State → State
turn s log st =
    let v = serve_turn s log st.bus st.begins in
    record { bus = next_bus s st.bus v.taken; begins = v.begins }

-- The bus with a record of its next turn, and none of a log's releases begun.
abbrev pub none_begun : List ℕ → Bus → State
none_begun log bus = record { bus = bus; begins = replicate (releases log) not_begun }

-- "The bus starts at tick 0 with node 1's turn",
abbrev pub first_turn : Bus
first_turn = record { tick = 0; node = 1; turns = 0 }

-- "and nothing sent."
unfoldable pub start : List ℕ → State
start log = none_begun log first_turn

-- The bus before turn i of the protocol, counted from 0; no horizon ends it.
unfoldable pub state_at : List ℕ → List ℕ → ℕ → State
state_at s log zero = start log
state_at s log (suc i) = turn s log (state_at s log i)

-- The tick at which turn i starts.
abbrev pub start_of : List ℕ → List ℕ → ℕ → ℕ
start_of s log i = (state_at s log i).bus.tick

-- The node whose turn is turn i.
abbrev pub node_of : List ℕ → List ℕ → ℕ → ℕ
node_of s log i = (state_at s log i).bus.node

-- `count` is the number of turns that the protocol starts before the horizon: "no turn starts at or after it".
pub record TurnsBefore (s log : List ℕ) (horizon count : ℕ) : Type 0 where
  pub started : (i : ℕ) → i < count → start_of s log i < horizon
  pub ended : horizon ≤ start_of s log count

-- The run, to be computed: turns while the next one starts before the horizon, at most `fuel` of them.
unfoldable pub run : List ℕ → List ℕ → ℕ → ℕ → State → State
run s log horizon zero st = st
run s log horizon (suc fuel) st =
    elim (ltb st.bus.tick horizon) [ true ↦ run s log horizon fuel (turn s log st) | false ↦ st ]

-- The bus after the last turn that starts before the horizon. A turn takes a tick at least, so the horizon is fuel enough:
-- proofs/Protocol/Run says that this is the state before turn T, where TurnsBefore T.
unfoldable pub replayed : List ℕ → List ℕ → ℕ → State
replayed s log horizon = run s log horizon horizon (start log)
