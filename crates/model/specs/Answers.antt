-- "What is answered": the three numbers of each entry that takes a sheet, and what it leaves in the lent buffer ("room") and in the bus
-- record, for every input. Rules 5.5, 6 and 7. Assumes nothing.
use Rattle.std.specs.Prelude.{ℕ, zero, suc, pred, ◌+◌, ◌%◌, Bool, cond, ◌||◌, not, List, ◌++◌, length, drop, ltb, leb, eqb}
use Rattle.theory.specs.Listing.{values_from}
use Rattle.model.specs.declared.Answer.{Answer}
use Rattle.model.specs.declared.Bus.{Bus}
use Rattle.model.specs.declared.StreamRecord.{StreamRecord}
use Rattle.model.specs.declared.Verdict.{Verdict}
use Rattle.model.specs.declared.Verdict.TheVariants.{Late, Listed}
use Rattle.model.specs.Limits.{release_words, max_releases, max_time}
use Rattle.model.specs.Refusal.{success, refuse, accepted, refuse_if, ◌or_else◌, first_of, outside}
use Rattle.model.specs.Sheet.{word, nodes, stream_count, budget, total_streams, in_sheet_order, cycle, sheet_refusal}
use Rattle.model.specs.Analysis.{verdict_of, verdict_with}
use Rattle.model.specs.Protocol.{releases, release_tick, release_stream, serve_turn, next_bus, State, replayed}
use Rattle.model.specs.Records.{records_of}

-- Refusal 6: "room shorter than one word a stream (admit) or a release (replay, step); for a later request, shorter than what its
-- success writes".
unfoldable pub room_refusal : ℕ → ℕ → Answer
room_refusal needed room = refuse_if (ltb room needed) (refuse 6 0 0)

-- Refusal 8: "one stream asked that the sheet has not", with the node and stream "as asked".
unfoldable pub unknown_refusal : List ℕ → ℕ → ℕ → Answer
unknown_refusal s k j = refuse_if (outside 1 (nodes s) k || outside 1 (stream_count s k) j) (refuse 8 k j)

-- The tick that release i, counted from 1, must not be below: that of the release before it.
unfoldable pub tick_before : List ℕ → ℕ → ℕ
tick_before log zero = 0
tick_before log (suc zero) = 0
tick_before log (suc (suc i)) = release_tick log i

-- True for a release, counted from 1, with "a tick too large, a falling tick or a stream unknown".
abbrev pub release_wrong : List ℕ → List ℕ → ℕ → Bool
release_wrong s log i =
    ltb max_time (release_tick log (pred i)) || ltb (release_tick log (pred i)) (tick_before log i)
    || outside 1 (total_streams s) (release_stream log (pred i))

-- Refusal 9 of one release, counted from 1.
unfoldable pub release_refusal : List ℕ → List ℕ → ℕ → Answer
release_refusal s log i = refuse_if (release_wrong s log i) (refuse 9 0 i)

-- Refusal 9: "odd length, then too many releases (0, 0); then the first release with" a fault.
unfoldable pub log_refusal : List ℕ → List ℕ → Answer
log_refusal s log =
    refuse_if (not (eqb (length log % release_words) 0)) (refuse 9 0 0)
    or_else refuse_if (ltb max_releases (releases log)) (refuse 9 0 0)
    or_else first_of (release_refusal s log) 1 (releases log)

-- Document 02, "Seven": true for a release of a piece, counted from 1, with a fault as in any log, or "a tick outside the piece": a piece has ticks "from the old
-- horizon up to below the new".
abbrev pub piece_release_wrong : List ℕ → ℕ → ℕ → List ℕ → ℕ → Bool
piece_release_wrong s old new piece i =
    release_wrong s piece i || ltb (release_tick piece (pred i)) old || leb new (release_tick piece (pred i))

-- Refusal 9 of it; "its place counts within the piece".
unfoldable pub piece_release_refusal : List ℕ → ℕ → ℕ → List ℕ → ℕ → Answer
piece_release_refusal s old new piece i = refuse_if (piece_release_wrong s old new piece i) (refuse 9 0 i)

-- Refusal 9 of a piece, with so many releases in the pieces before: odd length, then too many releases, "4,096 is for all pieces together"; then the first release with a fault.
unfoldable pub piece_refusal : List ℕ → ℕ → ℕ → ℕ → List ℕ → Answer
piece_refusal s before old new piece =
    refuse_if (not (eqb (length piece % release_words) 0)) (refuse 9 0 0)
    or_else refuse_if (ltb max_releases (before + releases piece)) (refuse 9 0 0)
    or_else first_of (piece_release_refusal s old new piece) 1 (releases piece)

-- Refusal 10: "horizon too large".
unfoldable pub horizon_refusal : ℕ → Answer
horizon_refusal horizon = refuse_if (ltb max_time horizon) (refuse 10 0 0)

-- Refusal 16: "record's tick or turns over 1,000,000,000, or its node not 1 to n".
unfoldable pub record_refusal : List ℕ → Bus → Answer
record_refusal s bus =
    refuse_if (ltb max_time bus.tick || ltb max_time bus.turns || outside 1 (nodes s) bus.node) (refuse 16 0 0)

-- Refusal 16 of a waiting message in the record of a replay by pieces, counted from 1: "a waiting stream out of range". The list has their
-- streams.
unfoldable pub waiting_refusal : List ℕ → List ℕ → ℕ → Answer
waiting_refusal s streams i = refuse_if (outside 1 (total_streams s) (word streams (pred i))) (refuse 16 0 0)

-- The three numbers of a verdict on stream j of node k: its listed wait and J, or refusal 7.
unfoldable pub verdict_answer : ℕ → ℕ → Verdict → Answer
verdict_answer k j Late = refuse 7 k j
verdict_answer k j (Listed wait cycles) = success wait cycles

-- Refusal 7 of one verdict.
unfoldable pub late_refusal : ℕ → ℕ → Verdict → Answer
late_refusal k j Late = refuse 7 k j
late_refusal k j (Listed wait cycles) = accepted

-- Refusal 7 of one node's streams, in order, with a full cycle and a budget of the node.
unfoldable pub node_late_with : List ℕ → ℕ → ℕ → ℕ → Answer
node_late_with s C m k = first_of (λ j. late_refusal k j (verdict_with s C m k j)) 1 (stream_count s k)

-- The same with the sheet's own.
abbrev pub node_late_refusal : List ℕ → ℕ → Answer
node_late_refusal s k = node_late_with s (cycle s) (budget s k) k

-- The word for a verdict in the list of waits. A late stream has no listed wait, and then no list is written.
unfoldable pub wait_word : Verdict → ℕ
wait_word Late = 0
wait_word (Listed wait cycles) = wait

-- The listed waits of node k's streams from j on, `count` of them.
abbrev pub waits_from : List ℕ → ℕ → ℕ → ℕ → List ℕ
waits_from s k j count = values_from (λ i. wait_word (verdict_of s k i)) j count

-- The listed waits of the whole sheet, "in sheet order".
abbrev pub listed_waits : List ℕ → List ℕ
listed_waits s = in_sheet_order s (λ k j. wait_word (verdict_of s k j))

-- What a buffer holds after an entry that writes `values` into its first words: "the rest unchanged", and "any refusal
-- changes no lent word".
unfoldable pub buffer_after : {X : Type 0} → Answer → List X → List X → List X
buffer_after answer values room = cond (eqb answer.number 0) (values ++ drop (length values) room) room

-- "one stream": "listed wait", "J". Refusals 1 to 5, 8, 7.
unfoldable pub one_stream_answer : List ℕ → ℕ → ℕ → Answer
one_stream_answer s k j = sheet_refusal s or_else unknown_refusal s k j or_else verdict_answer k j (verdict_of s k j)

-- "admit", with a buffer of so many words: "number of streams", "C". Refusals 1 to 5, 6, 7.
unfoldable pub admit_answer : List ℕ → ℕ → Answer
admit_answer s room =
    sheet_refusal s
    or_else room_refusal (total_streams s) room
    or_else first_of (node_late_refusal s) 1 (nodes s)
    or_else success (total_streams s) (cycle s)

-- The buffer after admit: "first words: listed waits in sheet order; the rest unchanged".
unfoldable pub admit_buffer : List ℕ → List ℕ → List ℕ
admit_buffer s room = buffer_after (admit_answer s (length room)) (listed_waits s) room

-- "replay", with a buffer of so many words: "turns started", "tick the next turn would start". Refusals 1 to 5, 9, 10, 6.
unfoldable pub replay_answer : List ℕ → List ℕ → ℕ → ℕ → Answer
replay_answer s log horizon room =
    sheet_refusal s
    or_else log_refusal s log
    or_else horizon_refusal horizon
    or_else room_refusal (releases log) room
    or_else success (replayed s log horizon).bus.turns (replayed s log horizon).bus.tick

-- The buffer after the replay: "one word a release, in log order", and the rest unchanged.
unfoldable pub replay_buffer : List ℕ → List ℕ → ℕ → List ℕ → List ℕ
replay_buffer s log horizon room =
    buffer_after (replay_answer s log horizon (length room)) (replayed s log horizon).begins room

-- Document 02, "Eight": the replay with a buffer of so many words and a list of so many stream records. "Numbers and refusals as the replay,
-- then 6 when the list is shorter than the streams."
unfoldable pub records_answer : List ℕ → List ℕ → ℕ → ℕ → ℕ → Answer
records_answer s log horizon room list =
    replay_answer s log horizon room
    or_else room_refusal (total_streams s) list
    or_else replay_answer s log horizon room

-- The buffer after it, with a list of so many records.
unfoldable pub records_buffer : List ℕ → List ℕ → ℕ → ℕ → List ℕ → List ℕ
records_buffer s log horizon list room =
    buffer_after (records_answer s log horizon (length room) list) (replayed s log horizon).begins room

-- The list after it, with a buffer of so many words: the sheet's streams have the records of the whole replay; "records past them stay".
unfoldable pub records_list : List ℕ → List ℕ → ℕ → ℕ → List StreamRecord → List StreamRecord
records_list s log horizon room list =
    buffer_after (records_answer s log horizon room (length list)) (records_of s log (replayed s log horizon).begins) list

-- "one step", with a buffer of so many words: its refusals, 1 to 5, 9, 16, 6.
unfoldable pub step_refusal : List ℕ → List ℕ → Bus → ℕ → Answer
step_refusal s log bus room =
    sheet_refusal s or_else log_refusal s log or_else record_refusal s bus or_else room_refusal (releases log) room

-- "one step": "messages taken", "tick the next turn starts".
unfoldable pub step_answer : List ℕ → List ℕ → Bus → List ℕ → Answer
step_answer s log bus room =
    let taken = (serve_turn s log bus room).taken in
    step_refusal s log bus (length room) or_else success taken (next_bus s bus taken).tick

-- The bus record after one step.
unfoldable pub step_bus : List ℕ → List ℕ → Bus → List ℕ → Bus
step_bus s log bus room =
    cond (eqb (step_refusal s log bus (length room)).number 0) (next_bus s bus (serve_turn s log bus room).taken) bus

-- The buffer after one step: "begins of those taken; the rest unchanged".
unfoldable pub step_buffer : List ℕ → List ℕ → Bus → List ℕ → List ℕ
step_buffer s log bus room =
    cond (eqb (step_refusal s log bus (length room)).number 0) (serve_turn s log bus room).begins room

-- The bus after k steps from a record and a buffer.
unfoldable pub stepped : List ℕ → List ℕ → ℕ → State → State
stepped s log zero st = st
stepped s log (suc k) st =
    let at = stepped s log k st in
    record { bus = step_bus s log at.bus at.begins; begins = step_buffer s log at.bus at.begins }
