-- "Bench sheets": P1 to P12 of document 01, and the one that document 02 adds, as one list, each with its whole outcome; and further
-- cases. A case lends a buffer of 9s that is one word longer than needed, so that the words an entry must leave are seen too. Rules 10.
-- Assumes nothing.
use Rattle.std.specs.Prelude.{ℕ, suc, ◌≡◌, List, [], ◌∷◌, map, length, replicate}
use Rattle.model.specs.declared.Answer.{Answer}
use Rattle.model.specs.declared.Bus.{Bus}
use Rattle.model.specs.declared.StreamRecord.{StreamRecord}
use Rattle.model.specs.Limits.{not_begun}
use Rattle.model.specs.Refusal.{success, refuse}
use Rattle.model.specs.Sheet.{total_streams}
use Rattle.model.specs.Protocol.{releases, start}
use Rattle.model.specs.Answers.{one_stream_answer, admit_answer, admit_buffer, replay_answer, replay_buffer, records_answer, records_buffer, records_list, step_answer, step_bus, step_buffer}
use Rattle.model.specs.Bench.{sheet_a, sheet_a6, sheet_p7, sheet_pair, sheet_jitter, log_p9, log_p11}

-- What is asked: admit a sheet; or replay a log on it up to a horizon.
pub data Question : Type 0 where
  admit : List ℕ → Question
  replay : List ℕ → List ℕ → ℕ → Question

-- What comes of it: the three numbers, and the buffer after.
pub record Outcome : Type 0 where
  pub answer : Answer
  pub buffer : List ℕ

pub record Case : Type 0 where
  pub question : Question
  pub outcome : Outcome

-- A buffer of one word more than needed.
unfoldable pub lent : ℕ → List ℕ
lent needed = replicate (suc needed) 9

-- What the definitions say.
unfoldable pub outcome_of : Question → Outcome
outcome_of (admit s) =
    let room = lent (total_streams s) in
    record { answer = admit_answer s (length room); buffer = admit_buffer s room }
outcome_of (replay s log horizon) =
    let room = lent (releases log) in
    record { answer = replay_answer s log horizon (length room); buffer = replay_buffer s log horizon room }

-- A case: a question with the answer and the buffer that the papers give.
unfoldable pub gives : Question → Answer → List ℕ → Case
gives q a words = record { question = q; outcome = record { answer = a; buffer = words } }

-- P1 to P12, in order; after P2 the one that Four adds, P2 "with node 1's first deadline also 38".
unfoldable pub cases : List Case
cases =
    gives (admit (sheet_a 40 40 60)) (success 3 17) (16 ∷ 33 ∷ 16 ∷ 9 ∷ [])
    ∷ gives (admit (sheet_a 40 40 38)) (success 3 17) (33 ∷ 16 ∷ 16 ∷ 9 ∷ [])
    ∷ gives (admit (sheet_a 40 38 38)) (refuse 7 1 2) (9 ∷ 9 ∷ 9 ∷ 9 ∷ [])
    ∷ gives (admit (sheet_a 40 40 37)) (success 3 17) (33 ∷ 16 ∷ 16 ∷ 9 ∷ [])
    ∷ gives (admit (sheet_a 34 34 60)) (success 3 17) (16 ∷ 33 ∷ 16 ∷ 9 ∷ [])
    ∷ gives (admit (sheet_a 33 33 60)) (success 3 17) (16 ∷ 50 ∷ 16 ∷ 9 ∷ [])
    ∷ gives (admit sheet_a6) (success 4 17) (16 ∷ 33 ∷ 16 ∷ 21 ∷ 9 ∷ [])
    ∷ gives (admit (sheet_p7 10)) (refuse 7 1 1) (9 ∷ 9 ∷ 9 ∷ [])
    ∷ gives (admit (sheet_p7 9)) (refuse 7 1 1) (9 ∷ 9 ∷ 9 ∷ [])
    ∷ gives (replay (sheet_a 40 40 60) log_p9 40) (success 25 40) (0 ∷ 12 ∷ 6 ∷ 9 ∷ [])
    ∷ gives (replay (sheet_a 40 40 60) log_p9 12) (success 2 12) (0 ∷ not_begun ∷ 6 ∷ 9 ∷ [])
    ∷ gives (replay (sheet_a 40 40 60) log_p11 18) (success 3 23) (0 ∷ 6 ∷ 11 ∷ 17 ∷ 9 ∷ [])
    ∷ gives (replay (sheet_a 40 40 60) log_p9 0) (success 0 0) (not_begun ∷ not_begun ∷ not_begun ∷ 9 ∷ [])
    ∷ []

-- The claim: the definitions give every case's outcome, all numbers and all words.
abbrev pub AllHold : Type 0
AllHold = map (λ c. outcome_of c.question) cases ≡ map (λ c. c.outcome) cases

-- One node with three streams of equal periods, the second with the shortest deadline: it is ranked first, and of the other two the
-- one with the lower number.
unfoldable pub sheet_equal : List ℕ
sheet_equal = 1 ∷ 5 ∷ 1 ∷ 6 ∷ 3 ∷ 2 ∷ 100 ∷ 100 ∷ 0 ∷ 100 ∷ 50 ∷ 0 ∷ 100 ∷ 100 ∷ 0 ∷ []

-- One node with one stream of period 100 and deadline 50. C is 6, and a turn takes 6 ticks.
unfoldable pub sheet_one : ℕ → List ℕ
sheet_one jitter = 1 ∷ 5 ∷ 1 ∷ 6 ∷ 1 ∷ 1 ∷ 100 ∷ 50 ∷ jitter ∷ []

-- Both streams of node 1 release at tick 0, when its first turn starts: the one ranked above begins at once.
unfoldable pub log_both : List ℕ
log_both = 0 ∷ 1 ∷ 0 ∷ 2 ∷ []

-- A record and a buffer as nobody has made them by steps: of the log of P11, the second of node 2's two releases has begun and the
-- first has not; the last word is no release's.
unfoldable pub made_up_bus : Bus
made_up_bus = record { tick = 7; node = 2; turns = 5 }

unfoldable pub made_up_room : List ℕ
made_up_room = 3 ∷ not_begun ∷ 4 ∷ not_begun ∷ not_begun ∷ []

-- A stream record of three numbers, and a list that nobody has made.
abbrev pub counted : ℕ → ℕ → ℕ → StreamRecord
counted begun longest over = record { begun = begun; longest = longest; over = over }

unfoldable pub lent_list : ℕ → List StreamRecord
lent_list length = replicate length (counted 9 9 9)

-- Node 1's first stream releases four times at once, its second once; node 2's stream keeps its period.
unfoldable pub log_burst : List ℕ
log_burst = 0 ∷ 1 ∷ 0 ∷ 1 ∷ 0 ∷ 1 ∷ 0 ∷ 1 ∷ 0 ∷ 2 ∷ 1 ∷ 3 ∷ 31 ∷ 3 ∷ []

-- The second message of node 1's first stream waits as long as listed.
unfoldable pub log_as_listed : List ℕ
log_as_listed = 0 ∷ 1 ∷ 0 ∷ 3 ∷ 0 ∷ 3 ∷ 1 ∷ 1 ∷ []

-- Cases beside those: one stream with its wait and J; the late test at its edge, in the first turn and in the second, and for a message that is
-- first in a turn of two; releases that come while a stream waits; rank by deadline, then by period (61 is the longer one), then by number, in
-- waits, replay and step; the order of refusals; one step over a made-up buffer; and jitter: in the late test the stream's own, to the tick, in
-- the wait that of the one above, where the window with it comes to a whole period, in its range less than the period, and not in the rank.
pub record Further : Type 0 where
  pub second_stream : one_stream_answer (sheet_a 40 40 60) 1 2 ≡ success 33 2
  pub three_cycles : one_stream_answer (sheet_a 33 33 60) 1 2 ≡ success 50 3
  pub other_node : one_stream_answer (sheet_a 40 40 60) 2 1 ≡ success 16 1
  pub at_deadline : one_stream_answer (sheet_a 40 39 39) 1 2 ≡ success 33 2
  pub late_stream : one_stream_answer (sheet_a 40 38 38) 1 2 ≡ refuse 7 1 2
  pub unknown_stream : one_stream_answer (sheet_a 40 38 38) 2 2 ≡ refuse 8 2 2
  pub late_unwritten : admit_buffer (sheet_a 40 38 38) (lent 3) ≡ 9 ∷ 9 ∷ 9 ∷ 9 ∷ []
  pub first_of_two : one_stream_answer (sheet_pair 27) 2 1 ≡ success 16 1
  pub turn_too_long : one_stream_answer (sheet_pair 26) 2 1 ≡ refuse 7 2 1
  pub counted_while_waiting : one_stream_answer (sheet_p7 10) 1 2 ≡ success 17 3
  pub in_time_alone : admit_buffer (sheet_p7 11) (lent 2) ≡ 5 ∷ 17 ∷ 9 ∷ []
  pub equal_periods : admit_buffer sheet_equal (lent 3) ≡ 15 ∷ 10 ∷ 21 ∷ 9 ∷ []
  pub equal_deadlines : admit_buffer (sheet_a 61 39 39) (lent 3) ≡ 33 ∷ 16 ∷ 16 ∷ 9 ∷ []
  pub both_equal : admit_buffer (sheet_a 60 39 39) (lent 3) ≡ 16 ∷ 33 ∷ 16 ∷ 9 ∷ []
  pub replay_by_deadline : replay_buffer (sheet_a 40 40 38) log_both 8 (lent 2) ≡ 7 ∷ 0 ∷ 9 ∷ []
  pub replay_by_period : replay_buffer (sheet_a 61 39 39) log_both 8 (lent 2) ≡ 7 ∷ 0 ∷ 9 ∷ []
  pub replay_by_number : replay_buffer (sheet_a 60 39 39) log_both 8 (lent 2) ≡ 0 ∷ 7 ∷ 9 ∷ []
  pub step_by_deadline : step_buffer (sheet_a 40 40 38) log_both (start log_both).bus (start log_both).begins ≡ not_begun ∷ 0 ∷ []
  pub room_before_late : admit_answer (sheet_a 40 38 38) 2 ≡ refuse 6 0 0
  pub sheet_before_room : admit_answer (sheet_a 0 0 60) 0 ≡ refuse 5 1 1
  pub log_before_horizon : replay_answer (sheet_a 40 40 60) (0 ∷ 4 ∷ []) 1_000_000_001 0 ≡ refuse 9 0 1
  pub horizon_before_room : replay_answer (sheet_a 40 40 60) (0 ∷ 1 ∷ []) 1_000_000_001 0 ≡ refuse 10 0 0
  pub step_numbers : step_answer (sheet_a 40 40 60) log_p11 made_up_bus made_up_room ≡ success 1 13
  pub step_record : step_bus (sheet_a 40 40 60) log_p11 made_up_bus made_up_room ≡ record { tick = 13; node = 1; turns = 6 }
  pub step_words : step_buffer (sheet_a 40 40 60) log_p11 made_up_bus made_up_room ≡ 3 ∷ 7 ∷ 4 ∷ not_begun ∷ not_begun ∷ []
  pub step_refused : step_answer (sheet_a 40 40 60) log_p11 (record { tick = 7; node = 3; turns = 5 }) made_up_room ≡ refuse 16 0 0
  pub own_jitter : one_stream_answer (sheet_jitter 18 0) 1 1 ≡ success 16 1
  pub own_jitter_late : one_stream_answer (sheet_jitter 19 0) 1 1 ≡ refuse 7 1 1
  pub jitter_above : one_stream_answer (sheet_jitter 6 0) 1 2 ≡ success 33 2
  pub whole_period : one_stream_answer (sheet_jitter 7 4) 1 2 ≡ success 50 3
  pub late_by_own : one_stream_answer (sheet_jitter 7 5) 1 2 ≡ refuse 7 1 2
  pub jitter_in_time : one_stream_answer (sheet_one 39) 1 1 ≡ success 5 1
  pub jitter_too_long : one_stream_answer (sheet_one 40) 1 1 ≡ refuse 7 1 1
  pub jitter_is_deadline : one_stream_answer (sheet_one 50) 1 1 ≡ refuse 7 1 1
  pub longest_jitter : one_stream_answer (sheet_one 99) 1 1 ≡ refuse 7 1 1
  pub jitter_is_period : one_stream_answer (sheet_one 100) 1 1 ≡ refuse 5 1 1
  pub rank_without_jitter : replay_buffer (sheet_jitter 0 30) log_both 8 (lent 2) ≡ 0 ∷ 7 ∷ 9 ∷ []
  pub records_over : records_list (sheet_a 40 40 60) log_burst 40 7 (lent_list 4) ≡ counted 4 26 2 ∷ counted 1 38 1 ∷ counted 2 5 0 ∷ counted 9 9 9 ∷ []
  pub records_late : records_list (sheet_a 40 38 38) log_burst 40 7 (lent_list 4) ≡ counted 4 26 2 ∷ counted 1 38 0 ∷ counted 2 5 0 ∷ counted 9 9 9 ∷ []
  pub records_as_listed : records_list (sheet_a 40 40 60) log_as_listed 20 4 (lent_list 3) ≡ counted 2 16 0 ∷ counted 0 0 0 ∷ counted 2 11 0 ∷ []
  pub list_too_short : records_answer (sheet_a 40 40 60) log_p9 40 3 2 ≡ refuse 6 0 0
  pub short_list_stays : records_list (sheet_a 40 40 60) log_p9 40 3 (lent_list 2) ≡ lent_list 2
  pub short_list_no_word : records_buffer (sheet_a 40 40 60) log_p9 40 2 (lent 3) ≡ lent 3
  pub horizon_before_list : records_answer (sheet_a 40 40 60) log_p9 1_000_000_001 3 2 ≡ refuse 10 0 0
