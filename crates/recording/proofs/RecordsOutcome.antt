-- The replay with stream records, by its refusal: what was handed in where there is none, what is cleared before the run, and the answer, the
-- buffer and the list with and without a refusal. Assumes nothing.
use Prim.Native.Nat.{ℕ, ◌≤◌}
use native.Mathlib.Decide.{ℕ_discrete}
use native.Mathlib.Omega.{arith}
use mathlib.Core.Path.{◌≡◌, refl, sym, ◌∙◌, ap}
use mathlib.Core.List.{List, ◌++◌}
use lib.ListN.{length, take, drop, replicate, length-append, length-replicate}
use lib.Seq.{take_at, drop_at}
use Rattle.model.specs.declared.Answer.{Answer}
use Rattle.model.specs.declared.Bus.{Bus}
use Rattle.model.specs.declared.StreamRecord.{StreamRecord}
use Rattle.model.specs.Limits.{max_time, not_begun}
use Rattle.model.specs.Refusal.{success, ◌or_else◌}
use Rattle.model.specs.Sheet.{total_streams, Valid}
use Rattle.model.specs.Protocol.{releases, replayed}
use Rattle.model.specs.Records.{records_of, none_yet}
use Rattle.model.specs.Answers.{buffer_after, room_refusal, log_refusal, replay_answer, replay_buffer, records_answer, records_buffer, records_list}
use Rattle.model.specs.Demand.{WholeReplay, NoneOver}
use Rattle.model.proofs.Sheet.Refusals.{or_else_on, or_else_stop, or_else_both}
use Rattle.model.proofs.Sheet.ValidSheet.{valid_fits}
use Rattle.model.proofs.Protocol.Run.{replayed-length}
use Rattle.model.proofs.Answers.NotRefused.{room_enough, replay_accepted, replay_answers}
use Rattle.model.proofs.Answers.Buffer.{buffer_kept, buffer_written}
use Rattle.model.proofs.Demand.ReplayDemand.{replay_demand}
use Rattle.model.proofs.Records.Listed.{records_length, records_cleared, records_before}
use Rattle.model.proofs.Records.NoneOver.{none_over}
use Rattle.model.proofs.Trace.Faultless.{log_fits}
use Rattle.logs.specs.Replay.{replay_refusal}
use Rattle.queue.specs.Queue.{Rising}
use Rattle.bus.proofs.AcceptedLog.{log_rises}
use Rattle.bus.proofs.ReplayOutcome.{replay_checked, replay_refused}
use Rattle.recorded.specs.Recorded.{KnownStreams, UpToDate}
use Rattle.recording.specs.Recording.{records_refusal}

-- What the replay with stream records answers, writes and lists.
pub record RecordsOutcome (s log : List ℕ) (horizon : ℕ) (room : List ℕ) (records : List StreamRecord) (answer : Answer)
    (buffer : List ℕ) (list : List StreamRecord) : Type 0 where
  pub answered : answer ≡ records_answer s log horizon (length room) (length records)
  pub written : buffer ≡ records_buffer s log horizon (length records) room
  pub listed : list ≡ records_list s log horizon (length room) records

-- What one that is not refused was handed.
pub record RecordsAccepted (s log : List ℕ) (horizon room list : ℕ) : Type 0 where
  pub valid : Valid s
  pub rises : Rising log
  pub streams : KnownStreams s log
  pub horizon_to : horizon ≤ max_time
  pub room_for : releases log ≤ room
  pub list_for : total_streams s ≤ list

-- The streams of a log that is not refused are the sheet's.
pub known_streams : (s log : List ℕ) → (log_refusal s log).number ≡ 0 → KnownStreams s log
known_streams s log e =
    let fits = log_fits s log e in
    record { few = fits.few; from = λ i h. (fits.each i h).stream_from; up_to = λ i h. (fits.each i h).stream_to }

-- Before the run, all releases are marked as not begun, and all records are cleared.
pub record Cleared (s log room : List ℕ) (records : List StreamRecord) (marked : List ℕ) (cleared : List StreamRecord) : Type 0 where
  pub begins : marked ≡ replicate (releases log) not_begun ++ drop (releases log) room
  pub list : cleared ≡ replicate (total_streams s) none_yet ++ drop (total_streams s) records

module _ {s log room marked : List ℕ} {records cleared : List StreamRecord}
    (start : Cleared s log room records marked cleared) where
  -- Then the run finds room enough,
  pub marked_fits : releases log ≤ length marked
  marked_fits =
      omega (
        arith,
        ap length start.begins,
        length-append (replicate (releases log) not_begun) (drop (releases log) room),
        length-replicate (releases log) not_begun,
      )

  -- nothing begun,
  pub marked_front : take (releases log) marked ≡ replicate (releases log) not_begun
  marked_front =
      ap (take (releases log)) start.begins
      ∙ take_at (replicate (releases log) not_begun) (drop (releases log) room) (releases log) (length-replicate (releases log) not_begun)

  marked_rest : drop (releases log) marked ≡ drop (releases log) room
  marked_rest =
      ap (drop (releases log)) start.begins
      ∙ drop_at (replicate (releases log) not_begun) (drop (releases log) room) (releases log) (length-replicate (releases log) not_begun)

  cleared_rest : drop (total_streams s) cleared ≡ drop (total_streams s) records
  cleared_rest =
      ap (drop (total_streams s)) start.list
      ∙ drop_at (replicate (total_streams s) none_yet) (drop (total_streams s) records) (total_streams s) (length-replicate (total_streams s) none_yet)

  -- and the list up to date.
  pub cleared_current : UpToDate s log marked cleared
  cleared_current =
      start.list
      ∙ ap (λ front. front ++ drop (total_streams s) records) (sym (records_cleared s log marked marked_front))
      ∙ ap (λ rest. records_of s log marked ++ rest) (sym cleared_rest)

module _ (s log : List ℕ) (horizon : ℕ) (room : List ℕ) (records : List StreamRecord) where
  abbrev checked : Answer
  checked = replay_refusal s log horizon (length room)

  abbrev listed : Answer
  listed = room_refusal (total_streams s) (length records)

  pub records_checked : (records_refusal s log horizon (length room) (length records)).number ≡ 0
      → RecordsAccepted s log horizon (length room) (length records)
  unfolding records_refusal
  records_checked none =
      let both = or_else_both checked listed none in
      let ok = replay_checked s log horizon room both.0 in
      record {
        valid = ok.valid;
        rises = log_rises s log ok.logged;
        streams = known_streams s log ok.logged;
        horizon_to = ok.horizon_to;
        room_for = ok.room_for;
        list_for = room_enough (total_streams s) (length records) both.1;
      }

  -- A refusal is the answer,
  refusal_answers : ((records_refusal s log horizon (length room) (length records)).number ≡ 0 → ⊥)
      → records_refusal s log horizon (length room) (length records) ≡ records_answer s log horizon (length room) (length records)
  unfolding records_refusal records_answer
  refusal_answers refuses = go (ℕ_discrete checked.number 0)
    where
      go : Dec (checked.number ≡ 0)
          → checked or_else listed
          ≡ replay_answer s log horizon (length room) or_else listed or_else replay_answer s log horizon (length room)
      go (yes none) =
          let answers = ap (λ (a : Answer). a.number) (replay_answers (replay_checked s log horizon room none)) in
          let short : listed.number ≡ 0 → ⊥ = λ e. refuses (rw (or_else_on checked listed none) e) in
          or_else_on checked listed none
          ∙ sym (or_else_on (replay_answer s log horizon (length room)) _ answers ∙ or_else_stop listed _ short)
      go (no some) =
          let same = (replay_refused s log horizon room {refusal = checked} refl some).answered in
          or_else_stop checked listed some
          ∙ same
          ∙ sym (or_else_stop (replay_answer s log horizon (length room)) _ (λ e. some (rw same e)))

  -- and the buffer and the list stay.
  pub records_refused : {refusal : Answer}
      → refusal ≡ records_refusal s log horizon (length room) (length records)
      → (refusal.number ≡ 0 → ⊥)
      → RecordsOutcome s log horizon room records refusal room records
  unfolding records_buffer records_list
  records_refused {refusal} same refuses =
      let answered = same ∙ refusal_answers (λ e. refuses (rw same e)) in
      let none : (records_answer s log horizon (length room) (length records)).number ≡ 0 → ⊥ = λ e. refuses (rw answered e) in
      record {
        answered = answered;
        written = buffer_kept _ (replayed s log horizon).begins room none;
        listed = buffer_kept _ (records_of s log (replayed s log horizon).begins) records none;
      }

  -- With no refusal the answer is the replay's.
  pub run_answers : (records_refusal s log horizon (length room) (length records)).number ≡ 0
      → records_answer s log horizon (length room) (length records)
      ≡ success (replayed s log horizon).bus.turns (replayed s log horizon).bus.tick
  unfolding records_refusal records_answer
  run_answers none =
      let both = or_else_both checked listed none in
      let same = replay_answers (replay_checked s log horizon room both.0) in
      or_else_on (replay_answer s log horizon (length room)) _ (ap (λ (a : Answer). a.number) same)
      ∙ or_else_on listed _ both.1
      ∙ same

  -- The run is the answer, its begin ticks stand in the buffer's front, and their records in the list's.
  pub records_done : {bus : Bus} {after : List ℕ} {list : List StreamRecord}
      → (records_refusal s log horizon (length room) (length records)).number ≡ 0
      → bus ≡ (replayed s log horizon).bus
      → after ≡ (replayed s log horizon).begins ++ drop (releases log) room
      → list ≡ records_of s log after ++ drop (total_streams s) records
      → RecordsOutcome s log horizon room records (success bus.turns bus.tick) after list
  unfolding records_buffer records_list
  records_done {bus} {after} {list} none ended words noted =
      let ok = records_checked none in
      let begins : List ℕ = (replayed s log horizon).begins in
      let exact = replayed-length s log horizon (valid_fits s ok.valid).header.slot_from in
      let answered = sym (run_answers none) in
      let passes : (records_answer s log horizon (length room) (length records)).number ≡ 0 = ap (λ (a : Answer). a.number) (run_answers none) in
      let afresh : records_of s log after ≡ records_of s log begins =
      ap (records_of s log) words ∙ records_before s log begins (drop (releases log) room) (omega (arith, exact))
      in
      record {
        answered = rw ended answered;
        written = words ∙ ap (λ n. begins ++ drop n room) (sym exact) ∙ buffer_written _ begins room passes;
        listed =
            noted
            ∙ ap (λ front. front ++ drop (total_streams s) records) afresh
            ∙ ap (λ n. records_of s log begins ++ drop n records) (sym (records_length s log begins))
            ∙ buffer_written _ (records_of s log begins) records passes;
      }

  -- What the run leaves, from where they are cleared, is the outcome.
  pub records_ended : {marked : List ℕ} {cleared : List StreamRecord} {bus : Bus} {after : List ℕ} {list : List StreamRecord}
      → Cleared s log room records marked cleared
      → (records_refusal s log horizon (length room) (length records)).number ≡ 0
      → bus ≡ (replayed s log horizon).bus
      → after ≡ (replayed s log horizon).begins ++ drop (releases log) marked
      → list ≡ records_of s log after ++ drop (total_streams s) cleared
      → RecordsOutcome s log horizon room records (success bus.turns bus.tick) after list
  records_ended {after = after} start none ended words noted =
      records_done none ended
      (words ∙ ap (λ rest. (replayed s log horizon).begins ++ rest) (marked_rest start))
      (noted ∙ ap (λ rest. records_of s log after ++ rest) (cleared_rest start))

  -- Where the number is 0, the answer and the buffer are the plain replay's.
  replay_answered : (records_answer s log horizon (length room) (length records)).number ≡ 0
      → ((replay_answer s log horizon (length room)).number ≡ 0)
      × (records_answer s log horizon (length room) (length records) ≡ replay_answer s log horizon (length room))
  unfolding records_answer
  replay_answered passes =
      let both = or_else_both (replay_answer s log horizon (length room)) _ passes in
      let two = or_else_both listed _ both.1 in
      (both.0, or_else_on (replay_answer s log horizon (length room)) _ both.0 ∙ or_else_on listed _ two.0)

  replay_written : (records_answer s log horizon (length room) (length records)).number ≡ 0
      → records_buffer s log horizon (length records) room ≡ replay_buffer s log horizon room
  unfolding records_buffer replay_buffer
  replay_written passes = ap (λ a. buffer_after a (replayed s log horizon).begins room) (replay_answered passes).1

  -- The list has the records of the words in the buffer.
  list_of_buffer : (records_answer s log horizon (length room) (length records)).number ≡ 0
      → records_list s log horizon (length room) records
      ≡ records_of s log (replay_buffer s log horizon room) ++ drop (total_streams s) records
  unfolding records_list replay_buffer
  list_of_buffer passes =
      let accepts = (replay_answered passes).0 in
      let begins : List ℕ = (replayed s log horizon).begins in
      let exact = replayed-length s log horizon (valid_fits s (replay_accepted accepts).valid).header.slot_from in
      let words = buffer_written (replay_answer s log horizon (length room)) begins room accepts in
      let afresh : records_of s log begins ≡ records_of s log (buffer_after (replay_answer s log horizon (length room)) begins room) =
      sym (records_before s log begins (drop (length begins) room) (omega (arith, exact))) ∙ ap (records_of s log) words
      in
      sym (buffer_written (records_answer s log horizon (length room) (length records)) (records_of s log begins) records passes)
      ∙ ap (λ n. records_of s log begins ++ drop n records) (records_length s log begins)
      ∙ ap (λ front. front ++ drop (total_streams s) records) afresh

  -- Demand 3, about what the replay with stream records answers and writes, and read off its list.
  pub records_demand : {answer : Answer} {buffer : List ℕ} {list : List StreamRecord}
      → RecordsOutcome s log horizon room records answer buffer list
      → answer.number ≡ 0
      → WholeReplay s log horizon answer.second answer.third buffer × NoneOver s log horizon list
  records_demand {answer} {buffer} {list} outcome none =
      let passes = rw outcome.answered at none in
      let accepts = replay_answered passes in
      let whole = replay_demand s log horizon room accepts.0 in (
        rw (outcome.answered, accepts.1, outcome.written, replay_written passes) whole,
        rw (outcome.listed, list_of_buffer passes) (none_over s log horizon _ _ (replay_buffer s log horizon room) _ whole),
      )
