-- Demand 3 about what the replay answers and leaves in its buffer: where its number is 0, the whole claim holds of its two other
-- numbers and of the buffer's words. Assumes nothing.
use Prim.Native.Nat.{ℕ, suc, ◌<◌}
use native.Mathlib.Nat.{le_refl}
use native.Mathlib.Omega.{arith}
use mathlib.Core.Path.{◌≡◌, ◌∙◌, ap}
use mathlib.Core.Bool.{◌&&◌}
use mathlib.Core.List.{List}
use lib.ListN.{length, get_or-append}
use lib.Dec.{leb, ltb}
use Rattle.model.specs.declared.Answer.{Answer}
use Rattle.model.specs.Sheet.{word}
use Rattle.model.specs.Protocol.{releases, start_of, replayed}
use Rattle.model.specs.Answers.{buffer_after, replay_answer, replay_buffer}
use Rattle.model.specs.Demand.{Accepts, began_within, messages_of, WholeReplay}
use Rattle.theory.proofs.Counting.{count_below_same}
use Rattle.model.proofs.Sheet.ValidSheet.{valid_fits}
use Rattle.model.proofs.Answers.NotRefused.{replay_accepted, replay_answers}
use Rattle.model.proofs.Protocol.Run.{replayed-length}
use Rattle.model.proofs.Demand.Demand3.{demand3}

-- Words that agree on every release carry the claim as well.
whole_same : {s log : List ℕ} {horizon turns next : ℕ} {words other : List ℕ}
    → ((i : ℕ) → i < releases log → word other i ≡ word words i)
    → WholeReplay s log horizon turns next words
    → WholeReplay s log horizon turns next other
whole_same {s} {log} {horizon} {turns} {next} {words} {other} same whole =
    record {
      turns_counted = whole.turns_counted;
      next_start = whole.next_start;
      every_release = λ i h. same i (omega arith) ∙ whole.every_release i h;
      one_cycle_apart = whole.one_cycle_apart;
      within_budget = λ i h. rw (messages i) (whole.within_budget i h);
      within_wait = λ k j wait cycles premises i due.
          let begins = whole.within_wait k j wait cycles premises i due in
          let e = same i due.in_log in
          record { written = rw e begins.written; not_earlier = rw e begins.not_earlier; within = rw e begins.within };
      delivered = λ k j wait J premises latest fit i tick due.
          let d = whole.delivered k j wait J premises latest fit i tick due in
          record { turn = d.turn; begins = begins_same d.turn i due.in_log ∙ d.begins; over = d.over };
    }
  where
    begins_same : (t i : ℕ)
        → i < releases log
        → began_within other (start_of s log t) (start_of s log (suc t)) i
        ≡ began_within words (start_of s log t) (start_of s log (suc t)) i
    begins_same t i h = ap (λ w. leb (start_of s log t) w && ltb w (start_of s log (suc t))) (same i h)

    messages : (t : ℕ) → messages_of s log other t ≡ messages_of s log words t
    messages t =
        count_below_same
        (began_within other (start_of s log t) (start_of s log (suc t)))
        (began_within words (start_of s log t) (start_of s log (suc t)))
        (releases log)
        (begins_same t)

module _ (s log : List ℕ) (horizon : ℕ) where
  -- The claim, about the answer and the buffer of a replay that is not refused.
  pub replay_demand : (room : List ℕ)
      → (replay_answer s log horizon (length room)).number ≡ 0
      → WholeReplay s log horizon
      (replay_answer s log horizon (length room)).second
      (replay_answer s log horizon (length room)).third
      (replay_buffer s log horizon room)
  unfolding replay_buffer buffer_after
  replay_demand room e =
      let ok = replay_accepted e in
      let same = replay_answers ok in
      let just = replay_answers (record { valid = ok.valid; logged = ok.logged; horizon_to = ok.horizon_to; room_for = le_refl _ }) in
      let accepts : Accepts s log horizon = ap (λ (a : Answer). a.number) just in
      let long = replayed-length s log horizon (valid_fits s ok.valid).header.slot_from in
      rw same
      (whole_same
      (λ i h. get_or-append (replayed s log horizon).begins _ 0 i (rw long h))
      (demand3 s log horizon accepts))
