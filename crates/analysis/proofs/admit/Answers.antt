-- `analysis::admit` meets its contract: each part's answer is the chain's where it refuses, with the room as it was, and hands on to
-- the next where it does not.
-- Assumes nothing.
use Prim.Native.Nat.{ℕ, ◌≤◌}
use mathlib.Core.Path.{◌≡◌, sym, ap, ◌∙◌}
use mathlib.Core.List.{List}
use lib.ListN.{length}
use Rattle.std.proofs.Common.{rules}
use Rattle.std.specs.Prelude.{Err}
use Rattle.model.specs.declared.Answer.{Answer}
use Rattle.model.specs.Refusal.{accepted}
use Rattle.model.specs.Sheet.{total_streams, Valid}
use Rattle.model.specs.Demand.{AllJudged}
use Rattle.model.proofs.Demand.Demand2.{demand2}
use Rattle.model.specs.Answers.{room_refusal, listed_waits, buffer_after, admit_answer, admit_buffer}
use Rattle.model.proofs.Answers.NotRefused.{room_enough}
use Rattle.model.proofs.Answers.Buffer.{buffer_kept}
use Rattle.refusals.specs.Numbers.{numbers}
use Rattle.refusals.proofs.Chains.{refuses, stops, goes_on}
use Rattle.analysis.proofs.admit.Goals as goal

-- The buffer goes by the answer.
of-answer : (s room : List ℕ) {a : Answer} → a ≡ admit_answer s (length room) → buffer_after a (listed_waits s) room ≡ admit_buffer s room
unfolding admit_buffer
of-answer s room e = ap (λ a. buffer_after a (listed_waits s) room) e

-- Demand 2 goes by the answer and the buffer.
with-demand : (s room : List ℕ) {a : Answer} {after : List ℕ}
    → a ≡ admit_answer s (length room)
    → after ≡ buffer_after a (listed_waits s) room
    → (a ≡ admit_answer s (length room))
    × ((after ≡ admit_buffer s room) × (Valid s → total_streams s ≤ length room → AllJudged s a after))
with-demand s room answer left =
    let buffer = left ∙ of-answer s room answer in
    (answer, (buffer, λ valid enough. rw (answer, buffer) (demand2.admission s room valid enough)))

pub returns-in_err-check_sheet : goal.returns-in_err-check_sheet
unfolding admit_answer
returns-in_err-check_sheet c =
    let a = c.args in
    let refusal = c.in_err-check_sheet.field-0.0 in
    let same : c.from_residual.result ≡ Err refusal = search rules in
    let kept = buffer_kept (numbers refusal) (listed_waits a.sheet.now) a.room.now (refuses refusal) in
    let all = with-demand a.sheet.now a.room.now (stops refusal _ c.in_err-check_sheet.ensures) kept in
    record { answer = rw same all.0; buffer = all.1.0; demand = rw same all.1.1 }

pub returns-in_err-refuse_if : goal.returns-in_err-refuse_if
unfolding admit_answer room_refusal
returns-in_err-refuse_if c =
    let a = c.args in
    let refusal = c.in_err-refuse_if.field-0.0 in
    let same : c.from_residual-in_err-refuse_if.result ≡ Err refusal = search rules in
    let total = rw c.word_at.ensures at c.streams_up_to-total.ensures in
    let kept = buffer_kept (numbers refusal) (listed_waits a.sheet.now) a.room.now (refuses refusal) in
    let all = with-demand a.sheet.now a.room.now
    (goes_on c.in_ok-check_sheet.ensures (stops refusal _ (rw total at c.in_err-refuse_if.ensures))) kept in
    record { answer = rw same all.0; buffer = all.1.0; demand = rw same all.1.1 }

pub judge_sheet-requires : goal.judge_sheet-requires
unfolding room_refusal
judge_sheet-requires c =
    let a = c.args in
    let streams = rw c.word_at.ensures at c.streams_up_to-total.ensures in
    let short : accepted ≡ room_refusal (total_streams a.sheet.now) (length a.room.now) = rw streams at c.in_ok-refuse_if.ensures in (
      sym (ap (λ x. x.number) c.in_ok-check_sheet.ensures),
      streams,
      rw streams (room_enough (total_streams a.sheet.now) (length a.room.now) (sym (ap (λ x. x.number) short))),
    )

pub returns : goal.returns
unfolding admit_answer room_refusal
returns c =
    let a = c.args in
    let judged = c.judge_sheet.ensures in
    let total = rw c.word_at.ensures at c.streams_up_to-total.ensures in
    let all = with-demand a.sheet.now a.room.now
    (goes_on c.in_ok-check_sheet.ensures (goes_on (rw total at c.in_ok-refuse_if.ensures) judged.answer)) judged.buffer in
    record { answer = all.0; buffer = all.1.0; demand = all.1.1 }
