-- `budgets::find_budgets` meets its contract: each part's answer is the chain's where it refuses, with the room as it was, and hands on to
-- the next where it does not. Assumes nothing.
use Prim.Native.Nat.{ℕ, ◌≤◌}
use mathlib.Core.Path.{◌≡◌, sym, ap, ◌∙◌}
use mathlib.Core.List.{List}
use lib.ListN.{length}
use Rattle.model.specs.declared.Answer.{Answer}
use Rattle.model.specs.Limits.{max_nodes}
use Rattle.model.specs.Sheet.{Valid}
use Rattle.model.specs.Answers.{room_refusal, buffer_after}
use Rattle.std.proofs.Common.{rules}
use Rattle.std.specs.Prelude.{Err}
use Rattle.model.specs.Refusal.{accepted}
use Rattle.refusals.specs.Numbers.{numbers}
use Rattle.refusals.proofs.Chains.{refuses, stops, goes_on}
use Rattle.model.proofs.Answers.NotRefused.{room_enough}
use Rattle.model.proofs.Answers.Buffer.{buffer_kept}
use Rattle.rounds.specs.Rounds.{last_row}
use Rattle.rounds.specs.Answer.{find_answer, find_buffer}
use Rattle.rounds.specs.Least.{LeastBudgets}
use Rattle.rounds.proofs.Promise.{least_budgets}
use Rattle.budgets.proofs.find_budgets.Goals as goal

-- The buffer goes by the answer,
of-answer : (s room : List ℕ) {a : Answer} → a ≡ find_answer s (length room) → buffer_after a (last_row s) room ≡ find_buffer s room
unfolding find_buffer
of-answer s room e = ap (λ a. buffer_after a (last_row s) room) e

-- and what holds of the row by both.
with-least : (s room : List ℕ) {a : Answer} {after : List ℕ}
    → a ≡ find_answer s (length room)
    → after ≡ buffer_after a (last_row s) room
    → (a ≡ find_answer s (length room))
    × ((after ≡ find_buffer s room) × (Valid s → max_nodes ≤ length room → LeastBudgets s a after))
with-least s room answer left =
    let buffer = left ∙ of-answer s room answer in
    (answer, (buffer, λ valid enough. rw (answer, buffer) (least_budgets s room valid enough)))

pub returns-in_err-check_sheet : goal.returns-in_err-check_sheet
unfolding find_answer
returns-in_err-check_sheet c =
    let a = c.args in
    let refusal = c.in_err-check_sheet.field-0.0 in
    let same : c.from_residual.result ≡ Err refusal = search rules in
    let kept = buffer_kept (numbers refusal) (last_row a.sheet.now) a.room.now (refuses refusal) in
    let all = with-least a.sheet.now a.room.now (stops refusal _ c.in_err-check_sheet.ensures) kept in
    record { answer = rw same all.0; buffer = all.1.0; least = rw same all.1.1 }

pub returns-in_err-refuse_if : goal.returns-in_err-refuse_if
unfolding find_answer room_refusal
returns-in_err-refuse_if c =
    let a = c.args in
    let refusal = c.in_err-refuse_if.field-0.0 in
    let same : c.from_residual-in_err-refuse_if.result ≡ Err refusal = search rules in
    let kept = buffer_kept (numbers refusal) (last_row a.sheet.now) a.room.now (refuses refusal) in
    let all = with-least a.sheet.now a.room.now
    (goes_on c.in_ok-check_sheet.ensures (stops refusal _ c.in_err-refuse_if.ensures)) kept in
    record { answer = rw same all.0; buffer = all.1.0; least = rw same all.1.1 }

pub run_rounds-requires : goal.run_rounds-requires
unfolding room_refusal
run_rounds-requires c =
    let a = c.args in
    let short : accepted ≡ room_refusal max_nodes (length a.room.now) = c.in_ok-refuse_if.ensures in (
      sym (ap (λ x. x.number) c.in_ok-check_sheet.ensures),
      room_enough max_nodes (length a.room.now) (sym (ap (λ x. x.number) short)),
    )

pub returns : goal.returns
unfolding find_answer room_refusal
returns c =
    let a = c.args in
    let settled = c.run_rounds.ensures in
    let all = with-least a.sheet.now a.room.now
    (goes_on c.in_ok-check_sheet.ensures (goes_on c.in_ok-refuse_if.ensures settled.answer)) settled.buffer in
    record { answer = all.0; buffer = all.1.0; least = all.1.1 }
