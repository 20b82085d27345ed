-- Where the replay or a step refuses nothing: what was handed in. Assumes nothing.
use Prim.Native.Nat.{ℕ, ◌≤◌}
use native.Mathlib.Nat.{suc-ne-zero}
use mathlib.Core.Path.{◌≡◌, ◌∙◌, ap}
use mathlib.Core.Bool.{◌||◌}
use mathlib.Core.List.{List}
use borrow.Author.Tests.{ltb-false, le-ltb}
use lib.Dec.{ltb}
use Rattle.model.specs.declared.Answer.{Answer}
use Rattle.model.specs.declared.Bus.{Bus}
use Rattle.model.specs.Limits.{max_time}
use Rattle.model.specs.Refusal.{success, refuse, refuse_if, outside}
use Rattle.model.specs.Sheet.{nodes, sheet_refusal, Valid}
use Rattle.model.specs.Protocol.{releases, replayed}
use Rattle.model.specs.Answers.{room_refusal, log_refusal, horizon_refusal, record_refusal, replay_answer, step_refusal}
use Rattle.model.proofs.Sheet.Refusals.{or_else_on, or_else_both, refuse_if_not, refuse_if_none}
use Rattle.theory.proofs.Tests.{or_neither, or_second}
use Rattle.model.proofs.Sheet.Range.{within, inside}

-- A buffer that is not refused has the words that are needed.
pub room_enough : (needed room : ℕ) → (room_refusal needed room).number ≡ 0 → needed ≤ room
unfolding room_refusal
room_enough needed room e = ltb-false room needed (refuse_if_none (ltb room needed) (refuse 6 0 0) (suc-ne-zero 5) e)

-- What a replay that is not refused was handed.
pub record ReplayAccepted (s log : List ℕ) (horizon room : ℕ) : Type 0 where
  pub valid : Valid s
  pub logged : (log_refusal s log).number ≡ 0
  pub horizon_to : horizon ≤ max_time
  pub room_for : releases log ≤ room

module _ {s log : List ℕ} {horizon room : ℕ} where
  pub replay_accepted : (replay_answer s log horizon room).number ≡ 0 → ReplayAccepted s log horizon room
  unfolding replay_answer horizon_refusal
  replay_accepted e =
      let sheet = or_else_both (sheet_refusal s) _ e in
      let logs = or_else_both (log_refusal s log) _ sheet.1 in
      let late = or_else_both (horizon_refusal horizon) _ logs.1 in
      let short = or_else_both (room_refusal (releases log) room) _ late.1 in
      record {
        valid = sheet.0;
        logged = logs.0;
        horizon_to = ltb-false max_time horizon (refuse_if_none (ltb max_time horizon) (refuse 10 0 0) (suc-ne-zero 9) late.0);
        room_for = room_enough (releases log) room short.0;
      }

  -- Such a replay answers with its run.
  pub replay_answers : ReplayAccepted s log horizon room
      → replay_answer s log horizon room ≡ success (replayed s log horizon).bus.turns (replayed s log horizon).bus.tick
  unfolding replay_answer horizon_refusal room_refusal
  replay_answers ok =
      let number : Answer → ℕ = λ a. a.number in
      let late = refuse_if_not (refuse 10 0 0) (le-ltb max_time horizon ok.horizon_to) in
      let short = refuse_if_not (refuse 6 0 0) (le-ltb room (releases log) ok.room_for) in
      or_else_on (sheet_refusal s) _ ok.valid
      ∙ or_else_on (log_refusal s log) _ ok.logged
      ∙ or_else_on (horizon_refusal horizon) _ (ap number late)
      ∙ or_else_on (room_refusal (releases log) room) _ (ap number short)

-- What a step that is not refused was handed: the record is in range.
pub record StepAccepted (s log : List ℕ) (bus : Bus) (room : ℕ) : Type 0 where
  pub valid : Valid s
  pub logged : (log_refusal s log).number ≡ 0
  pub tick_to : bus.tick ≤ max_time
  pub turns_to : bus.turns ≤ max_time
  pub node_from : 1 ≤ bus.node
  pub node_to : bus.node ≤ nodes s
  pub room_for : releases log ≤ room

pub step_accepted : {s log : List ℕ} {bus : Bus} {room : ℕ} → (step_refusal s log bus room).number ≡ 0 → StepAccepted s log bus room
unfolding step_refusal record_refusal
step_accepted {s} {log} {bus} {room} e =
    let tick = ltb max_time bus.tick in
    let turns = ltb max_time bus.turns in
    let node = outside 1 (nodes s) bus.node in
    let sheet = or_else_both (sheet_refusal s) _ e in
    let logs = or_else_both (log_refusal s log) _ sheet.1 in
    let bad = or_else_both (refuse_if (tick || turns || node) (refuse 16 0 0)) _ logs.1 in
    let all = or_neither (tick || turns) node (refuse_if_none (tick || turns || node) (refuse 16 0 0) (suc-ne-zero 15) bad.0) in
    let two = or_neither tick turns all.0 in
    let range = within 1 (nodes s) bus.node all.1 in
    record {
      valid = sheet.0;
      logged = logs.0;
      tick_to = ltb-false max_time bus.tick two.0;
      turns_to = ltb-false max_time bus.turns two.1;
      node_from = range.0;
      node_to = range.1;
      room_for = room_enough (releases log) room bad.1;
    }

-- And a step that is handed that is not refused.
pub step_unrefused : {s log : List ℕ} {bus : Bus} {room : ℕ} → StepAccepted s log bus room → (step_refusal s log bus room).number ≡ 0
unfolding step_refusal record_refusal room_refusal
step_unrefused {s} {log} {bus} {room} ok =
    let number : Answer → ℕ = λ a. a.number in
    let times = or_second (le-ltb max_time bus.tick ok.tick_to) (le-ltb max_time bus.turns ok.turns_to) in
    let bad = refuse_if_not (refuse 16 0 0) (or_second times (inside 1 (nodes s) bus.node ok.node_from ok.node_to)) in
    ap number
    (or_else_on (sheet_refusal s) _ ok.valid
    ∙ or_else_on (log_refusal s log) _ ok.logged
    ∙ or_else_on (record_refusal s bus) _ (ap number bad)
    ∙ refuse_if_not (refuse 6 0 0) (le-ltb room (releases log) ok.room_for))
