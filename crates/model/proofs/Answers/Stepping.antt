-- Stepping is the replay: k steps from (0, 1, 0), over a buffer with nothing begun, leave the protocol's state before turn k, and the
-- words of the buffer past the log's as they were. Assumes nothing.
use Prim.Native.Nat.{ℕ, zero, suc, pred, ◌≤◌}
use native.Mathlib.Omega.{arith}
use mathlib.Core.Path.{◌≡◌, refl, ◌∙◌, ap}
use mathlib.Core.List.{List, ◌++◌}
use borrow.Author.Tests.{eq-eqb}
use lib.ListN.{length, length-append}
use Rattle.model.specs.Limits.{max_time}
use Rattle.model.specs.Sheet.{budget, Valid}
use Rattle.model.specs.Protocol.{Served, next_bus, State, turn, start, state_at, start_of, node_of}
use Rattle.model.specs.Answers.{log_refusal, step_refusal, step_bus, step_buffer, stepped}
use Rattle.model.proofs.Sheet.ValidSheet.{valid_fits}
use Rattle.model.proofs.Protocol.LongerBuffer.{serve_front}
use Rattle.model.proofs.Protocol.Clock.{next_start, node_range, turns_counted_lem, start_at_least, begins_length}
use Rattle.model.proofs.Answers.NotRefused.{step_unrefused}

-- A state whose words stand in the front of a longer buffer.
abbrev pub in_front : List ℕ → State → State
in_front rest st = record { bus = st.bus; begins = st.begins ++ rest }

module _ (s log rest : List ℕ) (valid : Valid s) (logged : (log_refusal s log).number ≡ 0) where
  -- A step at the start of a turn of the protocol is not refused.
  taken_up : (i : ℕ)
      → start_of s log i ≤ max_time
      → (step_refusal s log (state_at s log i).bus (length ((state_at s log i).begins ++ rest))).number ≡ 0
  taken_up i early =
      let header = (valid_fits s valid).header in
      let node = node_range s log header.nodes_from i in
      step_unrefused
      (record {
        valid = valid;
        logged = logged;
        tick_to = early;
        turns_to = omega (arith, turns_counted_lem s log i, start_at_least s log header.slot_from i);
        node_from = node.0;
        node_to = node.1;
        room_for = omega (arith, begins_length s log i, length-append (state_at s log i).begins rest);
      })

  -- One step is one turn.
  step_is_turn : (i : ℕ)
      → start_of s log i ≤ max_time
      → record {
        bus = step_bus s log (state_at s log i).bus ((state_at s log i).begins ++ rest);
        begins = step_buffer s log (state_at s log i).bus ((state_at s log i).begins ++ rest);
      }
      ≡ in_front rest (state_at s log (suc i))
  unfolding step_bus step_buffer state_at turn
  step_is_turn i early =
      let st = state_at s log i in
      let test = eq-eqb (step_refusal s log st.bus (length (st.begins ++ rest))).number 0 (taken_up i early) in
      let served = serve_front s log (node_of s log i) (start_of s log i) (budget s (node_of s log i)) st.begins rest (begins_length s log i) in
      rw test (ap (λ (v : Served). record { bus = next_bus s st.bus v.taken; begins = v.begins }) served)

  -- And so on, while turns start at ticks that a record may have.
  pub stepping : (k : ℕ) → start_of s log (pred k) ≤ max_time → stepped s log k (in_front rest (start log)) ≡ in_front rest (state_at s log k)
  unfolding stepped state_at
  stepping zero early = refl
  stepping (suc k) early =
      ap
      (λ (st : State). record { bus = step_bus s log st.bus st.begins; begins = step_buffer s log st.bus st.begins })
      (stepping k (earlier k early))
      ∙ step_is_turn k early
    where
      earlier : (k : ℕ) → start_of s log k ≤ max_time → start_of s log (pred k) ≤ max_time
      earlier zero h = h
      earlier (suc i) h = omega (arith, next_start s log i)
