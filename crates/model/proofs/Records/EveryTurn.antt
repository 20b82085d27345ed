-- The list after every turn: with the tick as its horizon at which turn i would start, the replay ends after i turns, and its list is the one
-- worked out afresh from the log and the begins so far. Assumes nothing.
use Prim.Native.Nat.{ℕ, suc, ◌≤◌}
use native.Mathlib.Nat.{le_refl}
use native.Mathlib.Omega.{arith}
use mathlib.Core.Path.{◌≡◌, sym, ◌∙◌, ap}
use mathlib.Core.List.{List, ◌++◌}
use lib.ListN.{length, drop}
use Rattle.model.specs.declared.StreamRecord.{StreamRecord}
use Rattle.model.specs.Sheet.{slot_ticks, total_streams}
use Rattle.model.specs.Protocol.{state_at, start_of, TurnsBefore, replayed}
use Rattle.model.specs.Records.{records_of}
use Rattle.model.specs.Answers.{records_answer, records_list}
use Rattle.model.proofs.Protocol.Clock.{next_start, starts_grow}
use Rattle.model.proofs.Protocol.Run.{replayed_state, replayed_turns, turns_unique}
use Rattle.model.proofs.Answers.Buffer.{buffer_written}
use Rattle.model.proofs.Records.Listed.{records_length}

module _ (s log : List ℕ) (slot : 1 ≤ slot_ticks s) (i : ℕ) where
  turns_to_lem : TurnsBefore s log (start_of s log i) i
  turns_to_lem =
      record {
        started = λ m h. omega (arith, next_start s log m, starts_grow s log (suc m) i h);
        ended = le_refl (start_of s log i);
      }

  pub replayed_up_to : replayed s log (start_of s log i) ≡ state_at s log i
  replayed_up_to =
      replayed_state s log (start_of s log i) slot ∙ ap (state_at s log) (turns_unique (replayed_turns s log (start_of s log i) slot) turns_to_lem)

  pub every_turn : (room : ℕ) (list : List StreamRecord)
      → (records_answer s log (start_of s log i) room (length list)).number ≡ 0
      → records_list s log (start_of s log i) room list ≡ records_of s log (state_at s log i).begins ++ drop (total_streams s) list
  unfolding records_list
  every_turn room list passes =
      sym (buffer_written _ (records_of s log (replayed s log (start_of s log i)).begins) list passes)
      ∙ ap (λ n. records_of s log (replayed s log (start_of s log i)).begins ++ drop n list) (records_length s log (replayed s log (start_of s log i)).begins)
      ∙ ap (λ st. records_of s log st.begins ++ drop (total_streams s) list) replayed_up_to
