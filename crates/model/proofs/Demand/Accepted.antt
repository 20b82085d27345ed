-- What an accepted replay gives: the sheet is in range, the turns are those before the horizon, and each of them is over well before
-- the tick that is the word for "not begun". Assumes nothing.
use Prim.Native.Nat.{ℕ, suc, ◌+◌, ◌*◌, ◌<◌}
use mathlib.Core.List.{List}
use native.Mathlib.Omega.{arith}
use Rattle.model.specs.Limits.{not_begun}
use Rattle.model.specs.Sheet.{message_ticks}
use Rattle.model.specs.Protocol.{start_of, TurnsBefore, replayed}
use Rattle.model.specs.Demand.{Accepts}
use Rattle.model.proofs.Sheet.ValidSheet.{SheetFits, valid_fits}
use Rattle.model.proofs.Answers.NotRefused.{replay_accepted}
use Rattle.model.proofs.Protocol.Clock.{taken_in, next_start, turn_longest}
use Rattle.model.proofs.Protocol.Run.{replayed_turns}

-- A replay of so many turns up to a horizon, on a sheet in range. (Of the log it asks nothing.)
pub record Replay (s log : List ℕ) (horizon turns : ℕ) : Type 0 where
  pub fits : SheetFits s
  pub counted : TurnsBefore s log horizon turns
  pub over : (t : ℕ) → t < turns → start_of s log (suc t) < not_begun

-- The last tick at which a message of a turn could begin is before the word for "not begun".
pub begins_early : {s log : List ℕ} {horizon turns : ℕ}
    → Replay s log horizon turns
    → (t : ℕ)
    → t < turns
    → start_of s log t + taken_in s log t * message_ticks s < not_begun
begins_early {s} {log} r t h = omega (arith, r.over t h, next_start s log t)

-- An accepted log and horizon have such a replay.
pub accepted_replay : {s log : List ℕ} {horizon : ℕ}
    → Accepts s log horizon
    → Replay s log horizon (replayed s log horizon).bus.turns
accepted_replay {s} {log} {horizon} accepts =
    let ok = replay_accepted accepts in
    let fits : SheetFits s = valid_fits s ok.valid in
    let header = fits.header in
    let counted = replayed_turns s log horizon header.slot_from in
    let longest = turn_longest s log header.nodes_from header.message_to header.slot_to (λ k a b. (fits.rows k a b).budget_to) in
    record {
      fits = fits;
      counted = counted;
      over = λ t b. omega (arith, ok.horizon_to, counted.started t b, longest t);
    }
