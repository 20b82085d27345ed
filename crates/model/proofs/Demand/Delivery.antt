-- Every message of a stream with a listed wait is delivered by its deadline, which runs from its event: it is queued within the jitter
-- of that, the turn that takes it starts within J cycles of its queuing and is over after its node's longest turn at most. Assumes nothing.
use Prim.Native.Nat.{ℕ, suc, ◌+◌, ◌-◌, ◌*◌, ◌≤◌, ◌<◌}
use mathlib.Core.Path.{◌≡◌, sym, ◌∙◌}
use mathlib.Core.List.{List}
use native.Mathlib.Omega.{arith}
use native.Mathlib.Nat.{mul-le-mul_right}
use borrow.Author.Tests.{eqb-true}
use Rattle.model.specs.Sheet.{word, message_ticks, cycle, deadline, jitter, running_number}
use Rattle.model.specs.Analysis.{stream_of, timing_of}
use Rattle.model.specs.Protocol.{releases, release_tick, release_stream, EventsFit, state_at, start_of, node_of}
use Rattle.model.specs.Demand.{Premises, DueBefore, DeliveredBy}
use Rattle.model.proofs.Analysis.Wait.{in_time_delivered}
use Rattle.model.proofs.Protocol.Clock.{turn_most}
use Rattle.model.proofs.Demand.Accepted.{Replay}
use Rattle.model.proofs.Demand.Distance.{turn_ticks}
use Rattle.model.proofs.Demand.TurnMessages.{InTurn, gets_tick, within_turn}
use Rattle.model.proofs.Demand.WithinWait.{cycles_within, BeganInReplay, listed_wait, begun_in_time}

-- A turn of node k takes the most ticks of a turn of that node at most.
turn_ends : (s log : List ℕ) (k t : ℕ) → node_of s log t ≡ k → start_of s log (suc t) ≤ start_of s log t + turn_ticks s k
unfolding state_at
turn_ends s log k t same = let most = rw same at (turn_most s log (state_at s log t)) in omega arith

-- A message whose event plus deadline is at or before a tick, and that tick before the horizon, is delivered by then. (That its own ticks,
-- too, are within the turn is not asked here; a weaker delivery would be met by it, and fall at its use.)
pub delivered_in_time : {s log : List ℕ} {horizon turns k j wait J : ℕ}
    → Replay s log horizon turns
    → Premises s log k j wait J
    → (latest : ℕ → ℕ)
    → EventsFit s log k j latest
    → (i tick : ℕ)
    → i < releases log
    → release_stream log i ≡ running_number s k j
    → latest i + deadline s k j ≤ tick + jitter s k j
    → tick < horizon
    → DeliveredBy s log (state_at s log turns).begins i tick
delivered_in_time {s} {log} {horizon} {turns} {k} {j} {J} r p latest fit i tick in_log of_stream due in_time =
    record {
      turn = b.turn;
      begins = (within_turn s log (state_at s log turns).begins b.turn i).1 (rw b.still in_turn_lem);
      over =
          omega (
            arith,
            b.starts,
            turn_ends s log k b.turn (eqb-true (node_of s log b.turn) k b.own),
            in_time_delivered (timing_of s k) (stream_of s k j) J (listed_wait r p).in_time,
            queued,
            due,
            b.still,
            b.took.word,
            mul-le-mul_right (message_ticks s) b.in_budget,
          );
    }
  where
    queued : release_tick log i ≤ latest i
    queued = omega (arith, fit.not_after i in_log of_stream)

    cycles : jitter s k j + J * cycle s ≤ deadline s k j
    cycles = cycles_within r.fits p.on_sheet (listed_wait r p)

    -- from its queuing on it has the deadline less the jitter at least
    left : DueBefore s log horizon k j (deadline s k j - jitter s k j) i
    left = record { in_log = in_log; of_stream = of_stream; in_time = omega (arith, queued, cycles, due, in_time) }

    b : BeganInReplay s log k j J turns i
    b = begun_in_time r p (deadline s k j - jitter s k j) i (omega (arith, cycles)) left

    in_turn_lem : InTurn s log b.turn (word (state_at s log (suc b.turn)).begins i)
    in_turn_lem = gets_tick r b.turn i b.earlier (λ same. b.took.begun (sym same ∙ b.took.waited.unbegun))
