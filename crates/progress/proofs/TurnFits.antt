-- A turn's messages have room: with those begun before they are not more than the releases of the log. Assumes nothing.
use Prim.Native.Nat.{ℕ, ◌+◌, ◌*◌, ◌≤◌}
use mathlib.Core.List.{List}
use native.Mathlib.Nat.{mul-le-mul}
use native.Mathlib.Omega.{arith}
use lib.ListN.{length}
use Rattle.model.specs.declared.Bus.{Bus}
use Rattle.model.specs.Limits.{max_time, max_budget, max_slot_ticks}
use Rattle.model.specs.Sheet.{message_ticks, budget}
use Rattle.model.specs.Protocol.{releases, serve_turn}
use Rattle.model.specs.Trace.{begun_below}
use Rattle.model.proofs.Sheet.ValidSheet.{valid_fits}
use Rattle.model.proofs.Protocol.TurnCount.{serve-counted, begun_most}
use Rattle.queue.specs.Queue.{ValidNode}
use Rattle.turns.proofs.TurnSteps.{few_sent, taken_few}

-- What holds of the number of messages that a turn takes, where so many have begun before it.
pub record TurnFits (s log : List ℕ) (bus : Bus) (begins : List ℕ) (begun : ℕ) : Type 0 where
  pub few : (serve_turn s log bus begins).taken ≤ max_budget
  pub counted : begun + (serve_turn s log bus begins).taken ≤ begun_below (serve_turn s log bus begins).begins (releases log)
  pub in_log : begun + (serve_turn s log bus begins).taken ≤ releases log

pub turn_fits : (s log : List ℕ) (bus : Bus) (begins : List ℕ) (begun : ℕ)
    → ValidNode s bus.node
    → bus.tick ≤ max_time
    → releases log ≤ length begins
    → begun ≤ begun_below begins (releases log)
    → TurnFits s log bus begins begun
turn_fits s log bus begins begun node early fits so_far =
    let message = (valid_fits s node.valid).header.message_to in
    let sent : budget s bus.node * message_ticks s ≤ max_budget * max_slot_ticks = mul-le-mul (few_sent s bus.node node) message in
    let more = serve-counted s log bus.node bus.tick (budget s bus.node) begins fits (omega (arith, sent)) in
    let most = begun_most (serve_turn s log bus begins).begins (releases log) in
    record { few = taken_few s log bus begins node; counted = omega (arith, more); in_log = omega (arith, more, most) }
