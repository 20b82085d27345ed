-- Idle time: what the bus is after some silent turns, and how many start before a tick. Derived from
-- specs/Protocol (Rules 2.3 and 5.4): proofs/Protocol/Idle says that the protocol's own turns are these. Assumes nothing.
use Rattle.std.specs.Prelude.{ℕ, suc, pred, ◌+◌, ◌-◌, ◌*◌, ◌/◌, ◌%◌, ◌≤◌, ◌<◌, List}
use Rattle.model.specs.declared.Bus.{Bus}
use Rattle.model.specs.Sheet.{nodes, slot_ticks}

-- The node that is k nodes after one.
abbrev pub node_after : List ℕ → ℕ → ℕ → ℕ
node_after s node k = suc ((pred node + k) % nodes s)

-- The bus record after k silent turns: k protocol slots later, k nodes further.
abbrev pub idle_bus : List ℕ → Bus → ℕ → Bus
idle_bus s bus k =
    record { tick = bus.tick + k * slot_ticks s; node = node_after s bus.node k; turns = bus.turns + k }

-- How many turns start before a tick, if all of them are silent: one each protocol slot.
abbrev pub silent_turns : ℕ → ℕ → ℕ → ℕ
silent_turns slot tick until = (until - tick + slot - 1) / slot

-- What holds of such a number k of turns: there is one at least, and the last of them starts before that tick.
pub record SilentBefore (slot tick until k : ℕ) : Type 0 where
  pub some : 1 ≤ k
  pub few : k ≤ k * slot
  pub last : tick + k * slot < until + slot
