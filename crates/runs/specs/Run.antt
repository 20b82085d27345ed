-- What the contracts of the run cite. Assumes nothing.
use Rattle.std.specs.Prelude.{ℕ, ◌+◌, ◌≤◌, ◌≡◌, List, take}
use Rattle.model.specs.declared.Bus.{Bus}
use Rattle.model.specs.Limits.{max_time}
use Rattle.model.specs.Protocol.{releases, State, run}
use Rattle.queue.specs.Queue.{ValidNode, Arrived, FirstUnbegun}
use Rattle.runs.specs.declared.Position.{Position}

-- The bus between two turns, with the begin words in the front of a buffer.
abbrev pub state_in : List ℕ → Bus → List ℕ → State
state_in log bus room = record { bus = bus; begins = take (releases log) room }

-- A run at this record ends as one at that position does, which is not before it. There, the search of a turn can start.
pub record Ahead (s log : List ℕ) (horizon : ℕ) (room : List ℕ) (bus : Bus) (at : Position) : Type 0 where
  pub same : run s log horizon horizon (state_in log at.bus room) ≡ run s log horizon horizon (state_in log bus room)
  pub node : ValidNode s at.bus.node
  pub turns_to : at.bus.turns ≤ max_time + at.bus.tick
  pub clock : bus.tick ≤ at.bus.tick
  pub first : FirstUnbegun log room at.from
  pub arrived : Arrived log at.bus.tick at.to
