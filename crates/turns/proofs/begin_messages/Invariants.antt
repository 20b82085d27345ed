-- `turns::begin_messages` meets its contract: what is left to begin from here makes the whole. Assumes nothing.
use Rattle.std.proofs.Common.{◌≡◌, ◌+◌, ◌≤◌, ◌*◌, drop, take}
use Rattle.model.specs.Limits.{max_slot_ticks}
use Rattle.model.specs.Protocol.{begins_from}
use Rattle.turns.proofs.begin_messages.Given as goal

abbrev pub invariant-loop-at : goal.invariant-loop-at
invariant-loop-at l = record {
  bound : l.begin ≤ l.tick + l.at-index * max_slot_ticks;
  rest : begins_from l.message l.begin (drop l.at-index l.at-items) l.room ≡ begins_from l.message l.tick (take l.count l.places) l.initial.room;
}
