-- `turns::next_bus` meets its contract: a turn of sixteen longest messages fits, so no sum wraps. Assumes nothing.
use Prim.Native.Nat.{◌*◌, ◌≤◌}
use mathlib.Core.Path.{ap}
use native.Mathlib.Nat.{mul-le-mul}
use native.Mathlib.Omega.{arith}
use Rattle.model.proofs.Sheet.ValidSheet.{valid_fits}
use Rattle.turns.proofs.TurnSteps.{next_record}
use Rattle.turns.proofs.next_bus.Goals as goal
use Rattle.turns.proofs.next_bus.Lts as lts
use Rattle.turns.proofs.next_bus.Tie as tie
use Rattle.turns.proofs.next_bus.Reads as reads

message : (c : lts.Start tie.the-claims reads.Pre reads.Post tie.handed_clauses) → c.args.header.message ≤ 10_000
message c = omega (arith, ap (λ h. h.message) c.requires.valid_node.1, (valid_fits c.args.sheet.now c.requires.valid_node.0.valid).header.message_to)

-- the messages of the turn take at most sixteen longest ones
sent : (c : lts.Start tie.the-claims reads.Pre reads.Post tie.handed_clauses) → c.args.taken * c.args.header.message ≤ 16 * 10_000
sent c = mul-le-mul c.requires.tick_le_max_time.2 (message c)

slot : (c : lts.Start tie.the-claims reads.Pre reads.Post tie.handed_clauses) → c.args.header.slot ≤ 10_000
slot c = omega (arith, ap (λ h. h.slot) c.requires.valid_node.1, (valid_fits c.args.sheet.now c.requires.valid_node.0.valid).header.slot_to)

pub overflow_mul-result : goal.overflow_mul-result
overflow_mul-result c = omega (arith, sent c.before.before.before.before)

pub overflow_add-result : goal.overflow_add-result
overflow_add-result c = omega (arith, sent c.before.before.before.before.before, c.requires.tick_le_max_time.0)

pub overflow_add-result-2 : goal.overflow_add-result-2
overflow_add-result-2 c = omega (arith, sent c.before.before.before.before.before.before, c.requires.tick_le_max_time.0, message c.before.before.before.before.before.before, slot c.before.before.before.before.before.before)

pub returns : goal.returns
returns c =
    let a = c.args in
    let header = c.requires.valid_node.1 in
    next_record a.sheet.now a.bus a.taken c.next_node-node.ensures (ap (λ h. h.message) header) (ap (λ h. h.slot) header)
