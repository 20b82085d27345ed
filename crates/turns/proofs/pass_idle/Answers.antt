-- `turns::pass_idle` meets its contract: the record's fields are those of the definition, and the silent turns end soon after
-- the tick that they go up to, so that all fit. Assumes nothing.
use Prim.Native.Nat.{ℕ, ◌+◌, ◌*◌, ◌≤◌}
use mathlib.Core.Path.{ap}
use native.Mathlib.Omega.{arith}
use Rattle.model.proofs.Sheet.ValidSheet.{valid_fits}
use Rattle.turns.proofs.pass_idle.Goals as goal
use Rattle.turns.proofs.pass_idle.Lts as lts
use Rattle.turns.proofs.pass_idle.Tie as tie
use Rattle.turns.proofs.pass_idle.Reads as reads

-- there is a node, and the last silent turn ends not long after the largest tick
record Soon (tick turns node nodes slot k : ℕ) : Type 0 where
  some : 1 ≤ nodes
  tick_to : tick + k * slot ≤ 1_000_010_000
  turns_to : turns + k ≤ 2_000_010_000
  node_to : node + k ≤ 1_000_010_016

soon : (c : lts.After-silent_turns tie.the-claims reads.Pre reads.Post tie.handed_clauses)
    → Soon c.args.bus.tick c.args.bus.turns c.args.bus.node c.args.header.nodes c.args.header.slot c.silent_turns-turns.result
soon c =
    let p = c.requires in
    let h = (valid_fits c.args.sheet.now p.valid_node.0.valid).header in
    let before = c.silent_turns-turns.ensures.before in
    let slot : c.args.header.slot ≤ 10_000 = omega (arith, ap (λ h. h.slot) p.valid_node.1, h.slot_to) in
    record {
      some = omega (arith, ap (λ h. h.nodes) p.valid_node.1, h.nodes_from);
      tick_to = omega (arith, before.last, p.tick_lt_until.1, slot);
      turns_to = omega (arith, before.last, before.few, p.tick_lt_until.1, p.tick_lt_until.2, slot);
      node_to = omega (arith, before.last, before.few, p.tick_lt_until.1, p.valid_node.0.up_to, h.nodes_to, slot);
    }

pub silent_turns-turns-requires : goal.silent_turns-turns-requires
silent_turns-turns-requires c =
    let p = c.requires in
    let h = (valid_fits c.args.sheet.now p.valid_node.0.valid).header in
    let slot = ap (λ h. h.slot) p.valid_node.1 in
    (omega (arith, slot, h.slot_from), omega (arith, slot, h.slot_to), p.tick_lt_until.0, p.tick_lt_until.1)

pub overflow_add-result : goal.overflow_add-result
overflow_add-result c = omega (arith, (soon c.before.before.before).tick_to)

pub overflow_add-result-2 : goal.overflow_add-result-2
overflow_add-result-2 c = omega (arith, (soon c.before.before.before.before).node_to)
