-- `budgets::run_rounds` meets its contract: the rounds from the present row on end where all of them do, and the room is as it was.
-- Assumes nothing.
use mathlib.Core.Path.{◌≡◌, refl, sym, ap}
use mathlib.Core.Bool.{true}
use native.Mathlib.Nat.{suc-ne-zero}
use native.Mathlib.Omega.{arith}
use Rattle.model.specs.Refusal.{success, refuse}
use Rattle.model.proofs.Sheet.Refusals.{refused, passed}
use Rattle.model.proofs.Sheet.ValidSheet.{valid_fits}
use Rattle.model.proofs.Answers.Buffer.{buffer_kept}
use Rattle.rounds.specs.Rounds.{row_sum, row_cycle, raised, goes_on, last_row}
use Rattle.rounds.proofs.Settling.{raised_more}
use Rattle.budgets.proofs.Running.{running_first, running_on, running_over, sum_most}
use Rattle.budgets.proofs.run_rounds.Goals as goal
use Rattle.budgets.proofs.run_rounds.Goals.{In-Late}

pub loop-node-init : goal.loop-node-init
loop-node-init c =
    let s = c.args.sheet.now in
    (refl, rw c.first_row-row.ensures (running_first s (valid_fits s c.requires.0).header.nodes_to))

pub returns-in-Stuck : goal.returns-in-Stuck
returns-in-Stuck c =
    let s = c.args.sheet.now in
    let l = c.loop-node in
    let round = c.in-Stuck.ensures in
    let last = running_over s (valid_fits s c.requires.0).header.nodes_to l.row (sym round.late) l.invariant.1 in
    record {
      answer = rw (← last) (refused (success (row_sum s l.row) (row_cycle s l.row)) round.stuck (suc-ne-zero 10));
      buffer = rw (← l.invariant.0) (buffer_kept (refuse 11 c.in-Stuck.node 0) (last_row s) l.room (suc-ne-zero 10));
    }

pub returns-in-Settled : goal.returns-in-Settled
returns-in-Settled c =
    let s = c.args.sheet.now in
    let l = c.loop-node in
    let round = c.in-Settled.ensures in
    let last = running_over s (valid_fits s c.requires.0).header.nodes_to l.row (sym round.late) l.invariant.1 in
    record {
      answer = rw (← last) (passed round.stuck refl c.finish.ensures.answer);
      buffer = rw (← last, ← l.invariant.0) c.finish.ensures.buffer;
    }

-- Where another round is to come, the row is raised.
on : (c : In-Late) → (goes_on c.args.sheet.now c.loop-node.row ≡ true) × (c.run_round.new.next ≡ raised c.args.sheet.now c.loop-node.row)
on c = (sym c.in-Late.ensures.late, c.in-Late.ensures.row refl)

pub loop-node-smaller : goal.loop-node-smaller
loop-node-smaller c =
    let s = c.args.sheet.now in
    let l = c.loop-node in
    let few = (valid_fits s c.requires.0).header.nodes_to in
    let next = on (goal.at.loop-node-smaller c).In-Late in
    omega (arith, ap (row_sum s) next.1, raised_more s few l.row next.0, sum_most s few l.row l.invariant.1)

pub loop-node-preserved : goal.loop-node-preserved
loop-node-preserved c =
    let s = c.args.sheet.now in
    let l = c.loop-node in
    let next = on (goal.at.loop-node-preserved c).In-Late in
    (l.invariant.0, rw next.1 (running_on s (valid_fits s c.requires.0).header.nodes_to l.row next.0 l.invariant.1))
