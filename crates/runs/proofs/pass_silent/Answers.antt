-- `runs::pass_silent` meets its contract: while a message waits, or at the horizon, nothing is passed; else the turns up to the next
-- release are silent. Assumes nothing.
use Prim.Native.Nat.{◌≤◌}
use native.Mathlib.Omega.{arith}
use Rattle.queue.specs.Queue.{FirstUnbegun}
use Rattle.runs.proofs.RunSteps.{moved_on, quiet_front, passed_idle, ahead_passed}
use Rattle.runs.proofs.pass_silent.Goals as goal
use Rattle.runs.proofs.pass_silent.Lts as lts
use Rattle.runs.proofs.pass_silent.Tie as tie
use Rattle.runs.proofs.pass_silent.Reads as reads

-- the starting place: all before it have begun, and the one there has not
starting : (c : lts.After-arrived_by tie.the-claims reads.Pre reads.Post tie.handed_clauses)
    → FirstUnbegun c.args.log.now c.args.room.now c.next_unbegun-from.result
starting c =
    let pre = c.requires in
    let next = c.next_unbegun-from.ensures in
    moved_on pre.from_bound.2 next.range.1 next.begun next.unbegun

pub returns : goal.returns
returns c =
    let a = c.args in
    let pre = c.requires in
    let event = c.next_event-until.ensures in
    let first = starting c.before.before.before.before.before.before.before in
    let passed_all : c.arrived_by-to.result ≤ c.next_unbegun-from.result = omega arith in
    let quiet = quiet_front first passed_all event in
    let passed = passed_idle a.sheet.now a.log.now a.horizon a.run.bus pre.valid_node.0 pre.from_bound.3 event.later event.in_run quiet in
    ahead_passed a.sheet.now a.log.now a.horizon (rw c.pass_idle-next.ensures passed) first c.arrived_by-due.ensures.arrived
