-- `trace::run_log` meets its contract: the rest of the run and of its words from here makes the whole, whether one turn is run or a stretch
-- of silent ones is passed. Each moves the clock, so what is left to the horizon falls. Assumes nothing.
use Prim.Native.Nat.{◌+◌, ◌≤◌}
use native.Mathlib.Omega.{arith}
use mathlib.Core.Path.{◌≡◌, ◌∙◌}
use lib.ListN.{length}
use Rattle.model.specs.Sheet.{slot_ticks}
use Rattle.model.specs.Protocol.{releases, serve_turn, next_bus}
use Rattle.model.proofs.Sheet.ValidSheet.{valid_fits}
use Rattle.model.proofs.Protocol.Idle.{silent_before}
use Rattle.model.proofs.Protocol.TurnCount.{begun_most}
use Rattle.queue.specs.Queue.{FirstUnbegun}
use Rattle.turns.proofs.TurnSteps.{clock_moves}
use Rattle.runs.proofs.RunSteps.{moved_on, running_done}
use Rattle.progress.specs.declared.Progress.{Progress}
use Rattle.trace.proofs.Tracing.{tracing_idle, tracing_turn, tracing_done}
use Rattle.trace.proofs.run_log.Goals as goal

pub loop-p-smaller-then-p-until : goal.loop-p-smaller-then-p-until
loop-p-smaller-then-p-until c =
    let s = c.args.sheet.now in
    let here = c.loop-p in
    let slot = (valid_fits s here.invariant.1.running.node.valid).header.slot_from in
    let silent = silent_before (slot_ticks s) here.p.bus.tick c.next_due-until.result slot c.if-p-until.true in
    rw c.pass_idle-p.ensures (omega (arith, silent.some, silent.few, c.loop-p-test.true))

pub loop-p-preserved-then-p-until : goal.loop-p-preserved-then-p-until
loop-p-preserved-then-p-until c =
    let a = c.args in
    let here = c.loop-p.invariant in
    let due = c.next_due-until.ensures in
    let arrived = c.arrived_by.ensures in
    let next = c.next_unbegun.ensures in
    let first : FirstUnbegun a.log.now c.loop-p.begins c.next_unbegun.result = moved_on here.1.running.begun (omega (arith, next.range.1, here.1.running.from_in_log)) next.begun next.unbegun in (
      here.0,
      rw c.pass_idle-p.ensures
          (tracing_idle a.sheet.now a.log.now a.numbers.now a.held a.horizon first arrived.arrived (omega (arith, here.1.held_to, arrived.more)) c.if-p-until.true due.range (due.quiet c.if-p-until.true) here.1),
    )

pub loop-p-smaller : goal.loop-p-smaller
loop-p-smaller c =
    let a = c.args in
    let here = c.loop-p in
    let moves = clock_moves here.p.bus (serve_turn a.sheet.now a.log.now here.p.bus here.begins).taken here.invariant.1.running.node in
    rw c.run_turn-p.ensures.next.0 (omega (arith, moves, c.loop-p-test.true))

pub loop-p-preserved : goal.loop-p-preserved
loop-p-preserved c =
    let a = c.args in
    let pre = c.requires in
    let here = c.loop-p in
    let arrived = c.arrived_by.ensures in
    let next = c.next_unbegun.ensures in
    let first : FirstUnbegun a.log.now here.begins c.next_unbegun.result = moved_on here.invariant.1.running.begun (omega (arith, next.range.1, here.invariant.1.running.from_in_log)) next.begun next.unbegun in
    let fits : releases a.log.now ≤ length here.begins = omega (arith, pre.log_in_bounds.0, here.invariant.1.running.same_length) in
    let is = c.run_turn-p.ensures in
    -- the progress after the turn, field by field
    let after : ◌≡◌ {A = Progress} c.run_turn-p.result
    (record {
      bus = next_bus a.sheet.now here.p.bus (serve_turn a.sheet.now a.log.now here.p.bus here.begins).taken;
      from = c.next_unbegun.result;
      to = c.arrived_by.result;
      begun = here.p.begun + (serve_turn a.sheet.now a.log.now here.p.bus here.begins).taken;
    }) = λ i. record { bus = is.next.0 i; from = is.next.1 i; to = is.next.2 i; begun = is.begun i } in (
      c.run_turn-p.auto.found ∙ here.invariant.0,
      rw (after, is.begins, is.listed)
          (tracing_turn a.sheet.now a.log.now a.numbers.now a.held a.horizon c.loop-p-test.true pre.valid_node.2 fits (omega (arith, pre.log_in_bounds.2, here.invariant.1.same_room)) first arrived.arrived (omega (arith, here.invariant.1.held_to, arrived.more)) here.invariant.1),
    )

pub returns : goal.returns
returns c =
    let a = c.args in
    let here = c.loop-p.invariant.1 in
    let ended = running_done a.sheet.now a.log.now a.horizon c.loop-p-test.false here.running in
    let told = tracing_done a.sheet.now a.log.now a.numbers.now a.held a.horizon c.loop-p-test.false (omega (arith, c.requires.log_in_bounds.2, here.same_room)) here in
    let few = begun_most c.loop-p.begins (releases a.log.now) in
    record {
      «record» = ended.0;
      begins = ended.1;
      begun = (told.0, omega (arith, few, here.counted));
      listed = told.1;
    }
