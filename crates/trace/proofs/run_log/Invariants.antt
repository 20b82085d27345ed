-- `trace::run_log` meets its contract: the rest of the run and of its words from here makes the whole, whether one turn is run or a stretch
-- of silent ones is passed. Each moves the clock, so what is left to the horizon falls. Assumes nothing.
use Prim.Native.Nat.{◌+◌, ◌-◌}
use mathlib.Core.Path.{◌≡◌}
use lib.ListN.{length}
use Rattle.trace.proofs.Tracing.{Tracing}
use Rattle.trace.proofs.run_log.Given as goal

abbrev pub invariant-loop-p : goal.invariant-loop-p
invariant-loop-p l =
    (length l.found ≡ length l.initial.found) × Tracing l.sheet l.log l.numbers l.held l.horizon l.initial.p.bus l.initial.begins l.initial.room l.begins l.room l.p

abbrev pub decreases-loop-p : goal.decreases-loop-p
decreases-loop-p l = l.horizon + 1 - l.p.bus.tick
