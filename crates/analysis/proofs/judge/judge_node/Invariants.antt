-- `analysis::judge::judge_node` meets its contract: what is left of the row of checks equals the whole, and so do the waits listed and those
-- that are left.
-- Assumes nothing.
use mathlib.Core.Path.{◌≡◌}
use mathlib.Core.List.{◌++◌}
use lib.ListN.{length, take}
use Rattle.model.specs.Answers.{node_late_refusal, waits_from}
use Rattle.model.proofs.Sheet.Refusals.{rest}
use Rattle.model.proofs.Answers.ListedWaits.{late_at, waits_left}
use Rattle.analysis.proofs.judge.judge_node.Given as goal

abbrev pub invariant-loop-i : goal.invariant-loop-i
invariant-loop-i l =
    (length l.waits ≡ length l.initial.waits)
    × (rest (late_at l.sheet l.k) l.i l.count ≡ node_late_refusal l.sheet l.k)
    × (take l.i l.waits ++ waits_left l.sheet l.k l.i l.count ≡ waits_from l.sheet l.k 1 l.count)
