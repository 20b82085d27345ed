-- `analysis::judge::judge_nodes` meets its contract: what is left of the row of checks equals the whole, and so do the waits listed and those
-- that are left. The waits of the next node go into the part of the buffer that is lent from `at` on.
-- Assumes nothing.
use mathlib.Core.Path.{◌≡◌}
use mathlib.Core.List.{◌++◌}
use lib.ListN.{length, take}
use Rattle.model.specs.Refusal.{first_of}
use Rattle.model.specs.Sheet.{streams_up_to}
use Rattle.model.specs.Answers.{node_late_refusal}
use Rattle.model.proofs.Sheet.Refusals.{rest}
use Rattle.model.proofs.Answers.ListedWaits.{node_waits, nodes_left}
use Rattle.analysis.proofs.judge.judge_nodes.Given as goal

abbrev pub invariant-loop-i : goal.invariant-loop-i
invariant-loop-i l =
    (length l.waits ≡ length l.initial.waits)
    × (l.at ≡ streams_up_to l.sheet l.i)
    × (rest (node_late_refusal l.sheet) l.i l.n ≡ first_of (node_late_refusal l.sheet) 1 l.n)
    × (take l.at l.waits ++ nodes_left l.sheet l.i l.n ≡ node_waits l.sheet 1 l.n)
