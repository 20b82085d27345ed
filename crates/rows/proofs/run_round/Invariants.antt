-- `rows::run_round` meets its contract: the row of checks that is left equals the whole, the nodes up to the present one are judged, and the
-- copy is raised up to there. Assumes nothing.
use Prim.Native.Nat.{◌+◌}
use mathlib.Core.Path.{◌≡◌}
use Rattle.model.specs.Sheet.{word, nodes}
use Rattle.model.proofs.Sheet.Refusals.{rest}
use Rattle.rounds.specs.Rounds.{raised_budget, full_refusal, stuck_refusal}
use Rattle.rounds.proofs.Rows.{Making}
use Rattle.rows.proofs.Judging.{JudgedTo}
use Rattle.rows.proofs.run_round.Given as goal

abbrev pub invariant-loop-i : goal.invariant-loop-i
invariant-loop-i l =
    record {
      passed : rest (full_refusal l.sheet l.row) l.i (nodes l.sheet) ≡ stuck_refusal l.sheet l.row;
      judged : JudgedTo l.sheet l.row l.i l.late;
      raised : Making (λ p. raised_budget l.sheet l.row (1 + p)) (word l.row) l.i l.next;
    }
