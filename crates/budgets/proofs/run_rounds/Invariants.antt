-- `budgets::run_rounds` meets its contract: the rounds from the present row on end where all of them do, and the room is as it was.
-- Assumes nothing.
use Prim.Native.Nat.{◌-◌, ◌+◌, ◌*◌}
use mathlib.Core.Path.{◌≡◌}
use Rattle.model.specs.Limits.{max_budget}
use Rattle.model.specs.Sheet.{nodes}
use Rattle.rounds.specs.Rounds.{row_sum}
use Rattle.budgets.proofs.Running.{Running}
use Rattle.budgets.proofs.run_rounds.Given as goal

abbrev pub invariant-loop-node : goal.invariant-loop-node
invariant-loop-node l = (l.room ≡ l.initial.room) × Running l.sheet l.row

abbrev pub decreases-loop-node : goal.decreases-loop-node
decreases-loop-node l = nodes l.sheet * max_budget + 1 - row_sum l.sheet l.row
