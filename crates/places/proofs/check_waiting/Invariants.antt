-- `places::check_waiting` meets its contract: what is left of the row of checks equals the whole. Assumes nothing.
use mathlib.Core.Path.{◌≡◌}
use Rattle.model.specs.Refusal.{first_of}
use Rattle.model.specs.Sheet.{total_streams}
use Rattle.model.specs.Answers.{waiting_refusal}
use Rattle.model.proofs.Sheet.Refusals.{rest}
use Rattle.places.proofs.check_waiting.Given as goal

abbrev pub invariant-loop-i : goal.invariant-loop-i
invariant-loop-i l =
    (l.total ≡ total_streams l.sheet) × (rest (waiting_refusal l.sheet l.streams) l.i l.waiting ≡ first_of (waiting_refusal l.sheet l.streams) 1 l.waiting)
