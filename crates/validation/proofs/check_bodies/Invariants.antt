-- `validation::check_bodies` meets its contract: what is left of the row of checks equals the whole, and the streams passed are those of the
-- nodes passed. Assumes nothing.
use Prim.Native.Nat.{◌≤◌, ◌*◌}
use mathlib.Core.Path.{◌≡◌}
use Rattle.model.specs.Refusal.{first_of}
use Rattle.model.proofs.Sheet.Refusals.{rest}
use Rattle.tables.specs.Tables.{sum_up_to}
use Rattle.tables.specs.Writing.{table_body_refusal}
use Rattle.validation.proofs.check_bodies.Given as goal

abbrev pub invariant-loop-i : goal.invariant-loop-i
invariant-loop-i l =
    let t = l.tables in
    let body = table_body_refusal t.counts.now t.periods.now t.deadlines.now t.jitters.now in
    (l.before ≡ sum_up_to t.counts.now l.i)
    × (l.before ≤ 4294967295 * l.i)
    × (rest body l.i l.n ≡ first_of body 1 l.n)
