-- `parts::write_body` meets its contract: the streams passed stand at the front of the part, the rest is as it was. The words of the
-- next go into the part that is lent from there on. Assumes nothing.
use mathlib.Core.Path.{◌≡◌}
use Rattle.theory.specs.Listing.{replaced_at}
use Rattle.tables.specs.Writing.{body_of}
use Rattle.parts.proofs.write_body.Given as goal

abbrev pub invariant-loop-i : goal.invariant-loop-i
invariant-loop-i l = l.body ≡ replaced_at l.initial.body 0 (body_of l.tables.periods.now l.tables.deadlines.now l.tables.jitters.now l.before l.i)
