-- The messages before place j have been noted. Assumes nothing.
use Rattle.records.proofs.NotingSteps.{NotingAt}
use Rattle.records.proofs.note_messages.Given as goal

abbrev pub invariant-loop-j : goal.invariant-loop-j
invariant-loop-j l = NotingAt l.log l.limits l.message l.tick l.places l.count l.fn.records l.j l.records
