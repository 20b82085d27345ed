-- `pieces::hold_unbegun` meets its contract: the record holds those of the releases passed that have not begun. Assumes nothing.
use native.Mathlib.Omega.{arith}
use mathlib.Core.Path.{◌∙◌}
use Rattle.pieces.proofs.Keeping.{held_next, held_past}
use Rattle.pieces.proofs.hold_unbegun.Goals as goal
use Rattle.pieces.proofs.hold_unbegun.Goals.{then-begin, else-begin}

pub loop-i-preserved : goal.loop-i-preserved
loop-i-preserved c =
    let a = c.args in
    let l = c.loop-i in
    elim c.if-begin.branch [
      | then-begin w ↦ w.c-is ∙ held_next a.start a.log.now a.numbers.now a.begins.now l.i (omega arith) w.if-begin.true l.invariant w.add_release-c.ensures
      | else-begin w ↦ w.c-is ∙ held_past a.start a.log.now a.numbers.now a.begins.now l.i w.if-begin.false l.invariant
    ]
