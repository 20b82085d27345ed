-- `pieces::hold_unbegun` meets its contract: the record holds those of the releases passed that have not begun. Assumes nothing.
use mathlib.Core.Path.{◌≡◌}
use Rattle.pieces.proofs.Keeping.{held_below}
use Rattle.pieces.proofs.hold_unbegun.Given as goal

abbrev pub invariant-loop-i : goal.invariant-loop-i
invariant-loop-i l = l.c ≡ held_below l.initial.c l.log l.numbers l.begins l.i
