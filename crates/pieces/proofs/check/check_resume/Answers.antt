-- `pieces::check::check_resume` meets its contract: what the record and the piece passed bounds their counts. Assumes nothing.
use native.Mathlib.Omega.{arith}
use mathlib.Core.Path.{ap, sym}
use Rattle.pieces.proofs.Taken.{counts_taken, piece_fits}
use Rattle.pieces.proofs.check.check_resume.Goals as goal

pub check_space-requires : goal.check_space-requires
check_space-requires c =
    let a = c.args in
    let counts = counts_taken a.sheet.now a.c (sym (ap (λ a. a.number) c.in_ok-check_checkpoint.ensures)) in
    let own = piece_fits a.sheet.now a.c a.piece.now a.horizon (sym (ap (λ a. a.number) c.in_ok-check_piece.ensures)) in
    (omega (arith, c.wide.ensures.0, counts.1), omega (arith, own.few))
