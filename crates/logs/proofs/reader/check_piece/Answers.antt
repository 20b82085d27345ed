-- `logs::reader::check_piece` meets its contract: a piece that passes the second check has few enough releases. Assumes nothing.
use Rattle.std.proofs.Common.{rules}
use Rattle.std.proofs.lemmas.Bool.Decides.{nat_tests}
use Rattle.model.specs.Refusal.{refuse_if}
use Rattle.logs.proofs.reader.check_piece.Goals as goal

pub check_releases-requires : goal.check_releases-requires
unfolding refuse_if
check_releases-requires c = grind (rules, nat_tests, c.in_ok-refuse_if-2.ensures, c.wide.ensures)
