-- `pieces::check::check_checkpoint` meets its contract: where the counts are not refused, there is a place for each waiting message.
-- Assumes nothing.
use Rattle.std.proofs.Common.{rules}
use Rattle.std.proofs.lemmas.Bool.Decides.{nat_tests}
use Rattle.model.specs.Refusal.{refuse_if}
use Rattle.pieces.proofs.check.check_checkpoint.Goals as goal

pub check_waiting-requires : goal.check_waiting-requires
unfolding refuse_if
check_waiting-requires c = grind (rules, nat_tests, c.in_ok-refuse_if-2.ensures, c.counts_are_wrong.ensures, c.wide.ensures, c.well_formed)
