-- `verdicts::verdict_on` meets its contract: the cycle and the budget are the sheet's. Assumes nothing.
use Rattle.model.proofs.Sheet.ValidSheet.{valid_fits}
use Rattle.verdicts.proofs.InRange.{own_shares}
use Rattle.verdicts.proofs.verdict_on.Goals as goal

pub verdict_with-requires : goal.verdict_with-requires
verdict_with-requires c =
    let a = c.args in
    let p = c.requires in
    let s = a.sheet.now in (
      p.0,
      p.1,
      rw (p.2, c.budget_of.ensures) (own_shares s a.k (valid_fits s p.0) p.1.node_from p.1.node_to),
    )
