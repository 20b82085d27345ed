-- `verdicts::higher::higher_streams` meets its contract: the body is where the sheet has it, and not too long. Assumes nothing.
use Rattle.model.proofs.Sheet.ValidSheet.{valid_fits}
use Rattle.verdicts.proofs.InRange.{body_there}
use Rattle.verdicts.proofs.higher.higher_streams.Goals as goal

pub collect_above-requires : goal.collect_above-requires
collect_above-requires c =
    let s = c.args.sheet.now in
    let p = c.requires in
    (body_there s _ (valid_fits s p.0) p.1 p.2 c.place_of-body.ensures c.stream_count-count.ensures, p.3, p.4)
