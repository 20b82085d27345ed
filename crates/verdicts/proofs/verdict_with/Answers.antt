-- `verdicts::verdict_with` meets its contract: the verdict by the periods and jitters of those above is the definition's. Assumes
-- nothing.
use mathlib.Core.Path.{ap, ◌∙◌}
use Rattle.model.proofs.Sheet.ValidSheet.{valid_fits}
use Rattle.verdicts.specs.Periods.{higher_periods, higher_jitters}
use Rattle.verdicts.proofs.Periods.{verdict_lists}
use Rattle.verdicts.proofs.InRange.{above_ranges, timing_ranges, stream_ranges}
use Rattle.verdicts.proofs.verdict_with.Goals as goal

pub verdict_by-requires : goal.verdict_by-requires
verdict_by-requires c =
    let a = c.args in
    let p = c.requires in
    let s = a.sheet.now in
    let fits = valid_fits s p.0 in
    let stream = c.stream_of-stream in (
      rw (c.higher_streams-n.ensures.periods, c.higher_streams-n.ensures.jitters) (above_ranges s a.k stream.result fits p.1.node_from p.1.node_to),
      rw c.timing_with-timing.ensures (timing_ranges s a.cycle a.budget fits p.2),
      rw stream.ensures (stream_ranges s a.k a.j fits p.1),
    )

pub returns : goal.returns
returns c =
    let a = c.args in
    let s = a.sheet.now in
    let stream = c.stream_of-stream.ensures in
    verdict_lists s a.cycle a.budget a.k a.j
    (c.higher_streams-n.ensures.periods ∙ ap (higher_periods s a.k) stream)
    (c.higher_streams-n.ensures.jitters ∙ ap (higher_jitters s a.k) stream)
    c.timing_with-timing.ensures
    stream
    c.verdict_by.ensures
