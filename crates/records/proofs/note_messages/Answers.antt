-- The loop of `records::note_messages` notes one message more, and at its end all have been noted. Assumes nothing.
use Rattle.std.proofs.Common.{◌+◌, sym, ap, ◌∙◌, subst}
use Rattle.records.specs.Noting.{noted_in}
use Rattle.records.proofs.NotingSteps.{NotingAt, noting_goes_on, noting_ends}
use Rattle.records.proofs.note_messages.Goals as goal

pub loop-j-preserved : goal.loop-j-preserved
loop-j-preserved c =
    let a = c.args in
    let i = c.loop-j in
    subst (NotingAt a.log.now a.limits.now a.message a.tick a.places.now a.count a.records.now (i.j + 1))
    (sym (c.note_begin.ensures ∙ ap (noted_in i.records) c.note_of-begun.ensures))
    (noting_goes_on a.log.now a.limits.now a.message a.tick a.places.now a.count a.records.now i.j i.records i.invariant c.requires.count_le_max_budget.1 c.loop-j-test.true)

pub returns : goal.returns
returns c =
    let a = c.args in
    let i = c.loop-j in
    noting_ends a.log.now a.limits.now a.message a.tick a.places.now a.count a.records.now i.j i.records i.invariant c.requires.count_le_max_budget.1 c.loop-j-test.false
