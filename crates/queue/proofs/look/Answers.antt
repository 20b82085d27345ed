-- `queue::look` meets its contract: at each release those found are the first ones of the queue of the releases before, and the release
-- itself has not begun. Assumes nothing.
use native.Mathlib.Omega.{arith}
use mathlib.Core.Path.{refl, sym, ap, ◌∙◌}
use Rattle.model.proofs.Protocol.Waiting.{waiting_begun}
use Rattle.ordering.specs.Ordering.{streams_as}
use Rattle.queue.proofs.Search.{look_start, look_on, look_next, look_end, look_found}
use Rattle.queue.proofs.look.Goals as goal

pub loop-i-init : goal.loop-i-init
loop-i-init c =
    let a = c.args in
    let pre = c.requires in
    let first = pre.first_unbegun.0 in
    (omega (arith, first.in_log, pre.first_unbegun.1.in_log), λ early. first.unbegun (omega (arith, pre.first_unbegun.1.in_log)), refl, look_start a.found.now first.begun)

pub look_at-count-requires : goal.look_at-count-requires
look_at-count-requires c =
    let pre = c.requires in
    let l = c.loop-i in
    let streams = c.streams_of-streams.ensures in
    let most = ap (λ r. r.budget) streams in record {
      streams_value = (streams ∙ sym (ap (λ k. streams_as c.args.sheet.now k) (ap (λ r. r.node) streams)), omega (arith, c.loop-i-test.true, pre.first_unbegun.1.in_log), rw (ap (λ r. r.node) streams) (look_found l.invariant.3), rw (ap (λ r. r.node) streams) pre.valid_node.0);
      count_le_most = (omega (arith, most, l.invariant.3.few), omega (arith, most, pre.valid_node.2, l.invariant.2));
    }

pub loop-i-preserved : goal.loop-i-preserved
loop-i-preserved c =
    let pre = c.requires in
    let a = c.args in
    let l = c.loop-i in
    let next = c.next_unbegun-i.ensures in
    let found = c.look_at-count.ensures in
    let streams = c.streams_of-streams.ensures in
    let most = ap (λ r. r.budget) streams in
    let arrived = pre.first_unbegun.1 in
    let early = c.loop-i-test.true in
    let line = rw (ap (λ r. r.node) streams, most) at found.1 in
    let here = look_next {next = c.look_at-count.result} {after = c.look_at-count.new.found} (omega (arith, arrived.in_log, early)) (l.invariant.1 early) (omega (arith, found.0, most)) line l.invariant.3 in (
      omega (arith, next.range.1, arrived.in_log),
      next.unbegun,
      c.look_at-count.auto.found ∙ l.invariant.2,
      look_on next.range.0 (λ n low high. waiting_begun a.sheet.now a.log.now a.node a.tick a.room.now n (next.begun n low high)) here,
    )

pub returns : goal.returns
returns c =
    let l = c.loop-i in
    (l.invariant.3.few, look_end c.requires.first_unbegun.1 c.loop-i-test.false l.invariant.0 l.invariant.3)
