-- `limits::list_node` meets its contract: the streams are put in rank order, and then passed in it. Assumes nothing.
use Prim.Native.Nat.{◌≤◌}
use mathlib.Core.Path.{◌≡◌, refl, sym, ap}
use native.Mathlib.Omega.{arith}
use lib.ListN.{length, take}
use lib.Seq.{length-take-le}
use Rattle.theory.proofs.Ordering.{ordered_range}
use Rattle.model.specs.Sheet.{stream_count}
use Rattle.model.proofs.Sheet.ValidSheet.{valid_fits}
use Rattle.verdicts.specs.Body.{Body}
use Rattle.verdicts.proofs.InRange.{body_there}
use Rattle.ranking.specs.Ranking.{ranked_before, rank_order}
use Rattle.limits.proofs.Passed.{timing_own}
use Rattle.limits.proofs.list_node.Goals as goal
use Rattle.limits.proofs.list_node.Lts as lts
use Rattle.limits.proofs.list_node.Tie as tie
use Rattle.limits.proofs.list_node.Reads as reads

-- The body of the node, as its row has it.
body : (c : lts.After-row_of tie.the-claims reads.Pre reads.Post tie.handed_clauses) → Body c.args.sheet.now c.args.k c.row_of-row.result.place c.row_of-row.result.streams
body c =
    let a = c.args in
    let p = c.requires in
    let row = c.row_of-row.ensures in
    body_there a.sheet.now a.k (valid_fits a.sheet.now p.0) p.1 p.2 (ap (λ r. r.place) row) (ap (λ r. r.streams) row)

-- It has no more streams than the arrays have words.
few : (c : lts.After-wide tie.the-claims reads.Pre reads.Post tie.handed_clauses) → c.wide-n.result ≤ 16
few c = omega (arith, c.wide-n.ensures.0, (body c.before.before).few)

-- The streams in rank order, as many as there are,
line : (c : lts.After-rank_streams tie.the-claims reads.Pre reads.Post tie.handed_clauses) → take c.wide-n.result c.rank_streams.new.order ≡ rank_order c.args.sheet.now c.args.k
line c = rw c.wide-n.ensures.0 c.rank_streams.ensures

-- and their array, which is not too short for them.
room : (c : lts.After-rank_streams tie.the-claims reads.Pre reads.Post tie.handed_clauses) → c.wide-n.result ≤ length c.rank_streams.new.order
room c = omega (arith, few c.before.before, c.rank_streams.auto.order)

cut : (c : lts.After-rank_streams tie.the-claims reads.Pre reads.Post tie.handed_clauses) → c.wide-n.result ≡ length (take c.wide-n.result c.rank_streams.new.order)
cut c = sym (length-take-le c.wide-n.result c.rank_streams.new.order (room c))

-- The arrays of their periods and jitters are not too short either.
periods-room : (c : lts.After-times_of tie.the-claims reads.Pre reads.Post tie.handed_clauses) → c.wide-n.result ≤ length c.times_of.new.periods
periods-room c = omega (arith, few c.before.before.before.before.before.before.before, c.times_of.auto.periods)

jitters-room : (c : lts.After-times_of tie.the-claims reads.Pre reads.Post tie.handed_clauses) → c.wide-n.result ≤ length c.times_of.new.jitters
jitters-room c = omega (arith, few c.before.before.before.before.before.before.before, c.times_of.auto.jitters)

pub rank_streams-requires : goal.rank_streams-requires
rank_streams-requires c = (body c.before.before.before.before, refl)

pub slice_bounds-order-end : goal.slice_bounds-order-end
slice_bounds-order-end c = room c.before.before

pub slice_bounds-times_of-end : goal.slice_bounds-times_of-end
slice_bounds-times_of-end c = cut c.before.before.before

pub times_of-requires : goal.times_of-requires
times_of-requires c =
    let a = c.args in
    let s = a.sheet.now in
    let own = body c.before.before.before.before.before.before.before.before.before in
    let numbers = ordered_range (ranked_before s a.k) (stream_count s a.k) in
    (own, rw (line c.before.before.before.before.before, own.counted) numbers, omega (arith, cut c.before.before.before.before.before, few c.before.before.before.before.before.before.before), omega (arith, cut c.before.before.before.before.before, few c.before.before.before.before.before.before.before))

pub slice_bounds-order-end-2 : goal.slice_bounds-order-end-2
slice_bounds-order-end-2 c = room c.before.before.before.before.before.before.before.before

pub slice_bounds-list_ranked-end : goal.slice_bounds-list_ranked-end
slice_bounds-list_ranked-end c = cut c.before.before.before.before.before.before.before.before.before

pub slice_bounds-periods-end : goal.slice_bounds-periods-end
slice_bounds-periods-end c = periods-room c.before.before.before.before

pub slice_bounds-list_ranked-end-2 : goal.slice_bounds-list_ranked-end-2
slice_bounds-list_ranked-end-2 c = sym (length-take-le c.wide-n.result c.times_of.new.periods (periods-room c.before.before.before.before.before))

pub slice_bounds-jitters-end : goal.slice_bounds-jitters-end
slice_bounds-jitters-end c = jitters-room c.before.before.before.before.before

pub slice_bounds-list_ranked-end-3 : goal.slice_bounds-list_ranked-end-3
slice_bounds-list_ranked-end-3 c = sym (length-take-le c.wide-n.result c.times_of.new.jitters (jitters-room c.before.before.before.before.before.before))

pub list_ranked-requires : goal.list_ranked-requires
list_ranked-requires c =
    let a = c.args in
    let p = c.requires in
    let s = a.sheet.now in
    let own = body c.before.before.before.before.before.before.before.before.before.before.before.before.before.before.before.before in
    let times = rw (← cut c.before.before.before.before.before.before.before.before.before.before.before.before, line c.before.before.before.before.before.before.before.before.before.before.before.before) at c.times_of.ensures in
    let timing = timing_own s a.k _ c.timing_with-timing.ensures p.3 (ap (λ r. r.budget) c.row_of-row.ensures) in record {
      valid = (p.0, p.1, p.2, own, timing, omega (arith, own.counted, p.4));
      order_value = (line c.before.before.before.before.before.before.before.before.before.before.before.before, times.periods, times.jitters);
    }
