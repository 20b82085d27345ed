-- `limits::list_ranked` meets its contract: the streams that are passed are those ranked above the next, and their limits stand at their places.
-- Assumes nothing.
use Prim.Native.Nat.{◌<◌}
use mathlib.Core.Path.{◌≡◌, ap, ◌∙◌}
use native.Mathlib.Omega.{arith}
use native.Mathlib.Nat.{le_of_lt}
use lib.ListN.{length, get_or}
use Rattle.theory.proofs.Listing.{map_at}
use Rattle.theory.proofs.Ordering.{ordered_has}
use Rattle.model.specs.Sheet.{stream_count, period, jitter}
use Rattle.model.proofs.Sheet.ValidSheet.{valid_fits}
use Rattle.interference.specs.InRange.{Ranges}
use Rattle.verdicts.proofs.InRange.{own_shares, timing_ranges, stream_ranges}
use Rattle.ranking.specs.Ranking.{ranked_before, rank_order, Numbers}
use Rattle.limits.proofs.Filled.{limit_at, stored_none, stored_more, stored_all}
use Rattle.limits.proofs.Passed.{rank_length, rank_on, limit_passed, passed_ranges, passed_none, passed_next, passed_one, passed_two}
use Rattle.limits.proofs.list_ranked.Goals as goal
use Rattle.limits.proofs.list_ranked.Goals.{In-loop-i}

-- The next stream is one of the node's.
inside : (c : In-loop-i) → c.loop-i.i < stream_count c.args.sheet.now c.args.k
inside c =
    let a = c.args in
    omega (arith, c.loop-i-test.true, ap length c.requires.order_value.0, rank_length a.sheet.now a.k)

-- The line has numbers of the node's streams.
numbers : (c : In-loop-i) → Numbers c.args.order.now c.args.count
numbers c q low =
    let a = c.args in
    let p = c.requires in
    let long = ap length p.order_value.0 in
    let on = rank_on a.sheet.now a.k q p.valid.1 p.valid.2 (omega (arith, low, long, rank_length a.sheet.now a.k)) in
    (rw p.order_value.0 on.stream_from, rw (p.order_value.0, p.valid.3.counted) on.stream_to)

-- and they are its own.
times : (c : In-loop-i)
    → (get_or c.args.periods.now c.loop-i.i 0 ≡ period c.args.sheet.now c.args.k (get_or (rank_order c.args.sheet.now c.args.k) c.loop-i.i 0))
    × (get_or c.args.jitters.now c.loop-i.i 0 ≡ jitter c.args.sheet.now c.args.k (get_or (rank_order c.args.sheet.now c.args.k) c.loop-i.i 0))
times c =
    let a = c.args in
    let p = c.requires in
    let s = a.sheet.now in
    let l = c.loop-i in
    let there : l.i < length (rank_order s a.k) = omega (arith, inside c, rank_length s a.k) in (
      ap (λ words. get_or words l.i 0) p.order_value.1 ∙ map_at (period s a.k) (rank_order s a.k) l.i there,
      ap (λ words. get_or words l.i 0) p.order_value.2 ∙ map_at (jitter s a.k) (rank_order s a.k) l.i there,
    )

-- The timing is in range.
timing-in : (c : In-loop-i) → Ranges c.args.timing
timing-in c =
    let a = c.args in
    let p = c.requires in
    let fits = valid_fits a.sheet.now p.valid.0 in
    rw p.valid.4 (timing_ranges a.sheet.now _ _ fits (own_shares a.sheet.now a.k fits p.valid.1 p.valid.2))

pub loop-i-init : goal.loop-i-init
loop-i-init c =
    let a = c.args in
    let s = a.sheet.now in
    record { passed = passed_none s a.k a.timing.cycle; stored = stored_none (limit_at s a.k) a.limits.now a.order.now a.count }

pub limit_above-limit-requires : goal.limit_above-limit-requires
limit_above-limit-requires c =
    let here = (goal.at.limit_above-limit-requires c).In-loop-i in
    let a = c.args in
    let p = c.requires in
    let s = a.sheet.now in
    let fits = valid_fits s p.valid.0 in
    let l = c.loop-i in
    let there = inside here in
    let number = numbers here l.i c.loop-i-test.true in
    let on = rank_on s a.k l.i p.valid.1 p.valid.2 there in record {
      body = (p.valid.3, number.0, number.1, rw p.order_value.0 (stream_ranges s a.k _ fits on));
      higher_ranges = (
        rw (p.order_value.1, p.order_value.2) (passed_ranges s a.k l.i fits p.valid.1 p.valid.2 there),
        timing-in here,
        rw (p.order_value.1, p.order_value.2) (passed_one s a.k a.timing.cycle l.invariant.passed),
        rw (p.order_value.1, p.order_value.2) (passed_two s a.k a.timing.cycle l.invariant.passed),
      );
    }

pub overflow_sub-limits : goal.overflow_sub-limits
overflow_sub-limits c = omega (arith, c.wide.ensures.0, (numbers (goal.at.overflow_sub-limits c).In-loop-i c.loop-i.i c.loop-i-test.true).0)

-- Its place is in the table.
pub bounds-limits-wide : goal.bounds-limits-wide
bounds-limits-wide c =
    let own = numbers (goal.at.bounds-limits-wide c).In-loop-i c.loop-i.i c.loop-i-test.true in
    omega (arith, c.wide.ensures.0, own.0, own.1, c.loop-i.invariant.stored.long, c.requires.valid.5)

pub with_stream-sums-requires : goal.with_stream-sums-requires
with_stream-sums-requires c =
    let here = (goal.at.with_stream-sums-requires c).In-loop-i in
    let a = c.args in
    let p = c.requires in
    let s = a.sheet.now in
    let fits = valid_fits s p.valid.0 in
    let l = c.loop-i in
    let there = inside here in
    let own = times here in
    let stream = fits.streams a.k _ (rank_on s a.k l.i p.valid.1 p.valid.2 there) in
    let few = (fits.rows a.k p.valid.1 p.valid.2).streams_to in
    let cycle = (timing-in here).shares in (
      omega (arith, own.0, stream.period_from),
      omega (arith, own.1, stream.jitter_below, stream.period_to),
      le_of_lt cycle.cycle_from,
      cycle.cycle_to,
      omega (arith, l.invariant.passed.one_to, there, few),
      omega (arith, l.invariant.passed.two_to, there, few),
    )

pub loop-i-preserved : goal.loop-i-preserved
loop-i-preserved c =
    let here = (goal.at.loop-i-preserved c).In-loop-i in
    let a = c.args in
    let p = c.requires in
    let s = a.sheet.now in
    let l = c.loop-i in
    let there = inside here in
    let own = times here in
    let more = c.with_stream-sums.ensures in
    let found = rw (p.order_value.0, p.order_value.1, p.order_value.2) at c.limit_above-limit.ensures in
    let limit = limit_passed s a.k a.timing l.i p.valid.4 there in
    let value : c.limit_above-limit.result ≡ limit_at s a.k (get_or a.order.now l.i 0) = rw (found, p.order_value.0) limit in
    record {
      passed = passed_next s a.k a.timing.cycle there own.0 own.1 more.sums more.few l.invariant.passed;
      stored = rw c.wide.ensures.0
          (stored_more (limit_at s a.k) a.limits.now a.order.now a.count l.limits l.i _ (numbers here) p.valid.5 c.loop-i-test.true value l.invariant.stored);
    }

pub returns : goal.returns
returns c =
    let a = c.args in
    let p = c.requires in
    let s = a.sheet.now in
    let l = c.loop-i in
    let done : l.i ≡ stream_count s a.k = omega (arith, c.loop-i-test.false, l.auto, ap length p.order_value.0, rank_length s a.k) in
    stored_all (limit_at s a.k) a.limits.now (rank_order s a.k) (stream_count s a.k) l.limits
    (ordered_has (ranked_before s a.k) (stream_count s a.k))
    (omega (arith, p.valid.5, p.valid.3.counted))
    (rw (p.order_value.0, p.valid.3.counted, done) at l.invariant.stored)
