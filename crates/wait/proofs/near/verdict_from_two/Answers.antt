-- `wait::near::verdict_from_two` meets its contract: one cycle does not suffice, and the late test ends the search. Assumes nothing.
use native.Mathlib.Omega.{arith}
use native.Mathlib.Nat.{le_refl}
use mathlib.Core.Path.{sym, ◌∙◌}
use Rattle.interference.specs.Periods.{interference_by}
use Rattle.interference.specs.InRange.{FoundJ}
use Rattle.model.proofs.Analysis.Wait.{in_time_worth}
use Rattle.wait.proofs.Tries.{tries_to}
use Rattle.wait.proofs.FirstTries.{none_below_two, none_below_three, late_near, found_first, listed_near}
use Rattle.wait.proofs.near.verdict_from_two.Goals as goal
use Rattle.wait.proofs.near.verdict_from_two.Lts as lts
use Rattle.wait.proofs.near.verdict_from_two.Tie as tie
use Rattle.wait.proofs.near.verdict_from_two.Reads as reads

-- Two cycles suffice, and they are the smallest number that does.
least : (c : lts.Then2 tie.the-claims reads.Pre reads.Post) → FoundJ c.args.periods.now c.args.jitters.now c.args.timing 2 c.args.h
least c =
    let a = c.args in
    let p = c.requires in
    let none = none_below_two (interference_by a.periods.now a.jitters.now) a.timing p.4 in
    found_first a.periods.now a.jitters.now a.timing 2 a.h p.1 (omega arith) (le_refl 2) none p.3
    (rw c.long.ensures.0 at c.if-h-long.true)

pub returns-then-is_late_at : goal.returns-then-is_late_at
returns-then-is_late_at c =
    let a = c.args in
    let p = c.requires in
    let H = interference_by a.periods.now a.jitters.now in
    late_near H a.timing a.stream (omega (arith, p.1.shares.cycle_from)) {J = 2} (omega arith) (none_below_two H a.timing p.4)
    (sym c.is_late_at.ensures ∙ c.if-is_late_at.true)

pub returns-then-h-long : goal.returns-then-h-long
returns-then-h-long c =
    let a = c.args in
    listed_near a.periods.now a.jitters.now a.timing a.stream 2 a.h _
    (omega (arith, c.requires.1.shares.cycle_from))
    (least c.before.before)
    (sym c.is_late_at.ensures ∙ c.if-is_late_at.false)
    c.wait_at-wait.ensures

pub returns-then-is_late_at-2 : goal.returns-then-is_late_at-2
returns-then-is_late_at-2 c =
    let a = c.args in
    let p = c.requires in
    let H = interference_by a.periods.now a.jitters.now in
    let filled = rw (c.long.ensures.0, p.3) at c.if-h-long.false in
    late_near H a.timing a.stream (omega (arith, p.1.shares.cycle_from)) {J = 3} (omega arith)
    (none_below_three H a.timing (none_below_two H a.timing p.4) filled)
    (sym c.is_late_at-2.ensures ∙ c.if-is_late_at-2.true)

pub next_try-next-requires : goal.next_try-next-requires
next_try-next-requires c =
    let a = c.args in
    let p = c.requires in
    let filled = rw c.long.ensures.0 at c.if-h-long.false in
    let early = sym c.is_late_at-2.ensures ∙ c.if-is_late_at-2.false in
    let worth = (in_time_worth a.timing a.stream 3 (omega (arith, p.1.shares.cycle_from)) (omega arith)).0 early in (
      p.0,
      p.1,
      record {
        tried = record { from_one = omega arith; cycles_to = omega (arith, p.1.shares.cycle_to); counted = p.3 };
        filled = filled;
      },
      omega (arith, worth, c.tries_worth-tries.ensures),
      tries_to p.1 p.2 c.tries_worth-tries.ensures,
    )

pub verdict_from-requires : goal.verdict_from-requires
verdict_from-requires c =
    let a = c.args in
    let p = c.requires in
    let H = interference_by a.periods.now a.jitters.now in
    let next = c.next_try-next.ensures in
    (p.0, p.1, p.2, omega (arith, next.0), λ i from enough. next.2 i (none_below_two H a.timing p.4 i from enough) enough)
