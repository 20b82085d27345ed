-- The listed wait at the J that the search has come to: no part of it passes 32 bits. Assumes nothing.
use Prim.Native.Nat.{ℕ, pred, ◌+◌, ◌-◌, ◌*◌, ◌≤◌, ◌<◌}
use native.Mathlib.Nat.{suc-mul, suc-pred-eq_of_pos, one-le-mul, mul-le-mul}
use native.Mathlib.Omega.{arith}
use mathlib.Core.Path.{◌≡◌, refl, sym, ap, ◌∙◌}
use mathlib.Core.List.{List}
use Rattle.model.specs.declared.Timing.{Timing}
use Rattle.model.specs.Limits.{max_budget, max_slot_ticks}
use Rattle.model.specs.Analysis.{wait_for}
use Rattle.model.proofs.Analysis.Wait.{place_exact}
use Rattle.interference.specs.Periods.{interference_by}
use Rattle.interference.specs.InRange.{Ranges, FoundJ}
use Rattle.interference.proofs.Periods.{by_grows}

module _ {periods jitters : List ℕ} {t : Timing} {J h before : ℕ}
    (ranges : Ranges t)
    (at : FoundJ periods jitters t J h)
    (turns : before ≡ pred J * t.budget)
  where
    -- The places of the turns before are all taken.
    pub place_least : before ≤ h
    place_least = rw (turns, at.tried.counted) (place_exact (by_grows periods jitters) at.least)

    -- The place in the turn is one of the budget's.
    pub place_most : h - before < max_budget
    place_most =
        let last : J * t.budget ≡ pred J * t.budget + t.budget = ap (λ n. n * t.budget) (sym (suc-pred-eq_of_pos at.least.from_one)) ∙ suc-mul (pred J) t.budget in
        omega (arith, turns, at.tried.counted, at.least.suffices, place_least, ranges.shares.budget_to)

    -- J cycles are a tick at least.
    pub window_least : 1 ≤ J * t.cycle
    window_least = one-le-mul at.least.from_one (omega (arith, ranges.shares.cycle_from))

    -- A message or a slot for each place before it in the turn: no more than a budget of the longest.
    pub ticks_most : {ticks : ℕ} → ticks ≤ max_slot_ticks → (h - before) * ticks ≤ 160_000
    ticks_most short = mul-le-mul {n₂ = max_budget} {m₂ = max_slot_ticks} (omega (arith, place_most)) short

    -- The sum is the definition's.
    pub wait_exact : J * t.cycle - 1 + (h - before) * t.message ≡ wait_for (interference_by periods jitters) t J
    unfolding wait_for
    wait_exact = rw (turns, at.tried.counted) refl
