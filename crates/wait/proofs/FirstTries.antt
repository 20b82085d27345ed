-- The verdict by the first numbers of cycles alone: where it is found at one or at two of them, and where it is late. Assumes nothing.
use Prim.Native.Nat.{ℕ, suc, ◌-◌, ◌*◌, ◌≤◌, ◌<◌}
use native.Mathlib.Nat.{eq-or-lt_of_le, mul-le-mul}
use native.Mathlib.Decide.{dec_lt}
use native.Mathlib.Omega.{arith}
use mathlib.Core.Path.{◌≡◌, sym, ap, ◌∙◌}
use mathlib.Core.Logic.{⊎_elim, by_cases}
use mathlib.Core.Bool.{true, false, true≢false}
use mathlib.Core.List.{List}
use Rattle.model.specs.declared.Stream.{Stream}
use Rattle.model.specs.declared.Timing.{Timing}
use Rattle.model.specs.declared.Verdict.TheVariants.{Late, Listed}
use Rattle.model.specs.Analysis.{Suffices, wait_for, late_at, tries_worth, verdict}
use Rattle.model.proofs.Analysis.Wait.{in_time_worth}
use Rattle.model.proofs.Analysis.Searching.{found, none_left}
use Rattle.interference.specs.Periods.{interference_by}
use Rattle.interference.specs.InRange.{Ranges, FoundJ}
use Rattle.interference.specs.Jump.{NoneBelow}

module _ (H : ℕ → ℕ) (t : Timing) where
  -- One cycle is the first number.
  pub none_below_one : NoneBelow H t 1 1
  none_below_one i from enough = from

  -- A number that does not suffice is passed.
  pub none_below_next : (J : ℕ) → NoneBelow H t 1 J → (Suffices H t J → ⊥) → NoneBelow H t 1 (suc J)
  none_below_next J none short i from enough =
      ⊎_elim (λ same. absurd (short (rw same enough))) (λ less. less) (eq-or-lt_of_le (none i from enough))

  -- One cycle does not suffice: two are next;
  pub none_below_two : t.budget ≤ H (t.cycle - 1) → NoneBelow H t 1 2
  none_below_two filled =
      none_below_next 1 none_below_one (λ enough.
      let same : 1 * t.cycle ≡ t.cycle = omega arith in
      omega (arith, ap (λ n. H (n - 1)) same, enough, filled))

  -- and where two do not either, three.
  pub none_below_three : NoneBelow H t 1 2 → 2 * t.budget ≤ H (2 * t.cycle - 1) → NoneBelow H t 1 3
  none_below_three none filled = none_below_next 2 none (λ enough. omega (arith, enough, filled))

module _ (H : ℕ → ℕ) (t : Timing) (x : Stream) (positive : 0 < t.cycle) where
  -- Where none suffices below a number at which the late test holds, the verdict is late.
  pub late_near : {J : ℕ} → 1 ≤ J → NoneBelow H t 1 J → late_at t x J ≡ true → Late ≡ verdict H t x
  late_near {J} one none late =
      by_cases
      (dec_lt (tries_worth t x) J)
      (λ past. none_left H t x positive none past)
      (λ worth. absurd (true≢false (sym late ∙ (in_time_worth t x J positive one).1 (omega arith))))

-- What is known where one of the first numbers suffices.
pub found_first : (periods jitters : List ℕ) (t : Timing) (J h : ℕ)
    → Ranges t
    → 1 ≤ J
    → J ≤ 2
    → NoneBelow (interference_by periods jitters) t 1 J
    → h ≡ interference_by periods jitters (J * t.cycle - 1)
    → h < J * t.budget
    → FoundJ periods jitters t J h
found_first periods jitters t J h ranges one few none counted enough =
    record {
      tried = record { from_one = one; cycles_to = omega (arith, mul-le-mul few ranges.shares.cycle_to); counted = counted };
      least = record { from_one = one; suffices = rw counted at enough; smallest = none };
    }

-- Its wait is the verdict, where the late test does not hold there.
pub listed_near : (periods jitters : List ℕ) (t : Timing) (x : Stream) (J h w : ℕ)
    → 0 < t.cycle
    → FoundJ periods jitters t J h
    → late_at t x J ≡ false
    → w ≡ wait_for (interference_by periods jitters) t J
    → Listed w J ≡ verdict (interference_by periods jitters) t x
listed_near periods jitters t x J h w positive found_at early wait =
    let worth = (in_time_worth t x J positive found_at.tried.from_one).0 early in
    found (interference_by periods jitters) t x positive found_at.least worth wait

-- In one cycle, counted once.
pub one_cycle : (H : ℕ → ℕ) (C : ℕ) {h : ℕ} → h ≡ H (C - 1) → h ≡ H (1 * C - 1)
one_cycle H C counted = let same : C ≡ 1 * C = omega arith in counted ∙ ap (λ n. H (n - 1)) same
