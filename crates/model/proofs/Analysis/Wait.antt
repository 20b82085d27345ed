-- "The listed wait" as a fact about whole numbers: the place in the turn is no negative number, and what the late test says of J. The
-- laws about that test stand here alone: a J is in time, where it does not hold, exactly if it is worth a try; and then the latest
-- delivery and the J cycles are within the deadline. Assumes nothing.
use Prim.Native.Nat.{ℕ, zero, suc, pred, ◌+◌, ◌-◌, ◌*◌, ◌≤◌, ◌<◌}
use native.Mathlib.Nat.{pred-le, one-le-mul, mul-le-mul_right, le-div_iff_mul-le}
use native.Mathlib.Omega.{arith}
use mathlib.Core.Path.{◌≡◌}
use mathlib.Core.Logic.{◌↔◌}
use mathlib.Core.Bool.{false}
use borrow.Author.Tests.{ltb-false, le-ltb}
use Rattle.model.specs.declared.Stream.{Stream}
use Rattle.model.specs.declared.Timing.{Timing}
use Rattle.model.specs.Analysis.{Suffices, IsLeastJ, longest_turn, delivered_after, late_at, tries_worth}

-- H grows with its window.
abbrev pub Grows : (ℕ → ℕ) → Type 0
Grows H = (v w : ℕ) → v ≤ w → H v ≤ H w

module _ {H : ℕ → ℕ} {t : Timing} where
  -- No number below the smallest J suffices, nor does 0.
  pub below_least : {J : ℕ} → IsLeastJ H t J → (i : ℕ) → i < J → Suffices H t i → ⊥
  below_least h zero below enough = omega arith
  below_least h (suc i) below enough = omega (arith, h.smallest (suc i) (omega arith) enough)

  -- At the smallest J the place in the turn is no negative number: one cycle fewer did not suffice.
  pub place_exact : {J : ℕ} → Grows H → IsLeastJ H t J → pred J * t.budget ≤ H (J * t.cycle - 1)
  place_exact {J} grows h =
      let short : Suffices H t (pred J) → ⊥ = below_least h (pred J) (omega (arith, h.from_one)) in
      let fewer : pred J * t.cycle ≤ J * t.cycle = mul-le-mul_right t.cycle (pred-le J) in
      omega (arith, grows (pred J * t.cycle - 1) (J * t.cycle - 1) (omega arith))

module _ (t : Timing) (x : Stream) (J : ℕ) where
  -- With a J in time the latest delivery, after the latest queuing, is within the deadline,
  pub in_time_delivered : late_at t x J ≡ false → x.jitter + delivered_after t J ≤ x.deadline
  unfolding late_at
  in_time_delivered early = ltb-false x.deadline (x.jitter + delivered_after t J) early

  -- and so are the J cycles, as a turn takes some time.
  pub in_time_cycles : 1 ≤ longest_turn t → late_at t x J ≡ false → x.jitter + J * t.cycle ≤ x.deadline
  in_time_cycles some early = omega (arith, in_time_delivered early)

  -- The J from 1 up that are in time are those worth a try.
  pub in_time_worth : 0 < t.cycle → 1 ≤ J → (late_at t x J ≡ false) ↔ (J ≤ tries_worth t x)
  unfolding late_at
  in_time_worth positive one =
      let some : 1 ≤ J * t.cycle = one-le-mul one positive in
      let worth = le-div_iff_mul-le positive in (
        λ early. worth.1 (omega (arith, in_time_delivered early)),
        λ few. le-ltb x.deadline (x.jitter + delivered_after t J) (omega (arith, worth.0 few)),
      )

-- Cycles that are worth a try are within the deadline.
pub tries_cycles : (t : Timing) (x : Stream) (J : ℕ)
    → 0 < t.cycle
    → J ≤ tries_worth t x
    → J * t.cycle ≤ x.deadline + 1
tries_cycles t x J positive few = omega (arith, (le-div_iff_mul-le positive).0 few)
