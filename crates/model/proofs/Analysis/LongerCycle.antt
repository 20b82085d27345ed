-- What a longer full cycle does to a stream whose node keeps its budget: a stream that is late stays late. Assumes nothing.
use Prim.Native.Nat.{ℕ, ◌+◌, ◌-◌, ◌*◌, ◌≤◌, ◌<◌}
use native.Mathlib.Nat.{mul-le-mul_left}
use native.Mathlib.Omega.{arith}
use mathlib.Core.Path.{◌≡◌, refl}
use mathlib.Core.Bool.{false}
use mathlib.Core.List.{List}
use borrow.Author.Tests.{le-ltb}
use Rattle.model.specs.declared.Stream.{Stream}
use Rattle.model.specs.declared.Timing.{Timing}
use Rattle.model.specs.declared.Verdict.{Verdict}
use Rattle.model.specs.declared.Verdict.TheVariants.{Late, Listed}
use Rattle.model.specs.Analysis.{Suffices, delivered_after, late_at, verdict, interference, stream_of, higher_streams, timing_with, verdict_with}
use Rattle.model.proofs.Analysis.Interference.{interference_grows}
use Rattle.model.proofs.Analysis.Wait.{Grows, in_time_delivered, in_time_worth}
use Rattle.model.proofs.Analysis.Search.{verdict_exact, late_passed}

-- Two timings that differ in the cycle alone, the first with the shorter.
record Longer (t u : Timing) : Type 0 where
  cycles : t.cycle ≤ u.cycle
  budgets : t.budget ≡ u.budget
  messages : t.message ≡ u.message
  slots : t.slot ≡ u.slot

module _ {H : ℕ → ℕ} {t u : Timing} (x : Stream) (grows : Grows H) (longer : Longer t u) (positive : 0 < t.cycle) where
  -- A number that suffices with the longer cycle suffices with the shorter: its window is no longer.
  suffices_shorter : (J : ℕ) → Suffices H u J → Suffices H t J
  suffices_shorter J enough =
      let window : J * t.cycle ≤ J * u.cycle = mul-le-mul_left J longer.cycles in
      omega (
        arith,
        grows (J * t.cycle - 1) (J * u.cycle - 1) (omega arith),
        rw (← longer.budgets) at enough,
      )

  -- A number that is in time with the longer cycle is in time with the shorter.
  in_time_shorter : (J : ℕ) → late_at u x J ≡ false → late_at t x J ≡ false
  unfolding late_at
  in_time_shorter J early =
      let window : J * t.cycle ≤ J * u.cycle = mul-le-mul_left J longer.cycles in
      let turn : t.budget * t.message ≡ u.budget * u.message = rw (longer.budgets, longer.messages) refl in
      le-ltb x.deadline (x.jitter + delivered_after t J) (omega (arith, in_time_delivered u x J early, longer.slots))

  -- Late with the shorter is late with the longer.
  late_longer : verdict H t x ≡ Late → verdict H u x ≡ Late
  late_longer late = go (verdict H u x) refl
    where
      wider : 0 < u.cycle
      wider = omega (arith, longer.cycles)

      go : (v : Verdict) → verdict H u x ≡ v → v ≡ Late
      go Late e = refl
      go (Listed w J) e =
          let h = ((verdict_exact H u x wider).listed w J).0 e in
          let one = h.least.from_one in
          absurd
          (late_passed H t x J late one
          ((in_time_worth t x J positive one).0 (in_time_shorter J h.in_time))
          (suffices_shorter J h.least.suffices))

-- So it is with a stream of a sheet.
pub stream_late_longer : (s : List ℕ) (C D m k j : ℕ) → C ≤ D → 0 < C → verdict_with s C m k j ≡ Late → verdict_with s D m k j ≡ Late
unfolding verdict_with
stream_late_longer s C D m k j h positive late =
    late_longer {H = interference (higher_streams s k j)} {t = timing_with s C m} {u = timing_with s D m} (stream_of s k j) (λ v w g. interference_grows (higher_streams s k j) g)
    (record { cycles = h; budgets = refl; messages = refl; slots = refl }) positive late
