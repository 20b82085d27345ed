-- The search for J as a loop runs it: it goes from a number to a later one, below which none suffices. Where it stops, the verdict is
-- the literal one, and so the definition's, which tries every number. Assumes nothing.
use Prim.Native.Nat.{ℕ, ◌≤◌, ◌<◌}
use native.Mathlib.Omega.{arith}
use mathlib.Core.Path.{◌≡◌, refl, sym}
use Rattle.model.specs.declared.Stream.{Stream}
use Rattle.model.specs.declared.Timing.{Timing}
use Rattle.model.specs.declared.Verdict.{Verdict}
use Rattle.model.specs.declared.Verdict.TheVariants.{Late, Listed}
use Rattle.model.specs.Analysis.{Suffices, IsLeastJ, wait_for, tries_worth, verdict}
use Rattle.model.proofs.Analysis.Wait.{in_time_worth}
use Rattle.model.proofs.Analysis.Search.{verdict_exact}

module _ (H : ℕ → ℕ) (t : Timing) (x : Stream) (positive : 0 < t.cycle) where
  -- The smallest J is worth a try: it and its wait are the verdict.
  pub found : {J w : ℕ} → IsLeastJ H t J → J ≤ tries_worth t x → w ≡ wait_for H t J → Listed w J ≡ verdict H t x
  found {J} {w} least few wait =
      let in_time = (in_time_worth t x J positive least.from_one).1 few in
      sym (((verdict_exact H t x positive).listed w J).1 (record { least = least; wait = wait; in_time = in_time }))

  -- No number below one past all that are worth a try suffices: the verdict is late.
  pub none_left : {J : ℕ}
      → ((i : ℕ) → 1 ≤ i → Suffices H t i → J ≤ i)
      → tries_worth t x < J
      → Late ≡ verdict H t x
  none_left {J} passed past = go (verdict H t x) refl
    where
      go : (v : Verdict) → verdict H t x ≡ v → Late ≡ v
      go Late e = refl
      go (Listed w i) e =
          let h = ((verdict_exact H t x positive).listed w i).0 e in
          let one = h.least.from_one in
          absurd
          (omega (
            arith,
            (in_time_worth t x i positive one).0 h.in_time,
            passed i one h.least.suffices,
          ))
