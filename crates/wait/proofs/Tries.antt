-- The numbers of cycles that are worth a try: none of them passes the time. Assumes nothing.
use Prim.Native.Nat.{ℕ, ◌+◌, ◌*◌, ◌≤◌, ◌<◌}
use native.Mathlib.Nat.{le_refl, le_trans, mul-le-mul_left}
use native.Mathlib.Omega.{arith}
use mathlib.Core.Path.{◌≡◌}
use Rattle.model.specs.declared.Stream.{Stream}
use Rattle.model.specs.declared.Timing.{Timing}
use Rattle.model.specs.Limits.{max_time}
use Rattle.model.specs.Analysis.{tries_worth}
use Rattle.model.proofs.Analysis.Wait.{tries_cycles}
use Rattle.interference.specs.InRange.{Ranges, StreamRanges}

module _ {t : Timing} {x : Stream} {tries : ℕ}
    (ranges : Ranges t)
    (asked : StreamRanges x)
    (worth : tries ≡ tries_worth t x)
  where
    -- So many cycles,
    pub cycles_to_lem : (J : ℕ) → J ≤ tries → J * t.cycle ≤ max_time + 1
    cycles_to_lem J few =
        let positive : 0 < t.cycle = omega (arith, ranges.shares.cycle_from) in
        le_trans (tries_cycles t x J positive (rw worth at few)) (omega (arith, asked.deadline_to))

    -- and so many tries.
    pub tries_to : tries ≤ max_time
    tries_to = omega (arith, cycles_to_lem tries (le_refl tries), mul-le-mul_left tries ranges.shares.cycle_from)
