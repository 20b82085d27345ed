-- Events that fit a stream's releases. Releases that are a period apart may be taken for events themselves, each as late as it may be; and
-- of a stream without a jitter nothing else fits: there the premise is document 01's own. Assumes nothing.
use Prim.Native.Nat.{ℕ, ◌+◌, ◌≤◌}
use native.Mathlib.Omega.{arith}
use native.Mathlib.Nat.{le_refl}
use mathlib.Core.Path.{◌≡◌}
use mathlib.Core.List.{List}
use Rattle.model.specs.Sheet.{period, jitter, running_number}
use Rattle.model.specs.Protocol.{release_tick, Successive, EventsFit, KeepsPeriod}

-- "any two successive releases of it there are at least that period apart".
abbrev pub PeriodApart : List ℕ → List ℕ → ℕ → ℕ → Type 0
PeriodApart s log k j =
    (a b : ℕ) → Successive log (running_number s k j) a b → release_tick log a + period s k j ≤ release_tick log b

-- Such releases are events that fit, and so the stream keeps its period.
pub apart_fit : (s log : List ℕ) (k j : ℕ) → PeriodApart s log k j → EventsFit s log k j (release_tick log)
apart_fit s log k j apart =
    record { not_after = λ i h o. le_refl (release_tick log i); not_before = λ i h o. omega arith; apart = apart }

pub apart_kept : (s log : List ℕ) (k j : ℕ) → PeriodApart s log k j → KeepsPeriod s log k j
apart_kept s log k j apart = (release_tick log, apart_fit s log k j apart)

-- A stream without a jitter that keeps its period has its releases a period apart.
pub kept_apart : (s log : List ℕ) (k j : ℕ) → jitter s k j ≡ 0 → KeepsPeriod s log k j → PeriodApart s log k j
kept_apart s log k j none (latest, fit) a b next =
    omega (
      arith,
      fit.apart a b next,
      fit.not_after a (omega (arith, next.ordered, next.in_log)) next.first,
      fit.not_before b next.in_log next.second,
    )
