-- The split at a reach: with the streams within it taken by their rates and what they are ahead of them, and the others held, the interference
-- is at least that.
-- Assumes nothing.
use Prim.Native.Nat.{ℕ, ◌+◌, ◌-◌, ◌*◌, ◌/◌, ◌≤◌, ◌<◌}
use native.Mathlib.Nat.{zero-div}
use native.Mathlib.Omega.{arith}
use mathlib.Core.Path.{◌≡◌, refl}
use mathlib.Core.Bool.{Bool, true, false, cond}
use mathlib.Core.List.{List}
use lib.ListN.{length}
use lib.Dec.{ltb}
use borrow.Author.Tests.{lt-ltb, le-ltb}
use Rattle.theory.specs.Sum.{sum, up_to}
use Rattle.theory.proofs.Sums.{sum_plus, sum-scale}
use Rattle.model.specs.declared.Timing.{Timing}
use Rattle.model.specs.Analysis.{most_releases, Suffices}
use Rattle.model.proofs.Analysis.Interference.{releases_grow}
use Rattle.model.proofs.Analysis.Jump.{AtLeast, held_least, releases_rate, sum_least, rates_below, jump}
use Rattle.interference.specs.Periods.{entry, releases_by, interference_by}
use Rattle.interference.specs.Jump.{scale, held_by, rated_by, ahead_by, held_of, rate_of, ahead_of}

module _ (reach w cycle period jitter : ℕ) where
  -- A stream past the reach is held,
  pub held_past : reach < period → held_by reach w period jitter ≡ most_releases period jitter w
  unfolding held_by
  held_past past = rw (lt-ltb reach period past) refl

  -- and one within it is not;
  pub held_within : period ≤ reach → held_by reach w period jitter ≡ 0
  unfolding held_by
  held_within within = rw (le-ltb reach period within) refl

  -- that one is taken by its rate,
  pub rated_within : period ≤ reach → rated_by reach cycle period ≡ cycle * scale / period
  unfolding rated_by
  rated_within within = rw (le-ltb reach period within) refl

  -- and the other is not;
  pub rated_past : reach < period → rated_by reach cycle period ≡ 0
  unfolding rated_by
  rated_past past = rw (lt-ltb reach period past) refl

  -- and it is ahead of it, where it is taken by it.
  pub ahead_within : period ≤ reach → ahead_by reach period jitter ≡ jitter * scale / period
  unfolding ahead_by
  ahead_within within = rw (le-ltb reach period within) refl

  pub ahead_past : reach < period → ahead_by reach period jitter ≡ 0
  unfolding ahead_by
  ahead_past past = rw (lt-ltb reach period past) refl

-- Without a jitter it is not.
pub ahead_none : (reach period : ℕ) → ahead_by reach period 0 ≡ 0
unfolding ahead_by
ahead_none reach period = go (ltb reach period)
  where
    none : 0 * scale / period ≡ 0
    none = let zero : 0 * scale ≡ 0 = omega arith in rw (zero, zero-div) refl

    go : (b : Bool) → cond b 0 (0 * scale / period) ≡ 0
    go true = refl
    go false = none

module _ (cycle J reach : ℕ) (first : 1 ≤ J) (some : 1 ≤ cycle) where
  -- One stream is either held or taken by its rate.
  one_least : (period jitter : ℕ)
      → AtLeast scale cycle J (most_releases period jitter)
      (held_by reach (J * cycle - 1) period jitter * scale + ahead_by reach period jitter)
      (rated_by reach cycle period)
  unfolding held_by ahead_by rated_by
  one_least period jitter = go (ltb reach period)
    where
      w : ℕ
      w = J * cycle - 1

      go : (b : Bool)
          → AtLeast scale cycle J (most_releases period jitter)
          (cond b (most_releases period jitter w) 0 * scale + cond b 0 (jitter * scale / period))
          (cond b 0 (cycle * scale / period))
      go true =
          let held = held_least scale cycle J (most_releases period jitter) (λ v w h. releases_grow period jitter h) in
          record { least = λ i from. omega (arith, held.least i from) }
      go false =
          let rated = releases_rate scale cycle J period jitter first some in
          record { least = λ i from. omega (arith, rated.least i from) }

  -- All of them.
  split_least : (periods jitters : List ℕ)
      → AtLeast scale cycle J (interference_by periods jitters)
      (held_of reach (J * cycle - 1) periods jitters * scale + ahead_of reach periods jitters)
      (rate_of reach cycle periods)
  split_least periods jitters = record { least = later }
    where
      held : ℕ → ℕ
      held n = held_by reach (J * cycle - 1) (entry periods n) (entry jitters n)

      ahead : ℕ → ℕ
      ahead n = ahead_by reach (entry periods n) (entry jitters n)

      all : List ℕ
      all = up_to (length periods)

      later : (i : ℕ)
          → J ≤ i
          → sum held all * scale + sum ahead all + rate_of reach cycle periods * i ≤ interference_by periods jitters (i * cycle - 1) * scale
      later i from =
          let whole =
          sum_least scale cycle J
          (λ n w. releases_by periods jitters w n)
          (λ n. held n * scale + ahead n)
          (λ n. rated_by reach cycle (entry periods n))
          all
          (λ n m. one_least (entry periods n) (entry jitters n)) in
          omega (arith, whole.least i from, sum_plus (λ n. held n * scale) ahead all, sum-scale held scale all)

module _ (periods jitters : List ℕ) (t : Timing) (J reach i : ℕ)
    (first : 1 ≤ J)
    (some : 1 ≤ t.cycle)
    (from : J ≤ i)
    (enough : Suffices (interference_by periods jitters) t i)
  where
    -- Where a number from J on suffices, the rates do not fill the turns,
    pub split_below : rate_of reach t.cycle periods < t.budget * scale
    split_below = rates_below t.budget 1 i (split_least t.cycle J reach first some periods jitters) from (omega arith) (omega arith)

    -- and those held, and what the others are ahead, take all of them up to there.
    pub split_next : ((held_of reach (J * t.cycle - 1) periods jitters + 1) * scale + ahead_of reach periods jitters - 1) / (t.budget * scale - rate_of reach t.cycle periods) + 1 ≤ i
    split_next =
        let held = held_of reach (J * t.cycle - 1) periods jitters in
        let ahead = ahead_of reach periods jitters in
        let same : (held + 1) * scale + ahead - 1 ≡ held * scale + ahead + 1 * scale - 1 = omega arith in
        rw same (jump t.budget 1 i (split_least t.cycle J reach first some periods jitters) from (omega arith) (omega arith))
