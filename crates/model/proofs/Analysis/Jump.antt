-- How far the search for J may jump. Two things bound from below what a stream is counted with, in J cycles and in any more: what it
-- can release in J cycles, and one message a period, from its jitter before the window on. Each stream may be taken by either; a number
-- of cycles that suffices has places beyond the sum over all. With every stream taken by the first that is the jump to floor(H / m) + 1;
-- and where those taken by the second fill the turns alone, no number suffices. This goes for any sum over streams, and, with `spare`
-- 0, for a sum that may fill the turns. Assumes nothing.
use Prim.Native.Nat.{ℕ, zero, suc, ◌+◌, ◌-◌, ◌*◌, ◌/◌, ◌≤◌, ◌<◌}
use native.Mathlib.Nat.{le_trans, add-mul, mul_assoc, mul_comm, mul_right_comm, mul-le-mul_right, le_of_mul-le-mul_right, lt_of_mul-lt-mul_left, one-le-mul, div-zero, div-mul-le_self, div-lt_iff_lt-mul, lt-div-mul-add}
use native.Mathlib.Omega.{arith}
use mathlib.Core.Path.{◌≡◌, sym, ap, ◌∙◌}
use mathlib.Core.List.{List, Memᴰ}
use Rattle.theory.specs.Sum.{sum}
use Rattle.theory.proofs.Sums.{sum_mono, sum_plus, sum-scale}
use Rattle.model.specs.declared.Timing.{Timing}
use Rattle.model.specs.Analysis.{most_releases, Suffices}
use Rattle.model.proofs.Analysis.Wait.{Grows}

-- A stream is counted with at least one message a period, whatever the window, and as if the window began so many ticks sooner.
abbrev pub Steady : (ℕ → ℕ) → ℕ → ℕ → Type 0
Steady h period ahead = (w : ℕ) → w + 1 + ahead ≤ h w * period

-- So is one that is counted with the most that it can release: its jitter is so many ticks.
pub releases_steady : (period jitter : ℕ) → 1 ≤ period → Steady (most_releases period jitter) period jitter
unfolding most_releases
releases_steady period jitter one w = omega (arith, lt-div-mul-add {a = w + jitter} one)

-- In i cycles, for each i from J on, the messages are at least so many parts of a message, `scale` of which are one, and `rate` of them
-- more for each cycle.
pub record AtLeast (scale cycle J : ℕ) (h : ℕ → ℕ) (parts rate : ℕ) : Type 0 where
  pub least : (i : ℕ) → J ≤ i → parts + rate * i ≤ h (i * cycle - 1) * scale

module _ (scale cycle J : ℕ) where
  -- What grows is at least what it is in J cycles.
  pub held_least : (h : ℕ → ℕ) → Grows h → AtLeast scale cycle J h (h (J * cycle - 1) * scale) 0
  held_least h grows = record { least = later }
    where
      later : (i : ℕ) → J ≤ i → h (J * cycle - 1) * scale + 0 * i ≤ h (i * cycle - 1) * scale
      later i from =
          let longer : J * cycle ≤ i * cycle = mul-le-mul_right cycle from in
          omega (arith, mul-le-mul_right scale (grows (J * cycle - 1) (i * cycle - 1) (omega arith)))

  -- What counts one message a period has that rate, and what it is ahead of it, both rounded down.
  pub rate_least : (h : ℕ → ℕ) (period ahead : ℕ)
      → 1 ≤ J
      → 1 ≤ cycle
      → 1 ≤ period
      → Steady h period ahead
      → AtLeast scale cycle J h (ahead * scale / period) (cycle * scale / period)
  rate_least h period ahead first some one steady = record { least = later }
    where
      later : (i : ℕ) → J ≤ i → ahead * scale / period + cycle * scale / period * i ≤ h (i * cycle - 1) * scale
      later i from =
          let parts = ahead * scale / period in
          let rate = cycle * scale / period in
          let w = i * cycle - 1 in
          let window : w + 1 ≡ i * cycle = omega (arith, one-le-mul (le_trans first from) some) in
          let sooner : parts * period ≤ ahead * scale = div-mul-le_self (ahead * scale) period in
          let most : rate * period * i ≤ cycle * scale * i = mul-le-mul_right i (div-mul-le_self (cycle * scale) period) in
          let full : (i * cycle + ahead) * scale ≤ h w * period * scale = mul-le-mul_right scale (rw window at (steady w)) in
          let both : (i * cycle + ahead) * scale ≡ i * cycle * scale + ahead * scale = add-mul (i * cycle) ahead scale in
          let whole : cycle * scale * i ≡ i * cycle * scale = mul_comm (cycle * scale) i ∙ sym (mul_assoc i cycle scale) in
          let left : (parts + rate * i) * period ≡ parts * period + rate * period * i =
          add-mul parts (rate * i) period ∙ ap (λ n. parts * period + n) (mul_right_comm rate i period) in
          let right : h w * scale * period ≡ h w * period * scale = mul_right_comm (h w) scale period in
          omega (arith, le_of_mul-le-mul_right {m = parts + rate * i} {n = h w * scale} {k = period} (omega arith) one)

  -- So has the most that a stream can release; with the period 0 both are 0.
  pub releases_rate : (period jitter : ℕ)
      → 1 ≤ J
      → 1 ≤ cycle
      → AtLeast scale cycle J (most_releases period jitter) (jitter * scale / period) (cycle * scale / period)
  releases_rate zero jitter first some =
      record { least = λ i from. rw (div-zero (jitter * scale), div-zero (cycle * scale)) (omega arith) }
  releases_rate (suc period) jitter first some =
      rate_least (most_releases (suc period) jitter) (suc period) jitter first some (omega arith) (releases_steady (suc period) jitter (omega arith))

  -- The sum over streams is at least the sum of what each is.
  pub sum_least : {A : Type 0} (h : A → ℕ → ℕ) (parts rate : A → ℕ) (ys : List A)
      → ((y : A) → Memᴰ y ys → AtLeast scale cycle J (h y) (parts y) (rate y))
      → AtLeast scale cycle J (λ w. sum (λ y. h y w) ys) (sum parts ys) (sum rate ys)
  sum_least {A} h parts rate ys each = record { least = later }
    where
      later : (i : ℕ) → J ≤ i → sum parts ys + sum rate ys * i ≤ sum (λ y. h y (i * cycle - 1)) ys * scale
      later i from =
          let w = i * cycle - 1 in
          omega (
            arith,
            sum_mono (λ y. parts y + rate y * i) (λ y. h y w * scale) ys (λ y m. (each y m).least i from),
            sum_plus parts (λ y. rate y * i) ys,
            sum-scale rate i ys,
            sum-scale (λ y. h y w) scale ys,
          )

module _ (m spare i : ℕ) {scale cycle J parts rate : ℕ} {h : ℕ → ℕ}
    (bound : AtLeast scale cycle J h parts rate)
    (from : J ≤ i)
    (places : h (i * cycle - 1) + spare ≤ i * m)
    (some : 1 ≤ parts + spare * scale)
  where
    -- Where i turns have places for all, and `spare` more, what the rates leave of them is enough for the rest.
    left_for_rest : parts + spare * scale + rate * i ≤ m * scale * i
    left_for_rest =
        omega (
          arith,
          bound.least i from,
          mul-le-mul_right scale places,
          add-mul (h (i * cycle - 1)) spare scale,
          mul_assoc i m scale,
          mul_comm i (m * scale),
        )

    -- So the rates alone do not fill the turns,
    pub rates_below : rate < m * scale
    rates_below = lt_of_mul-lt-mul_left i (omega (arith, left_for_rest, mul_comm i rate, mul_comm i (m * scale)))

    -- and i is at least what the rest takes of what the rates leave, rounded up.
    pub jump : (parts + spare * scale - 1) / (m * scale - rate) + 1 ≤ i
    jump =
        let left = m * scale - rate in
        let whole : m * scale ≡ left + rate = omega (arith, rates_below) in
        let all = left_for_rest in
        let enough : parts + spare * scale ≤ i * left = omega (arith, rw whole at all, add-mul left rate i, mul_comm left i) in
        omega (arith, (div-lt_iff_lt-mul {k = left} {x = parts + spare * scale - 1} {y = i} (omega (arith, rates_below))).1 (omega arith))

-- The plain jump: where J cycles do not suffice, the next to try is floor(H / m) + 1.
pub plain_jump : {H : ℕ → ℕ} (t : Timing) (J i : ℕ)
    → Grows H
    → J ≤ i
    → Suffices H t i
    → H (J * t.cycle - 1) / t.budget + 1 ≤ i
plain_jump {H} t J i grows from enough =
    let h = H (J * t.cycle - 1) in
    let all : h * 1 + 1 * 1 - 1 ≡ h = omega arith in
    let turn : t.budget * 1 - 0 ≡ t.budget = omega arith in
    rw (all, turn) at (jump t.budget 1 i (held_least 1 t.cycle J H grows) from (omega arith) (omega arith))
