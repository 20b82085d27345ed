-- Interference, "H": it is a sum over the streams of the most that each can release. That bound grows with the window, and no stream
-- whose releases are a period apart releases more. Assumes nothing.
use Prim.Native.Nat.{ℕ, zero, suc, ◌+◌, ◌/◌, ◌≤◌, ◌<◌, zero-le}
use native.Mathlib.Nat.{le_trans, zero-lt-suc, div-zero, div-mul-le_self, div-eq_of_lt, le-div_iff_mul-le}
use native.Mathlib.Omega.{arith}
use mathlib.Core.Path.{◌≡◌}
use mathlib.Core.List.{List}
use Rattle.theory.proofs.Sums.{sum_mono}
use Rattle.theory.proofs.Counting.{count}
use Rattle.theory.proofs.Arrivals.{Apart, arrivals}
use Rattle.model.specs.declared.Stream.{Stream}
use Rattle.model.specs.Analysis.{most_releases, interference}

-- The arrival law: releases of a stream whose events, named by the latest tick of queuing, are a period apart and all in
-- [x, x + (w + jitter)], are at most so many.
pub releases_most : {P : ℕ → Type 0} (P? : (i : ℕ) → Dec (P i)) (latest : ℕ → ℕ) (period jitter x w n : ℕ)
    → 1 ≤ period
    → Apart P latest period n
    → ((i : ℕ) → i < n → P i → (x ≤ latest i) × (latest i ≤ x + (w + jitter)))
    → count P? n ≤ most_releases period jitter w
unfolding most_releases
releases_most P? latest period jitter x w n one apart within = arrivals P? latest period x (w + jitter) n one apart within

-- A floor grows with what is divided, also where the period is 0: then it is 0.
div_grows : (p : ℕ) {v w : ℕ} → v ≤ w → v / p ≤ w / p
div_grows zero {v} {w} h = rw (div-zero v, div-zero w) zero-le
div_grows (suc p) {v} {w} h = (le-div_iff_mul-le (zero-lt-suc p)).1 (le_trans (div-mul-le_self v (suc p)) h)

-- In a longer window a stream can release no less.
pub releases_grow : (p q : ℕ) {v w : ℕ} → v ≤ w → most_releases p q v ≤ most_releases p q w
unfolding most_releases
releases_grow p q {v} {w} h = omega (arith, div_grows p {v = v + q} {w = w + q} (omega arith))

-- In a window that is shorter than its period by more than its jitter it can release one message.
pub releases_once : (p q w : ℕ) → w + q < p → most_releases p q w ≡ 1
unfolding most_releases
releases_once p q w h = omega (arith, div-eq_of_lt h)

-- A longer window has no less interference.
pub interference_grows : (ys : List Stream) {v w : ℕ} → v ≤ w → interference ys v ≤ interference ys w
unfolding interference
interference_grows ys {v} {w} h =
    sum_mono (λ y. most_releases y.period y.jitter v) (λ y. most_releases y.period y.jitter w) ys
    (λ y m. releases_grow y.period y.jitter h)
