-- What tests say: readings of a test that joins others. Assumes nothing.
use mathlib.Core.Path.{◌≡◌, refl}
use mathlib.Core.Logic.{◌↔◌, ◌⊎◌, inl, inr, ⊎_elim}
use mathlib.Core.Bool.{Bool, true, false, ◌&&◌, ◌||◌, true≢false, false≢true}

-- A test that cannot hold fails.
pub fails : (b : Bool) → (b ≡ true → ⊥) → b ≡ false
fails true h = absurd (h refl)
fails false h = refl

-- "And" is true exactly where both tests are.
pub and_reading : (a b : Bool) → (a && b ≡ true) ↔ ((a ≡ true) × (b ≡ true))
and_reading true b = (λ e. (refl, e), λ both. both.1)
and_reading false b = (λ e. (e, absurd (false≢true e)), λ both. both.0)

-- "Or" is true exactly where one of the tests is.
pub or_reading : (a b : Bool) → (a || b ≡ true) ↔ ((a ≡ true) ⊎ (b ≡ true))
or_reading true b = (λ e. inl e, λ one. refl)
or_reading false b = (λ e. inr e, λ one. ⊎_elim (λ e. absurd (false≢true e)) (λ e. e) one)

-- Where neither of two tests holds, each fails.
pub or_neither : (a b : Bool) → (a || b) ≡ false → (a ≡ false) × (b ≡ false)
or_neither true b e = absurd (true≢false e)
or_neither false b e = (refl, e)

-- The first test holds, and so does "or";
pub or_first : {a : Bool} (b : Bool) → a ≡ true → (a || b) ≡ true
or_first b e = rw e refl

-- or it fails, and "or" is the second.
pub or_second : {a b r : Bool} → a ≡ false → b ≡ r → (a || b) ≡ r
or_second first second = rw first second
