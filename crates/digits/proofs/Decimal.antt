-- A number in decimal: its last digit and those before it, how many digits it has, and that they read back as the number.
-- Assumes nothing.
use Prim.Native.Nat.{ℕ, zero, suc, ◌+◌, ◌*◌, ◌-◌, ◌/◌, ◌%◌, ◌^◌, ◌≤◌, ◌<◌}
use native.Mathlib.Nat.{pow-suc}
use native.Mathlib.Decide.{dec_lt}
use native.Mathlib.Omega.{arith}
use mathlib.Core.Path.{◌≡◌, refl, ap}
use mathlib.Core.Bool.{Bool, true, false}
use mathlib.Core.List.{List, [], ◌∷◌, ◌++◌}
use borrow.Author.Tests.{lt-ltb, le-ltb, ltb-false}
use lib.Dec.{ltb}
use lib.ListN.{length, length-append}
use Rattle.digits.specs.Decimal.{digit, digits, decimal}

-- One digit.
pub decimal_one : (n : ℕ) → n < 10 → decimal n ≡ digit n ∷ []
unfolding decimal digits
decimal_one n small = rw (lt-ltb n 10 small) refl

-- Any bound that is enough gives the same digits.
enough : (f g n : ℕ) → n < f → n < g → digits f n ≡ digits g n
unfolding digits
enough zero g n a b = let never : ⊥ = omega arith in absurd never
enough (suc f) zero n a b = let never : ⊥ = omega arith in absurd never
enough (suc f) (suc g) n a b = go (ltb n 10) refl (λ (x : n / 10 < f) (y : n / 10 < g). enough f g (n / 10) x y)
  where
    go : (t : Bool) → ltb n 10 ≡ t → (n / 10 < f → n / 10 < g → digits f (n / 10) ≡ digits g (n / 10)) → digits (suc f) n ≡ digits (suc g) n
    go true e ih = rw e refl
    go false e ih =
        let more : 10 ≤ n = ltb-false n 10 e in
        rw (e, ih (omega arith) (omega arith)) refl

-- More than one: those before the last, and the last.
pub decimal_more : (n : ℕ) → 10 ≤ n → decimal n ≡ decimal (n / 10) ++ (digit (n % 10) ∷ [])
unfolding decimal digits
decimal_more n more =
    rw (le-ltb n 10 more) (ap (λ l. l ++ (digit (n % 10) ∷ [])) (enough n (suc (n / 10)) (n / 10) (omega arith) (omega arith)))

-- A number below 10 ^ (k + 1) has at most k + 1 digits.
pub decimal-length : (k n : ℕ) → n < 10 ^ suc k → length (decimal n) ≤ suc k
decimal-length zero n few = rw (decimal_one n few) (omega arith)
decimal-length (suc k) n few = go (dec_lt n 10) (λ (h : n / 10 < 10 ^ suc k). decimal-length k (n / 10) h)
  where
    go : Dec (n < 10) → (n / 10 < 10 ^ suc k → length (decimal (n / 10)) ≤ suc k) → length (decimal n) ≤ suc (suc k)
    go (yes small) ih = rw (decimal_one n small) (omega arith)
    go (no large) ih =
        let most : n < 10 ^ suc k * 10 = rw pow-suc at few in
        let before : length (decimal (n / 10)) ≤ suc k = ih (omega arith) in
        rw (decimal_more n (omega arith), length-append) (omega arith)

-- Digits read as a number, after those that were read before.
abbrev pub reading : ℕ → List ℕ → ℕ
reading n [] = n
reading n (c ∷ text) = reading (10 * n + (c - 48)) text

reading_append : (n : ℕ) (a b : List ℕ) → reading n (a ++ b) ≡ reading (reading n a) b
reading_append n [] b = refl
reading_append n (c ∷ a) b = reading_append (10 * n + (c - 48)) a b

-- Enough digits read back as the number,
digits_read : (most n : ℕ) → n < most → reading 0 (digits most n) ≡ n
unfolding digits
digits_read zero n few = omega arith
digits_read (suc most) n few = go (ltb n 10) refl (λ (h : n / 10 < most). digits_read most (n / 10) h)
  where
    go : (t : Bool) → ltb n 10 ≡ t → (n / 10 < most → reading 0 (digits most (n / 10)) ≡ n / 10) → reading 0 (digits (suc most) n) ≡ n
    go true e ih = rw e (omega arith)
    go false e ih =
        let more : 10 ≤ n = ltb-false n 10 e in
        let before : reading 0 (digits most (n / 10)) ≡ n / 10 = ih (omega arith) in
        rw (e, reading_append 0 (digits most (n / 10)) (digit (n % 10) ∷ []), before) (omega arith)

-- so no two numbers have the same text.
pub decimal_read : (n : ℕ) → reading 0 (decimal n) ≡ n
unfolding decimal
decimal_read n = digits_read (suc n) n (omega arith)
