-- Counting, and the largest of some numbers. Assumes nothing.
use Rattle.std.specs.Prelude.{ℕ, zero, suc, Bool, cond, ltb}

-- How many numbers below a bound a test holds for.
unfoldable pub count_below : (ℕ → Bool) → ℕ → ℕ
count_below test zero = 0
count_below test (suc i) = cond (test i) (suc (count_below test i)) (count_below test i)

-- The larger of two numbers.
unfoldable pub larger : ℕ → ℕ → ℕ
larger a b = cond (ltb a b) b a

-- The largest value that numbers below a bound have, of those for which a test holds; 0 where it holds for none.
unfoldable pub largest_below : (ℕ → Bool) → (ℕ → ℕ) → ℕ → ℕ
largest_below test value zero = 0
largest_below test value (suc i) = cond (test i) (larger (largest_below test value i) (value i)) (largest_below test value i)
