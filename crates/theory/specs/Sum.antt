-- Sums over a list. Assumes nothing.
use Rattle.std.specs.Prelude.{ℕ, zero, suc, ◌+◌, List, [], ◌∷◌}

-- The sum of a number for each of a list.
unfoldable pub sum : {A : Type 0} → (A → ℕ) → List A → ℕ
sum f [] = 0
sum f (y ∷ ys) = f y + sum f ys

-- The numbers from 1 to n, the last first.
unfoldable pub up_to : ℕ → List ℕ
up_to zero = []
up_to (suc n) = suc n ∷ up_to n

-- The sum of f at 1, 2 and so on up to n.
abbrev pub sum_to : (ℕ → ℕ) → ℕ → ℕ
sum_to f n = sum f (up_to n)
