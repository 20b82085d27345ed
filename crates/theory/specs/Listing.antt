-- Lists made number by number, and values written over a part of a list. Assumes nothing.
use Rattle.std.specs.Prelude.{ℕ, zero, suc, ◌+◌, Bool, cond, List, [], ◌∷◌, ◌++◌, length, take, drop, ltb}

-- f at `from`, at the number after it, and so on, `count` values.
unfoldable pub values_from : {X : Type 0} → (ℕ → X) → ℕ → ℕ → List X
values_from f from zero = []
values_from f from (suc count) = f from ∷ values_from f (suc from) count

-- The list f at `from`, then the one at the number after it, and so on, `count` lists joined into one.
unfoldable pub joined_from : {X : Type 0} → (ℕ → List X) → ℕ → ℕ → List X
joined_from f from zero = []
joined_from f from (suc count) = f from ++ joined_from f (suc from) count

-- A list with other values at a place, where they fit.
abbrev pub replaced_at : List ℕ → ℕ → List ℕ → List ℕ
replaced_at xs at values = take at xs ++ (values ++ drop (at + length values) xs)

-- A list with values in its first words; one that is too short for them stays as it is.
unfoldable pub put_front : List ℕ → List ℕ → List ℕ
put_front values xs = cond (ltb (length xs) (length values)) xs (values ++ drop (length values) xs)

-- The numbers below a bound for which a test holds, the least first.
unfoldable pub holding_below : (ℕ → Bool) → ℕ → List ℕ
holding_below test zero = []
holding_below test (suc i) = cond (test i) (holding_below test i ++ i ∷ []) (holding_below test i)
