-- How refusals are put in order: "The first that applies is given and none is given otherwise." Rules 6.1 and 7.2. Assumes nothing.
use Rattle.std.specs.Prelude.{ℕ, zero, suc, Bool, cond, ◌||◌, eqb, ltb}
use Rattle.model.specs.declared.Answer.{Answer}

infixr 20 ◌or_else◌
-- Success with its two numbers.
abbrev pub success : ℕ → ℕ → Answer
success a b = record { number = 0; second = a; third = b }

-- A refusal with its number and its place.
abbrev pub refuse : ℕ → ℕ → ℕ → Answer
refuse number a b = record { number = number; second = a; third = b }

-- No reason to refuse has been found (yet).
abbrev pub accepted : Answer
accepted = success 0 0

-- The answer where the test holds, and no reason to refuse otherwise.
unfoldable pub refuse_if : Bool → Answer → Answer
refuse_if test a = cond test a accepted

-- The first answer if it refuses, and the second otherwise.
unfoldable pub ◌or_else◌ : Answer → Answer → Answer
a or_else b = cond (eqb a.number 0) b a

-- The first refusal among f at `from`, the number after it, and so on, `count` of them; accepted where none refuses.
unfoldable pub first_of : (ℕ → Answer) → ℕ → ℕ → Answer
first_of f from zero = accepted
first_of f from (suc count) = f from or_else first_of f (suc from) count

-- A number that is "out of range": below the least or above the most.
unfoldable pub outside : ℕ → ℕ → ℕ → Bool
outside least most x = ltb x least || ltb most x
