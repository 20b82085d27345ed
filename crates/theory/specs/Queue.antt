-- A queue: who waits of a collection, in some order, and the first ones of it. Assumes nothing.
use Rattle.std.specs.Prelude.{ℕ, zero, suc, ◌<◌, ◌≡◌, Bool, true, false, cond, not, ◌||◌, ◌&&◌, List, [], ◌∷◌, ltb, eqb, length, get_or}

-- The first of a collection in an order: of the numbers below `count` for which the test holds, the one before all others;
-- `none` where it holds for none.
unfoldable pub first_in : (ℕ → Bool) → (ℕ → ℕ → Bool) → ℕ → ℕ → ℕ
first_in test before none zero = none
first_in test before none (suc i) =
    let best = first_in test before none i in
    cond (test i && (eqb best none || before i best)) i best

-- A queue: how many there are that may be in it, numbered from 0; who of them waits; and who comes before whom.
pub record Queue : Type 0 where
  pub size : ℕ
  pub waits : ℕ → Bool
  pub before : ℕ → ℕ → Bool

-- The first in the queue, or its size where nobody waits.
unfoldable pub first : Queue → ℕ
first q = first_in q.waits q.before q.size q.size

-- The queue once i has left it.
abbrev pub without : ℕ → Queue → Queue
without i q = record { size = q.size; waits = λ n. q.waits n && not (eqb n i); before = q.before }

-- The first ones in the queue, in its order: at most so many, or fewer if fewer wait.
unfoldable pub first_ones : ℕ → Queue → List ℕ
first_ones zero q = []
first_ones (suc most) q =
    let i = first q in
    elim (ltb i q.size) [
      | true ↦ i ∷ first_ones most (without i q)
      | false ↦ []
    ]

-- A line with i put in before the first that it comes before, or at its end.
unfoldable pub inserted : (ℕ → ℕ → Bool) → ℕ → List ℕ → List ℕ
inserted before i [] = i ∷ []
inserted before i (x ∷ xs) = cond (before i x) (i ∷ x ∷ xs) (x ∷ inserted before i xs)

-- A line in order: each comes before all that stand after it.
abbrev pub InOrder : (ℕ → ℕ → Bool) → List ℕ → Type 0
InOrder before xs = (p r : ℕ) → p < r → r < length xs → before (get_or xs p 0) (get_or xs r 0) ≡ true
