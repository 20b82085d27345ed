-- Sums: they grow with their terms and with their lists, and are the same by parts. Assumes nothing.
use Prim.Native.Nat.{ℕ, zero, suc, pred, ◌+◌, ◌*◌, ◌≤◌, ◌<◌, zero-le}
use native.Mathlib.Nat.{le_refl, le_step, eq-or-lt_of_le, add-mul}
use native.Mathlib.Numerals.{add-one}
use native.Mathlib.Decide.{le_ind}
use native.Mathlib.Omega.{arith}
use mathlib.Core.Path.{◌≡◌, refl, sym, ap}
use mathlib.Core.Logic.{⊎_elim}
use mathlib.Core.List.Memᴰ
use mathlib.Core.List.{List, [], ◌∷◌, Memᴰ}
use lib.ListN.{length, get_or, take}
use Rattle.theory.specs.Sum.{sum, up_to, sum_to}

module _ {A : Type 0} where
  -- Larger terms have no smaller sum.
  pub sum_mono : (f g : A → ℕ) (ys : List A) → ((y : A) → Memᴰ y ys → f y ≤ g y) → sum f ys ≤ sum g ys
  unfolding sum
  sum_mono f g [] more = zero-le
  sum_mono f g (y ∷ ys) more =
      omega (arith, more y (Memᴰ.head refl), sum_mono f g ys (λ z m. more z (Memᴰ.tail m)))

  -- A sum of sums is the sum of both,
  pub sum_plus : (f g : A → ℕ) (ys : List A) → sum (λ y. f y + g y) ys ≡ sum f ys + sum g ys
  unfolding sum
  sum_plus f g [] = refl
  sum_plus f g (y ∷ ys) = omega (arith, sum_plus f g ys)

  -- a factor comes out of a sum,
  pub sum-scale : (f : A → ℕ) (c : ℕ) (ys : List A) → sum (λ y. f y * c) ys ≡ sum f ys * c
  unfolding sum
  sum-scale f c [] = omega arith
  sum-scale f c (y ∷ ys) = rw (sum-scale f c ys) (sym (add-mul (f y) (sum f ys) c))

  -- and a sum of one number for each is that number times as many.
  pub sum_const : (c : ℕ) (ys : List A) → sum (λ (y : A). c) ys ≡ length ys * c
  unfolding sum
  sum_const c [] = omega arith
  sum_const c (y ∷ ys) = omega (arith, sum_const c ys)

-- The sum over one more of a list's first ones has its term.
pub sum_next : (f : ℕ → ℕ) (xs : List ℕ) (i : ℕ) → i < length xs → sum f (take (i + 1) xs) ≡ sum f (take i xs) + f (get_or xs i 0)
unfolding sum
sum_next f xs i inside = rw (add-one i) (go xs i inside)
  where
    go : (xs : List ℕ) (i : ℕ) → i < length xs → sum f (take (suc i) xs) ≡ sum f (take i xs) + f (get_or xs i 0)
    go [] i inside = absurd (omega arith)
    go (x ∷ xs) zero inside = omega arith
    go (x ∷ xs) (suc i) inside = omega (arith, go xs i (omega arith))

module _ (f : ℕ → ℕ) where
  -- Up to 0 there is nothing to add.
  pub sum_to_none : sum_to f 0 ≡ 0
  unfolding sum up_to
  sum_to_none = refl

  -- One number more.
  pub sum_to_next : (n : ℕ) → sum_to f (suc n) ≡ sum_to f n + f (suc n)
  unfolding sum up_to
  sum_to_next n = omega arith

  -- The sum so far and the next term are the sum up to the next number.
  pub sum_to_more : (i : ℕ) {so_far term : ℕ} → so_far ≡ sum_to f i → term ≡ f (i + 1) → so_far + term ≡ sum_to f (i + 1)
  sum_to_more i e g = rw (add-one i) (omega (arith, e, rw (add-one i) at g, sum_to_next i))

  -- The sum up to a number is that before it and its own term.
  pub sum_to_split : (n : ℕ) → 1 ≤ n → sum_to f n ≡ sum_to f (pred n) + f n
  sum_to_split zero h = absurd (omega arith)
  sum_to_split (suc n) h = sum_to_next n

  -- A sum up to a later number is no smaller.
  pub sum_to_grows : (a b : ℕ) → a ≤ b → sum_to f a ≤ sum_to f b
  sum_to_grows a b h = le_ind (λ m. sum_to f a ≤ sum_to f m) (le_refl _) (λ m from ih. omega (arith, sum_to_next m)) b h

  -- A sum before the last number and the next term are not more than the whole.
  pub sum_to_room : (i n : ℕ) → i < n → sum_to f i + f (i + 1) ≤ sum_to f n
  sum_to_room i n inside = rw (add-one i) (omega (arith, sum_to_next i, sum_to_grows (suc i) n inside))

-- A sum up to a number is its first term and that of the later ones.
pub sum_to-first_lem : (f : ℕ → ℕ) (n : ℕ) → sum_to f (suc n) ≡ f 1 + sum_to (λ i. f (suc i)) n
sum_to-first_lem f zero = omega (arith, sum_to_next f 0, sum_to_none f, sum_to_none (λ i. f (suc i)))
sum_to-first_lem f (suc n) = omega (arith, sum_to_next f (suc n), sum_to-first_lem f n, sum_to_next (λ i. f (suc i)) n)

-- The numbers from 1 to n are in range,
pub up_to_range : (n k : ℕ) → Memᴰ k (up_to n) → (1 ≤ k) × (k ≤ n)
unfolding up_to
up_to_range zero k m = absurd (Memᴰ.not-nil m)
up_to_range (suc n) k m =
    ⊎_elim
    (λ e. (omega arith, omega arith))
    (λ l. let h = up_to_range n k l in (h.0, omega arith))
    (Memᴰ.cases_cons m)

-- and they are n.
pub up_to-length_lem : (n : ℕ) → length (up_to n) ≡ n
unfolding up_to
up_to-length_lem zero = refl
up_to-length_lem (suc n) = ap suc (up_to-length_lem n)

-- Terms that are the same have the same sum.
pub sum_to_same : (f g : ℕ → ℕ) (n : ℕ) → ((k : ℕ) → 1 ≤ k → k ≤ n → f k ≡ g k) → sum_to f n ≡ sum_to g n
sum_to_same f g zero same = omega (arith, sum_to_none f, sum_to_none g)
sum_to_same f g (suc n) same =
    omega (
      arith,
      sum_to_next f n,
      sum_to_next g n,
      same (suc n) (omega arith) (le_refl _),
      sum_to_same f g n (λ k low high. same k low (omega arith)),
    )

-- Terms that are no larger have no larger sum,
pub sum_to_mono : (f g : ℕ → ℕ) (n : ℕ) → ((k : ℕ) → 1 ≤ k → k ≤ n → f k ≤ g k) → sum_to f n ≤ sum_to g n
sum_to_mono f g n each = sum_mono f g (up_to n) (λ k m. let h = up_to_range n k m in each k h.0 h.1)

-- and a smaller one where one of them is smaller.
pub sum_to_less : (f g : ℕ → ℕ) (n k : ℕ)
    → ((i : ℕ) → 1 ≤ i → i ≤ n → f i ≤ g i)
    → 1 ≤ k
    → k ≤ n
    → f k < g k
    → sum_to f n < sum_to g n
sum_to_less f g zero k each one inside less = absurd (omega arith)
sum_to_less f g (suc n) k each one inside less =
    let before : (i : ℕ) → 1 ≤ i → i ≤ n → f i ≤ g i = λ i low high. each i low (le_step high) in
    ⊎_elim
    (λ last. omega (arith, sum_to_next f n, sum_to_next g n, sum_to_mono f g n before, rw last at less))
    (λ earlier. omega (arith, sum_to_next f n, sum_to_next g n, sum_to_less f g n k before one (omega arith) less, each (suc n) (omega arith) (le_refl _)))
    (eq-or-lt_of_le inside)

-- Terms that are at most a number have at most so many times that number,
pub sum_to_most : (f : ℕ → ℕ) (most n : ℕ) → ((k : ℕ) → 1 ≤ k → k ≤ n → f k ≤ most) → sum_to f n ≤ n * most
sum_to_most f most n each =
    omega (
      arith,
      sum_mono f (λ k. most) (up_to n) (λ k m. let h = up_to_range n k m in each k h.0 h.1),
      sum_const most (up_to n),
      ap (λ (c : ℕ). c * most) (up_to-length_lem n),
    )

-- and terms that are at least one have at least as many.
pub sum_to_least : (f : ℕ → ℕ) (n : ℕ) → ((k : ℕ) → 1 ≤ k → k ≤ n → 1 ≤ f k) → n ≤ sum_to f n
sum_to_least f n each =
    omega (
      arith,
      sum_mono (λ k. 1) f (up_to n) (λ k m. let h = up_to_range n k m in each k h.0 h.1),
      sum_const 1 (up_to n),
      up_to-length_lem n,
    )
