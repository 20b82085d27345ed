-- The places of a list of numbers. Assumes nothing.
use Prim.Native.Nat.{ℕ, zero, suc, ◌≤◌, ◌<◌}
use mathlib.Core.Path.{◌≡◌, refl}
use mathlib.Core.Logic.{◌⊎◌, inl, inr}
use mathlib.Core.List.{List, [], ◌∷◌}
use native.Mathlib.Decide.{ℕ_discrete}
use native.Mathlib.Omega.{arith}
use lib.ListN.{length, get_or}
use Rattle.theory.proofs.Counting.{count, count_yes, count_no, count_witness, count_cover}

-- Place p of a list, counted from 0, has x.
pub data At : (xs : List ℕ) (p x : ℕ) → Type 0 where
  here : {x : ℕ} {xs : List ℕ} → At (x ∷ xs) 0 x
  later : {x y p : ℕ} {xs : List ℕ} → At xs p x → At (y ∷ xs) (suc p) x

-- Each place has one.
pub at_place : (xs : List ℕ) (p : ℕ) → p < length xs → (x : ℕ) × At xs p x
at_place [] p h = absurd (omega arith)
at_place (x ∷ xs) zero h = (x, here)
at_place (x ∷ xs) (suc p) h = let w = at_place xs p (omega arith) in (w.0, later w.1)

-- It is the word there.
pub at_word : (xs : List ℕ) (p : ℕ) → p < length xs → At xs p (get_or xs p 0)
at_word [] p h = absurd (omega arith)
at_word (x ∷ xs) zero h = here
at_word (x ∷ xs) (suc p) h = later (at_word xs p (omega arith))

-- And a place that has one is a place of the list.
pub at_below : {xs : List ℕ} {p x : ℕ} → At xs p x → p < length xs
at_below here = omega arith
at_below (later a) = let b = at_below a in omega arith

-- Whether x is on a list: at a place of it, or nowhere.
pub at? : (xs : List ℕ) (x : ℕ) → Dec ((p : ℕ) × At xs p x)
at? [] x = no (λ w. omega (arith, at_below w.1))
at? (y ∷ xs) x = go (ℕ_discrete x y) (at? xs x)
  where
    elsewhere : {z w p : ℕ} {zs : List ℕ} → (z ≡ w → ⊥) → ((p : ℕ) × At zs p z → ⊥) → At (w ∷ zs) p z → ⊥
    elsewhere apart absent here = apart refl
    elsewhere apart absent (later {p = p} a) = absent (p, a)

    go : Dec (x ≡ y) → Dec ((p : ℕ) × At xs p x) → Dec ((p : ℕ) × At (y ∷ xs) p x)
    go (yes same) d = yes (0, rw same here)
    go (no apart) (yes w) = yes (suc w.0, later w.1)
    go (no apart) (no absent) = no (λ w. elsewhere apart absent w.1)

-- Only one number is x.
count_one : (x n : ℕ) → count (λ i. ℕ_discrete i x) n ≤ 1
unfolding count
count_one x zero = omega arith
count_one x (suc n) = go (ℕ_discrete n x) (count_one x n)
  where
    -- none below x is x
    below : n ≡ x → (c : ℕ) → count (λ i. ℕ_discrete i x) n ≡ c → c ≡ 0
    below same zero e = refl
    below same (suc c) e =
        let w = count_witness (λ i. ℕ_discrete i x) n (omega arith) in
        absurd (omega (arith, w.1, w.2))

    go : Dec (n ≡ x) → count (λ i. ℕ_discrete i x) n ≤ 1 → count (λ i. ℕ_discrete i x) (suc n) ≤ 1
    go (yes same) ih =
        omega (arith, count_yes (λ i. ℕ_discrete i x) n same, below same (count (λ i. ℕ_discrete i x) n) refl)
    go (no other) ih = omega (arith, count_no (λ i. ℕ_discrete i x) n other)

-- Numbers that all stand on a list are at most as many as it has places.
pub count_listed : {P : ℕ → Type 0} (P? : (i : ℕ) → Dec (P i)) (n : ℕ) (xs : List ℕ)
    → ((i : ℕ) → i < n → P i → (p : ℕ) × At xs p i)
    → count P? n ≤ length xs
count_listed P? n [] each = go (count P? n) refl
  where
    go : (c : ℕ) → count P? n ≡ c → c ≤ 0
    go zero e = omega arith
    go (suc c) e =
        let w = count_witness P? n (omega arith) in
        absurd (omega (arith, at_below (each w.0 w.1 w.2).1))
count_listed P? n (x ∷ xs) each =
    omega (
      arith,
      count_one x n,
      count_listed (λ i. at? xs i) n xs (λ i h w. w),
      count_cover P? (λ i. ℕ_discrete i x) (λ i. at? xs i) n (λ i h m. part (each i h m).1),
    )
  where
    part : {z y p : ℕ} {zs : List ℕ} → At (y ∷ zs) p z → (z ≡ y) ⊎ ((p : ℕ) × At zs p z)
    part here = inl refl
    part (later {p = p} a) = inr (p, a)
