-- Counting the numbers below a bound that satisfy a decidable predicate: what covers a collection is at least as many, disjoint
-- parts of it are at most as many, and members that stand at different places are at least as many as the places. Assumes
-- nothing.
use Prim.Native.Nat.{ℕ, zero, suc, ◌+◌, ◌≤◌, ◌<◌}
use mathlib.Core.Path.{◌≡◌, refl, sym, ap, subst}
use mathlib.Core.Logic.Dec
use mathlib.Core.Logic.{◌⊎◌, inl, inr, ite, if_pos, if_neg}
use mathlib.Core.Bool.{Bool, true, false, cond, Bool-discrete}
use native.Mathlib.Omega.{arith}
use native.Mathlib.Decide.{ℕ_discrete}
use Rattle.theory.specs.Count.{count_below}

-- How many numbers below a bound satisfy a predicate.
unfoldable pub count : {P : ℕ → Type 0} → ((i : ℕ) → Dec (P i)) → ℕ → ℕ
count P? zero = 0
count P? (suc n) = ite (P? n) (suc (count P? n)) (count P? n)

module _ {P : ℕ → Type 0} (P? : (i : ℕ) → Dec (P i)) where
  -- A member at the bound counts one more.
  pub count_yes : (n : ℕ) → P n → count P? (suc n) ≡ suc (count P? n)
  unfolding count
  count_yes n p = if_pos (P? n) p _ _

  -- Another number at the bound counts nothing.
  pub count_no : (n : ℕ) → (P n → ⊥) → count P? (suc n) ≡ count P? n
  unfolding count
  count_no n h = if_neg (P? n) h _ _

  -- A higher bound counts no fewer.
  count_grows : (n : ℕ) → count P? n ≤ count P? (suc n)
  count_grows n = go (P? n)
    where
      go : Dec (P n) → count P? n ≤ count P? (suc n)
      go (yes p) = omega (arith, count_yes n p)
      go (no h) = omega (arith, count_no n h)

  -- Where there is a member, the count is at least one.
  pub count_positive : (n i : ℕ) → i < n → P i → 1 ≤ count P? n
  count_positive zero i h p = omega arith
  count_positive (suc n) i h p = go (ℕ_discrete i n) (λ l. count_positive n i l p)
    where
      go : Dec (i ≡ n) → (i < n → 1 ≤ count P? n) → 1 ≤ count P? (suc n)
      go (yes e) ih = omega (arith, count_yes n (subst P e p))
      go (no d) ih = let b : 1 ≤ count P? n = ih (omega arith) in omega (arith, count_grows n)

  -- Where the count is at least one, there is a member.
  pub count_witness : (n : ℕ) → 1 ≤ count P? n → (i : ℕ) × (i < n) × P i
  unfolding count
  count_witness zero h = absurd (omega arith)
  count_witness (suc n) h = go (P? n) (count_witness n)
    where
      go : Dec (P n) → (1 ≤ count P? n → (i : ℕ) × (i < n) × P i) → (i : ℕ) × (i < suc n) × P i
      go (yes p) ih = (n, omega arith, p)
      go (no d) ih =
          let b : 1 ≤ count P? n = omega (arith, count_no n d) in
          let w : (i : ℕ) × (i < n) × P i = ih b in
          (w.0, omega arith, w.2)

module _ {P Q R : ℕ → Type 0} (P? : (i : ℕ) → Dec (P i)) (Q? : (i : ℕ) → Dec (Q i)) (R? : (i : ℕ) → Dec (R i)) where
  -- Two collections that cover a third have together at least as many.
  pub count_cover : (n : ℕ) → ((i : ℕ) → i < n → P i → Q i ⊎ R i) → count P? n ≤ count Q? n + count R? n
  unfolding count
  count_cover zero f = omega arith
  count_cover (suc n) f = go (count_cover n (λ i h p. f i (omega arith) p)) (P? n)
    where
      part : Q n ⊎ R n → count Q? n + count R? n < count Q? (suc n) + count R? (suc n)
      part (inl q) = omega (arith, count_yes Q? n q, count_grows R? n)
      part (inr r) = omega (arith, count_yes R? n r, count_grows Q? n)

      go : count P? n ≤ count Q? n + count R? n → Dec (P n) → count P? (suc n) ≤ count Q? (suc n) + count R? (suc n)
      go ih (yes p) = omega (arith, count_yes P? n p, part (f n (omega arith) p))
      go ih (no d) = omega (arith, count_no P? n d, count_grows Q? n, count_grows R? n)

  -- Two parts of a collection without a common member have together at most as many.
  pub count_disjoint : (n : ℕ) →
      ((i : ℕ) → i < n → Q i → P i) →
      ((i : ℕ) → i < n → R i → P i) →
      ((i : ℕ) → i < n → Q i → R i → ⊥) →
      count Q? n + count R? n ≤ count P? n
  unfolding count
  count_disjoint zero f g apart = omega arith
  count_disjoint (suc n) f g apart =
      go
      (count_disjoint n (λ i h. f i (omega arith)) (λ i h. g i (omega arith)) (λ i h. apart i (omega arith)))
      (Q? n)
      (R? n)
    where
      go : count Q? n + count R? n ≤ count P? n → Dec (Q n) → Dec (R n) → count Q? (suc n) + count R? (suc n) ≤ count P? (suc n)
      go ih (yes q) (yes r) = absurd (apart n (omega arith) q r)
      go ih (yes q) (no b) = omega (arith, count_yes Q? n q, count_no R? n b, count_yes P? n (f n (omega arith) q))
      go ih (no a) (yes r) = omega (arith, count_no Q? n a, count_yes R? n r, count_yes P? n (g n (omega arith) r))
      go ih (no a) (no b) = omega (arith, count_no Q? n a, count_no R? n b, count_grows P? n)

-- A part of a collection has at most as many.
pub count_mono : {P Q : ℕ → Type 0} (P? : (i : ℕ) → Dec (P i)) (Q? : (i : ℕ) → Dec (Q i)) (n : ℕ) →
    ((i : ℕ) → i < n → P i → Q i) →
    count P? n ≤ count Q? n
count_mono P? Q? n f =
    omega (arith, count_disjoint {R = λ i. ⊥} Q? P? (λ i. no (λ x. x)) n f (λ i h x. absurd x) (λ i h p x. x))

-- The members of a collection other than i.
Others : (ℕ → Type 0) → ℕ → ℕ → Type 0
Others P i j = P j × (j ≡ i → ⊥)

others? : {P : ℕ → Type 0} → ((i : ℕ) → Dec (P i)) → (i j : ℕ) → Dec (Others P i j)
unfolding Others
others? P? i j = Dec.and (P? j) (Dec.not (ℕ_discrete j i))

-- Without one member there are fewer.
count_others : {P : ℕ → Type 0} (P? : (i : ℕ) → Dec (P i)) (n i : ℕ) → i < n → P i → count (others? P? i) n < count P? n
unfolding Others
count_others {P} P? n i h p =
    omega (
      arith,
      count_positive itself? n i h refl,
      count_disjoint P? (others? P? i) itself? n (λ j l o. o.0) (λ j l e. subst P (sym e) p) (λ j l o e. o.1 e),
    )
  where
    itself? : (j : ℕ) → Dec (j ≡ i)
    itself? j = ℕ_discrete j i

-- Where each of k places has a member, and no member stands at two places, there are at least k members.
pub count_places : {P : ℕ → Type 0} (P? : (i : ℕ) → Dec (P i)) (At : ℕ → ℕ → Type 0) (n k : ℕ) →
    ((p : ℕ) → p < k → (i : ℕ) × (i < n) × P i × At p i) →
    ((p q i : ℕ) → p < q → At p i → At q i → ⊥) →
    k ≤ count P? n
unfolding Others
count_places {P = P} P? At n zero each once = omega arith
count_places {P = P} P? At n (suc k) each once =
    let w : (i : ℕ) × (i < n) × P i × At k i = each k (omega arith) in
    let rest = count_places {P = Others P w.0} (others? P? w.0) At n k (λ p h. other w p h (each p (omega arith))) once in
    omega (arith, count_others P? n w.0 w.1 w.2)
  where
    other : (w : (i : ℕ) × (i < n) × P i × At k i) (p : ℕ) →
        p < k →
        (i : ℕ) × (i < n) × P i × At p i →
        (i : ℕ) × (i < n) × Others P w.0 i × At p i
    other w p h (i, l, m, a) = (i, l, (m, λ e. once p k w.0 h (subst (At p) e a) w.3), a)

-- The count of a test that computes is the count of the numbers that pass it.
pub count_below_count : (test : ℕ → Bool) (n : ℕ) → count_below test n ≡ count (λ i. Bool-discrete (test i) true) n
unfolding count_below count
count_below_count test zero = refl
count_below_count test (suc n) = go (test n) (count_below_count test n)
  where
    go : {x y : ℕ} (b : Bool) → x ≡ y → cond b (suc x) x ≡ ite (Bool-discrete b true) (suc y) y
    go true e = ap suc e
    go false e = e

-- Tests that agree below the bound count the same.
pub count_below_same : (f g : ℕ → Bool) (n : ℕ) → ((i : ℕ) → i < n → f i ≡ g i) → count_below f n ≡ count_below g n
unfolding count_below
count_below_same f g zero agree = refl
count_below_same f g (suc n) agree = rw (agree n (omega arith), count_below_same f g n λ i h. agree i (omega arith))

-- A test holds for at most as many numbers as there are below the bound.
pub count_below_most : (test : ℕ → Bool) (n : ℕ) → count_below test n ≤ n
unfolding count_below
count_below_most test zero = omega arith
count_below_most test (suc n) = go (test n) (count_below_most test n)
  where
    go : {x : ℕ} (b : Bool) → x ≤ n → cond b (suc x) x ≤ suc n
    go true h = omega arith
    go false h = omega arith
