-- The arrival lemma: members of a collection that are at least p apart under some key, with all keys in [x, x + y], number at
-- most 1 + y / p. And of a collection whose members are of some sources, there are at most as many as the bounds for those sources
-- sum up to. Assumes nothing.
use Prim.Native.Nat.{ℕ, zero, suc, ◌+◌, ◌-◌, ◌*◌, ◌/◌, ◌≤◌, ◌<◌}
use mathlib.Core.Path.{◌≡◌, refl, ap, subst}
use mathlib.Core.Logic.Dec
use mathlib.Core.Logic.{◌⊎◌, inl, inr}
use mathlib.Core.List.Memᴰ
use mathlib.Core.List.{List, [], ◌∷◌, Memᴰ}
use native.Mathlib.Omega.{arith}
use native.Mathlib.Decide.{ℕ_discrete}
use native.Mathlib.Nat.{le-div_iff_mul-le}
use Rattle.theory.specs.Sum.{sum}
use Rattle.theory.proofs.Counting.{count, count_yes, count_no, count_witness, count_cover, count_mono}

-- Any two members below n are at least p apart under the key.
abbrev pub Apart : (ℕ → Type 0) → (ℕ → ℕ) → ℕ → ℕ → Type 0
Apart P key p n = (a b : ℕ) → a < b → b < n → P a → P b → key a + p ≤ key b

-- Members from x on, each at least p before e, take at least their number times p.
spread : {P : ℕ → Type 0} (P? : (i : ℕ) → Dec (P i)) (key : ℕ → ℕ) (p x n e : ℕ) →
    Apart P key p n →
    ((i : ℕ) → i < n → P i → x ≤ key i) →
    ((i : ℕ) → i < n → P i → key i + p ≤ e) →
    x ≤ e →
    count P? n * p + x ≤ e
unfolding count
spread P? key p x zero e apart from to h = omega arith
spread {P} P? key p x (suc n) e apart from to h =
    go (λ e'. spread P? key p x n e' (λ a b l m. apart a b l (omega arith)) (λ i l. from i (omega arith))) (P? n)
  where
    go : ((e' : ℕ) → ((i : ℕ) → i < n → P i → key i + p ≤ e') → x ≤ e' → count P? n * p + x ≤ e')
        → Dec (P n)
        → count P? (suc n) * p + x ≤ e
    go ih (yes m) =
        let b : count P? n * p + x ≤ key n = ih (key n) (λ i l k. apart i n l (omega arith) k m) (from n (omega arith) m) in
        omega (arith, ap (λ (c : ℕ). c * p) (count_yes P? n m), to n (omega arith) m)
    go ih (no m) = omega (arith, ap (λ (c : ℕ). c * p) (count_no P? n m), ih e (λ i l. to i (omega arith)) h)

-- The arrival lemma.
pub arrivals : {P : ℕ → Type 0} (P? : (i : ℕ) → Dec (P i)) (key : ℕ → ℕ) (p x y n : ℕ) →
    1 ≤ p →
    Apart P key p n →
    ((i : ℕ) → i < n → P i → (x ≤ key i) × (key i ≤ x + y)) →
    count P? n ≤ 1 + y / p
arrivals {P} P? key p x y n one apart within = go (count P? n) refl
  where
    all : count P? n * p + x ≤ x + y + p
    all =
        spread
        P?
        key
        p
        x
        n
        (x + y + p)
        apart
        (λ i h m. (within i h m).0)
        (λ i h m. omega (arith, (within i h m).1))
        (omega arith)

    go : (c : ℕ) → count P? n ≡ c → count P? n ≤ 1 + y / p
    go zero e = omega arith
    go (suc c) e =
        let b : c ≤ y / p = (le-div_iff_mul-le one).1 (omega (arith, all, ap (λ (k : ℕ). k * p) e)) in
        omega arith

-- Where each two successive members are at least p apart, any two are.
pub successive_apart : {P : ℕ → Type 0} (P? : (i : ℕ) → Dec (P i)) (key : ℕ → ℕ) (p n : ℕ) →
    ((a b : ℕ) → a < b → b < n → P a → P b → ((i : ℕ) → a < i → i < b → P i → ⊥) → key a + p ≤ key b) →
    Apart P key p n
successive_apart P? key p zero next a b l h m m' = omega arith
successive_apart {P} P? key p (suc n) next a b l h m m' =
    scan
    (successive_apart P? key p n (λ a b l h. next a b l (omega arith)) a)
    (b - suc a)
    (omega arith)
    (λ i u v k. absurd (omega arith))
  where
    -- down from b: a + k is the last that may be a member before b
    scan : ((c : ℕ) → a < c → c < n → P a → P c → key a + p ≤ key c)
        → (k : ℕ)
        → a + k < b
        → ((i : ℕ) → a + k < i → i < b → P i → ⊥)
        → key a + p ≤ key b
    scan ih zero u none = next a b l h m m' (λ i f g. none i (omega arith) g)
    scan ih (suc k) u none = go (scan ih k (omega arith)) (P? (a + suc k))
      where
        other : (P (a + suc k) → ⊥) → (i : ℕ) → a + k < i → i < b → P i → Dec (i ≡ a + suc k) → ⊥
        other d i f g q (yes e) = d (subst P e q)
        other d i f g q (no e) = none i (omega arith) g q

        go : (((i : ℕ) → a + k < i → i < b → P i → ⊥) → key a + p ≤ key b) → Dec (P (a + suc k)) → key a + p ≤ key b
        go back (yes q) =
            omega (arith, ih (a + suc k) (omega arith) (omega arith) m q, next (a + suc k) b u h q m' none)
        go back (no d) = back (λ i f g q. other d i f g q (ℕ_discrete i (a + suc k)))

-- Where each member is of something in a list, there are at most as many as the sum of the bounds for those.
pub count_sum : {A : Type 0} {Of : A → ℕ → Type 0} (of? : (y : A) (i : ℕ) → Dec (Of y i)) (bound : A → ℕ) (n : ℕ) (ys : List A)
    {P : ℕ → Type 0} (P? : (i : ℕ) → Dec (P i)) →
    ((i : ℕ) → i < n → P i → (y : A) × Memᴰ y ys × Of y i) →
    ((y : A) → Memᴰ y ys → count (λ i. Dec.and (P? i) (of? y i)) n ≤ bound y) →
    count P? n ≤ sum bound ys
unfolding sum
count_sum of? bound n [] P? each most = go (count P? n) refl
  where
    go : (c : ℕ) → count P? n ≡ c → count P? n ≤ 0
    go zero e = omega arith
    go (suc c) e =
        let w = count_witness P? n (omega arith) in
        absurd (Memᴰ.not-nil (each w.0 w.1 w.2).1)
count_sum {A} {Of} of? bound n (y ∷ ys) {P} P? each most =
    omega (
      arith,
      count_cover P? (λ i. Dec.and (P? i) (of? y i)) rest? n (λ i h m. part i m (of? y i)),
      most y (Memᴰ.head refl),
      count_sum of? bound n ys rest? (λ i h m. others i m (each i h m.0)) fewer,
    )
  where
    Rest : ℕ → Type 0
    Rest i = P i × (Of y i → ⊥)

    rest? : (i : ℕ) → Dec (Rest i)
    rest? i = Dec.and (P? i) (Dec.not (of? y i))

    part : (i : ℕ) → P i → Dec (Of y i) → (P i × Of y i) ⊎ Rest i
    part i m (yes o) = inl (m, o)
    part i m (no o) = inr (m, o)

    others : (i : ℕ) → Rest i → (z : A) × Memᴰ z (y ∷ ys) × Of z i → (z : A) × Memᴰ z ys × Of z i
    others i (m, d) (z, k, o) = go (Memᴰ.cases_cons k)
      where
        go : (z ≡ y) ⊎ Memᴰ z ys → (z : A) × Memᴰ z ys × Of z i
        go (inl e) = absurd (d (subst (λ (w : A). Of w i) e o))
        go (inr k') = (z, k', o)

    fewer : (z : A) → Memᴰ z ys → count (λ i. Dec.and (rest? i) (of? z i)) n ≤ bound z
    fewer z k =
        omega (
          arith,
          count_mono (λ i. Dec.and (rest? i) (of? z i)) (λ i. Dec.and (P? i) (of? z i)) n (λ i h (m, o). (m.0, o)),
          most z (Memᴰ.tail k),
        )
