-- One number more for which a test holds: what it adds to the count, and to the largest value. Assumes nothing.
use Prim.Native.Nat.{ℕ, zero, suc, ◌+◌, ◌≤◌, ◌<◌}
use native.Mathlib.Nat.{le_antisymm, le_refl}
use native.Mathlib.Numerals.{add-one}
use native.Mathlib.Decide.{ℕ_discrete}
use native.Mathlib.Omega.{arith}
use mathlib.Core.Path.{◌≡◌, refl, sym, ◌∙◌, ap}
use mathlib.Core.Bool.{Bool, true, false, cond}
use lib.Dec.{ltb}
use borrow.Author.Tests.{ltb-true, ltb-false}
use Rattle.theory.specs.Count.{count_below, larger, largest_below}
use Rattle.theory.proofs.Counting.{count_below_same}

-- The larger of two numbers is at least the first,
pub larger-first : (a b : ℕ) → a ≤ larger a b
unfolding larger
larger-first a b = go (ltb a b) refl
  where
    go : (t : Bool) → ltb a b ≡ t → a ≤ cond t b a
    go true less = omega (arith, ltb-true a b less)
    go false not-less = le_refl a

-- and the second,
pub larger_second : (a b : ℕ) → b ≤ larger a b
unfolding larger
larger_second a b = go (ltb a b) refl
  where
    go : (t : Bool) → ltb a b ≡ t → b ≤ cond t b a
    go true less = le_refl b
    go false not-less = ltb-false a b not-less

-- and no more than what both are at most.
pub larger_least : (a b c : ℕ) → a ≤ c → b ≤ c → larger a b ≤ c
unfolding larger
larger_least a b c first second = go (ltb a b)
  where
    go : (t : Bool) → cond t b a ≤ c
    go true = second
    go false = first

-- The order in which two numbers come does not matter.
larger_swap : (a b c : ℕ) → larger (larger a b) c ≡ larger (larger a c) b
larger_swap a b c = le_antisymm (at_most b c) (at_most c b)
  where
    at_most : (x y : ℕ) → larger (larger a x) y ≤ larger (larger a y) x
    at_most x y =
        let all = larger-first (larger a y) x in
        larger_least (larger a x) y _
        (larger_least a x _ (omega (arith, all, larger-first a y)) (larger_second (larger a y) x))
        (omega (arith, all, larger_second a y))

-- A test that holds for none counts nothing,
pub count_below_none : (test : ℕ → Bool) (n : ℕ) → ((i : ℕ) → i < n → test i ≡ false) → count_below test n ≡ 0
unfolding count_below
count_below_none test zero out = refl
count_below_none test (suc n) out = rw (out n (omega arith)) (count_below_none test n λ i h. out i (omega arith))

-- and has no largest value.
pub largest_none : (test : ℕ → Bool) (value : ℕ → ℕ) (n : ℕ) → ((i : ℕ) → i < n → test i ≡ false) → largest_below test value n ≡ 0
unfolding largest_below
largest_none test value zero out = refl
largest_none test value (suc n) out = rw (out n (omega arith)) (largest_none test value n λ i h. out i (omega arith))

-- Tests that agree below the bound, with the same values where they hold, have the same largest value.
pub largest_same : (f g : ℕ → Bool) (v w : ℕ → ℕ) (n : ℕ)
    → ((i : ℕ) → i < n → f i ≡ g i)
    → ((i : ℕ) → i < n → f i ≡ true → v i ≡ w i)
    → largest_below f v n ≡ largest_below g w n
unfolding largest_below
largest_same f g v w zero agree same = refl
largest_same f g v w (suc n) agree same =
    go (f n) refl (largest_same f g v w n (λ i h. agree i (omega arith)) (λ i h. same i (omega arith)))
  where
    go : (b : Bool)
        → f n ≡ b
        → largest_below f v n ≡ largest_below g w n
        → largest_below f v (suc n) ≡ largest_below g w (suc n)
    go true holds ih =
        let also : g n ≡ true = sym (agree n (omega arith)) ∙ holds in
        rw (holds, also, ih, same n (omega arith) holds) refl
    go false out ih =
        let also : g n ≡ false = sym (agree n (omega arith)) ∙ out in
        rw (out, also) ih

-- Two tests that agree below the bound but at i, for which only the second holds.
pub record OneMore (f g : ℕ → Bool) (n i : ℕ) : Type 0 where
  pub inside : i < n
  pub before : f i ≡ false
  pub after : g i ≡ true
  pub others : (j : ℕ) → j < n → (j ≡ i → ⊥) → f j ≡ g j

-- Where i is not the last number below the bound, this holds of the bound before, too.
lower : {f g : ℕ → Bool} {n i : ℕ} → OneMore f g (suc n) i → (i ≡ n → ⊥) → OneMore f g n i
lower one apart =
    record { inside = let h = one.inside in omega arith; before = one.before; after = one.after; others = λ j h. one.others j (omega arith) }

-- The second counts one more.
counts_more : (f g : ℕ → Bool) (n i : ℕ) → OneMore f g n i → count_below g n ≡ suc (count_below f n)
unfolding count_below
counts_more f g zero i one = absurd (let h = one.inside in omega arith)
counts_more f g (suc n) i one = go (ℕ_discrete i n) (counts_more f g n i)
  where
    more : (b : Bool) (x y : ℕ) → x ≡ suc y → cond b (suc x) x ≡ suc (cond b (suc y) y)
    more true x y e = ap suc e
    more false x y e = e

    go : Dec (i ≡ n) → (OneMore f g n i → count_below g n ≡ suc (count_below f n)) → count_below g (suc n) ≡ suc (count_below f (suc n))
    go (yes last) ih =
        let held : g n ≡ true = rw last at one.after in
        let out : f n ≡ false = rw last at one.before in
        let below = count_below_same f g n (λ j h. one.others j (omega arith) (λ e. omega arith)) in
        rw (held, out) (ap suc (sym below))
    go (no apart) ih =
        rw (← one.others n (omega arith) (λ e. apart (sym e))) (more (f n) (count_below g n) (count_below f n) (ih (lower one apart)))

pub count_below_more : {f g : ℕ → Bool} {n i : ℕ} → OneMore f g n i → count_below g n ≡ count_below f n + 1
count_below_more {f} {g} {n} {i} one = counts_more f g n i one ∙ sym (add-one (count_below f n))

-- The largest value of the second: that of the first, or the one at i.
pub largest_more : (f g : ℕ → Bool) (v w : ℕ → ℕ) (n i : ℕ)
    → OneMore f g n i
    → ((j : ℕ) → j < n → f j ≡ true → v j ≡ w j)
    → largest_below g w n ≡ larger (largest_below f v n) (w i)
unfolding largest_below
largest_more f g v w zero i one same = absurd (let h = one.inside in omega arith)
largest_more f g v w (suc n) i one same = go (ℕ_discrete i n) (largest_more f g v w n i)
  where
    more : (b : Bool)
        → f n ≡ b
        → largest_below g w n ≡ larger (largest_below f v n) (w i)
        → cond b (larger (largest_below g w n) (w n)) (largest_below g w n)
        ≡ larger (cond b (larger (largest_below f v n) (v n)) (largest_below f v n)) (w i)
    more true holds ih = rw (ih, same n (omega arith) holds) (larger_swap (largest_below f v n) (w i) (w n))
    more false out ih = ih

    go : Dec (i ≡ n)
        → (OneMore f g n i
        → ((j : ℕ) → j < n → f j ≡ true → v j ≡ w j)
        → largest_below g w n ≡ larger (largest_below f v n) (w i))
        → largest_below g w (suc n) ≡ larger (largest_below f v (suc n)) (w i)
    go (yes last) ih =
        let held : g n ≡ true = rw last at one.after in
        let out : f n ≡ false = rw last at one.before in
        let below = largest_same f g v w n (λ j h. one.others j (omega arith) (λ e. omega arith)) (λ j h. same j (omega arith)) in
        rw (held, out, ← below, last) refl
    go (no apart) ih =
        rw (← one.others n (omega arith) (λ e. apart (sym e)))
        (more (f n) refl (ih (lower one apart) (λ j h. same j (omega arith))))
