-- The numbers below a bound for which a test holds, `holding_below`: they are exactly those, in rising order. Assumes nothing.
use Prim.Native.Nat.{ℕ, zero, suc, ◌+◌, ◌≤◌, ◌<◌}
use native.Mathlib.Nat.{add-zero, add-suc, eq-or-lt_of_le, le_of_suc-le-suc, le_refl}
use native.Mathlib.Decide.{le_ind, dec_lt}
use native.Mathlib.Omega.{arith}
use mathlib.Core.Path.{◌≡◌, refl, sym, ◌∙◌, ap}
use mathlib.Core.Logic.{◌⊎◌, inl, inr}
use mathlib.Core.Bool.{Bool, true, false, true≢false}
use mathlib.Core.List.{List, [], ◌∷◌, ◌++◌, map, append-nil, append_assoc}
use lib.ListN.{length, get_or, length-append, get_or-append}
use lib.Seq.{get_or-append_seam}
use Rattle.theory.specs.Listing.{values_from, holding_below}
use Rattle.theory.proofs.Tests.{fails}

-- The value at a place of a list that a function is applied to.
pub map_at : (f : ℕ → ℕ) (xs : List ℕ) (p : ℕ) → p < length xs → get_or (map f xs) p 0 ≡ f (get_or xs p 0)
map_at f [] p inside = absurd (omega arith)
map_at f (x ∷ xs) zero inside = refl
map_at f (x ∷ xs) (suc p) inside = map_at f xs p (omega arith)

-- Functions that agree at every place of a list make the same list of it.
pub map_agrees : (f g : ℕ → ℕ) (xs : List ℕ) → ((p : ℕ) → p < length xs → f (get_or xs p 0) ≡ g (get_or xs p 0)) → map f xs ≡ map g xs
map_agrees f g [] same = refl
map_agrees f g (x ∷ xs) same =
    ap (λ y. y ∷ map f xs) (same 0 (omega arith))
    ∙ ap (λ ys. g x ∷ ys) (map_agrees f g xs (λ p inside. same (suc p) (omega arith)))

-- A list with one value more at its end.
pub map_more : (f : ℕ → ℕ) (xs : List ℕ) (x : ℕ) → map f (xs ++ x ∷ []) ≡ map f xs ++ f x ∷ []
map_more f [] x = refl
map_more f (y ∷ xs) x = ap (λ ys. f y ∷ ys) (map_more f xs x)

values_more : (f : ℕ → ℕ) (from count : ℕ) → values_from f from (suc count) ≡ values_from f from count ++ f (from + count) ∷ []
unfolding values_from
values_more f from zero = let here : from ≡ from + 0 = omega arith in ap (λ n. f n ∷ []) here
values_more f from (suc count) =
    let there : suc from + count ≡ from + suc count = omega arith in
    ap (λ ys. f from ∷ ys) (values_more f (suc from) count ∙ ap (λ n. values_from f (suc from) count ++ f n ∷ []) there)

-- What a list of numbers below a bound has, if it is all those for which a test holds, in rising order.
pub record Held (test : ℕ → Bool) (n : ℕ) (xs : List ℕ) : Type 0 where
  pub below : (p : ℕ) → p < length xs → get_or xs p 0 < n
  pub holds : (p : ℕ) → p < length xs → test (get_or xs p 0) ≡ true
  pub rising : (p r : ℕ) → p < r → r < length xs → get_or xs p 0 < get_or xs r 0
  pub place : (i : ℕ) → i < n → test i ≡ true → (p : ℕ) × (p < length xs) × (get_or xs p 0 ≡ i)

-- One more number, for which the test holds.
held_more : {test : ℕ → Bool} {n : ℕ} {xs : List ℕ} → Held test n xs → test n ≡ true → Held test (suc n) (xs ++ n ∷ [])
held_more {test} {n} {xs} h holds =
    record {
      below = λ p inside. below p inside (dec_lt p (length xs));
      holds = λ p inside. held p inside (dec_lt p (length xs));
      rising = λ p r less inside. rising p r less inside (dec_lt r (length xs));
      place = λ i less test. place i test (eq-or-lt_of_le (le_of_suc-le-suc less));
    }
  where
    more : List ℕ
    more = xs ++ n ∷ []

    early : (p : ℕ) → p < length xs → get_or more p 0 ≡ get_or xs p 0
    early p low = get_or-append xs (n ∷ []) 0 p low

    last : (p : ℕ) → p < length more → (p < length xs → ⊥) → get_or more p 0 ≡ n
    last p inside high =
        let end : p ≡ length xs = omega (arith, length-append xs (n ∷ [])) in
        ap (λ q. get_or more q 0) end ∙ get_or-append_seam xs n [] 0

    below : (p : ℕ) → p < length more → Dec (p < length xs) → get_or more p 0 < suc n
    below p inside (yes low) = omega (arith, early p low, h.below p low)
    below p inside (no high) = omega (arith, last p inside high)

    held : (p : ℕ) → p < length more → Dec (p < length xs) → test (get_or more p 0) ≡ true
    held p inside (yes low) = ap test (early p low) ∙ h.holds p low
    held p inside (no high) = ap test (last p inside high) ∙ holds

    rising : (p r : ℕ) → p < r → r < length more → Dec (r < length xs) → get_or more p 0 < get_or more r 0
    rising p r less inside (yes low) = omega (arith, early p (omega arith), early r low, h.rising p r less low)
    rising p r less inside (no high) =
        let there : p < length xs = omega (arith, length-append xs (n ∷ [])) in
        omega (arith, early p there, h.below p there, last r inside high)

    place : (i : ℕ) → test i ≡ true → (i ≡ n) ⊎ (i < n) → (p : ℕ) × (p < length more) × (get_or more p 0 ≡ i)
    place i holds (inl same) = (length xs, omega (arith, length-append xs (n ∷ [])), get_or-append_seam xs n [] 0 ∙ sym same)
    place i holds (inr less) =
        let w = h.place i less holds in
        (w.0, omega (arith, length-append xs (n ∷ []), w.1), early w.0 w.1 ∙ w.2)

-- One more number, for which it fails.
held_past : {test : ℕ → Bool} {n : ℕ} {xs : List ℕ} → Held test n xs → test n ≡ false → Held test (suc n) xs
held_past {test} {n} {xs} h out =
    record {
      below = λ p inside. omega (arith, h.below p inside);
      holds = h.holds;
      rising = h.rising;
      place = λ i less holds. place i holds (eq-or-lt_of_le (le_of_suc-le-suc less));
    }
  where
    place : (i : ℕ) → test i ≡ true → (i ≡ n) ⊎ (i < n) → (p : ℕ) × (p < length xs) × (get_or xs p 0 ≡ i)
    place i holds (inl same) = absurd (true≢false (sym holds ∙ ap test same ∙ out))
    place i holds (inr less) = h.place i less holds

module _ (test : ℕ → Bool) where
  -- A number for which the test holds comes at the end,
  pub holding_keeps : (i : ℕ) → test i ≡ true → holding_below test (suc i) ≡ holding_below test i ++ i ∷ []
  unfolding holding_below
  holding_keeps i holds = rw holds refl

  -- and any other is passed.
  pub holding_passes : (i : ℕ) → test i ≡ false → holding_below test (suc i) ≡ holding_below test i
  unfolding holding_below
  holding_passes i fails = rw fails refl

  -- Numbers for which it fails, from one on, are passed.
  pub holding_past : (i j : ℕ) → i ≤ j → ((n : ℕ) → i ≤ n → n < j → test n ≡ false) → holding_below test j ≡ holding_below test i
  holding_past i j up_to out =
      le_ind (λ m. m ≤ j → holding_below test m ≡ holding_below test i)
      (λ _. refl)
      (λ m low ih high. holding_passes m (out m low high) ∙ ih (omega arith))
      j up_to (le_refl j)

  -- There are at most as many as numbers below the bound.
  pub holding_few : (n : ℕ) → length (holding_below test n) ≤ n
  unfolding holding_below
  holding_few zero = omega arith
  holding_few (suc n) = go (test n) refl (holding_few n)
    where
      go : (b : Bool) → test n ≡ b → length (holding_below test n) ≤ n → length (holding_below test (suc n)) ≤ suc n
      go true holds ih = rw (holding_keeps n holds) (omega (arith, ih, length-append (holding_below test n) (n ∷ [])))
      go false out ih = rw (holding_passes n out) (omega arith)

  holding_none : holding_below test 0 ≡ []
  unfolding holding_below
  holding_none = refl

  -- Numbers from `to` on for which the test fails add nothing.
  holding_beyond : (to n : ℕ) → to ≤ n → ((i : ℕ) → to ≤ i → i < n → test i ≡ false) → holding_below test n ≡ holding_below test to
  holding_beyond to n up_to out =
      le_ind
      (λ m. ((i : ℕ) → to ≤ i → i < m → test i ≡ false) → holding_below test m ≡ holding_below test to)
      (λ _. refl)
      (λ m above ih out. holding_passes m (out m above (omega arith)) ∙ ih (λ i low high. out i low (omega arith)))
      n
      up_to
      out

  -- Numbers from n on for which the test holds all follow.
  pub holding_all : (n count : ℕ)
      → ((i : ℕ) → n ≤ i → i < n + count → test i ≡ true)
      → holding_below test (n + count) ≡ holding_below test n ++ values_from (λ i. i) n count
  unfolding values_from
  holding_all n zero holds = ap (holding_below test) (add-zero n) ∙ sym (append-nil (holding_below test n))
  holding_all n (suc count) holds =
      ap (holding_below test) (add-suc n count)
      ∙ holding_keeps (n + count) (holds (n + count) (omega arith) (omega arith))
      ∙ ap (λ xs. xs ++ (n + count) ∷ []) (holding_all n count (λ i low high. holds i low (omega arith)))
      ∙ append_assoc (holding_below test n) (values_from (λ i. i) n count) ((n + count) ∷ [])
      ∙ ap (λ xs. holding_below test n ++ xs) (sym (values_more (λ i. i) n count))

  -- They are exactly those for which the test holds, in rising order.
  pub held : (n : ℕ) → Held test n (holding_below test n)
  held zero =
      rw holding_none (record {
        below = λ p inside. absurd (omega arith);
        holds = λ p inside. absurd (omega arith);
        rising = λ p r less inside. absurd (omega arith);
        place = λ i less holds. absurd (omega arith);
      })
  held (suc n) = go (test n) refl (held n)
    where
      go : (b : Bool) → test n ≡ b → Held test n (holding_below test n) → Held test (suc n) (holding_below test (suc n))
      go true holds ih = rw (holding_keeps n holds) (held_more ih holds)
      go false out ih = rw (holding_passes n out) (held_past ih out)

-- Tests that agree below the bound hold for the same numbers.
pub holding_agrees : (test other : ℕ → Bool) (n : ℕ) → ((i : ℕ) → i < n → test i ≡ other i) → holding_below test n ≡ holding_below other n
unfolding holding_below
holding_agrees test other zero same = refl
holding_agrees test other (suc n) same = rw (holding_agrees test other n (λ i less. same i (omega arith)), same n (omega arith)) refl

-- Numbers that stand at the places `at` of others: those for which the test holds are the places of those for which the other one does.
pub holding_mapped : (test other : ℕ → Bool) (at : ℕ → ℕ) (n m : ℕ)
    → ((i : ℕ) → i < n → at i < m)
    → ((i j : ℕ) → i < j → j < n → at i < at j)
    → ((i : ℕ) → i < n → test i ≡ other (at i))
    → ((k : ℕ) → k < m → other k ≡ true → (i : ℕ) × (i < n) × (at i ≡ k))
    → holding_below other m ≡ map at (holding_below test n)
holding_mapped test other at zero m below rising same covers =
    holding_beyond other 0 m (omega arith) (λ k low high. fails (other k) (λ holds. let i = covers k high holds in omega (arith, i.1)))
    ∙ holding_none other
    ∙ sym (ap (map at) (holding_none test))
holding_mapped test other at (suc n) m below rising same covers =
    holding_beyond other (suc (at n)) m (below n (omega arith)) (λ k low high. fails (other k) (λ holds. beyond k low (covers k high holds)))
    ∙ go (test n) refl
    (holding_mapped test other at n (at n)
    (λ i less. rising i n less (omega arith))
    (λ i j less inside. rising i j less (omega arith))
    (λ i less. same i (omega arith))
    (λ k less holds. earlier k less (covers k (omega (arith, below n (omega arith))) holds)))
  where
    beyond : (k : ℕ) → suc (at n) ≤ k → (i : ℕ) × (i < suc n) × (at i ≡ k) → ⊥
    beyond k past i = which (eq-or-lt_of_le (le_of_suc-le-suc i.1))
      where
        which : (i.0 ≡ n) ⊎ (i.0 < n) → ⊥
        which (inl e) = omega (arith, ap at e, i.2)
        which (inr less) = omega (arith, rising i.0 n less (omega arith), i.2)

    earlier : (k : ℕ) → k < at n → (i : ℕ) × (i < suc n) × (at i ≡ k) → (i : ℕ) × (i < n) × (at i ≡ k)
    earlier k less i = which (eq-or-lt_of_le (le_of_suc-le-suc i.1))
      where
        which : (i.0 ≡ n) ⊎ (i.0 < n) → (i : ℕ) × (i < n) × (at i ≡ k)
        which (inl e) = absurd (omega (arith, ap at e, i.2))
        which (inr low) = (i.0, low, i.2)

    go : (b : Bool)
        → test n ≡ b
        → holding_below other (at n) ≡ map at (holding_below test n)
        → holding_below other (suc (at n)) ≡ map at (holding_below test (suc n))
    go true holds ih =
        holding_keeps other (at n) (sym (same n (omega arith)) ∙ holds)
        ∙ ap (λ xs. xs ++ at n ∷ []) ih
        ∙ sym (ap (map at) (holding_keeps test n holds) ∙ map_more at (holding_below test n) n)
    go false out ih =
        holding_passes other (at n) (sym (same n (omega arith)) ∙ out) ∙ ih ∙ sym (ap (map at) (holding_passes test n out))
