-- The first of a collection in an order, `first_in`: what one step of the scan makes of the best so far, and by induction on the
-- scan what the best is when it ends. Assumes nothing.
use Prim.Native.Nat.{ℕ, zero, suc, ◌≤◌, ◌<◌}
use mathlib.Core.Path.{◌≡◌, refl, sym, ◌∙◌}
use mathlib.Core.Logic.{◌⊎◌, inl, inr, ⊎_elim}
use mathlib.Core.Bool.{Bool, true, false, true≢false, or-true, and-false}
use native.Mathlib.Nat.{eq-or-lt_of_le, le_of_suc-le-suc}
use native.Mathlib.Decide.{ℕ_discrete, le_ind}
use native.Mathlib.Omega.{arith}
use lib.Dec.{eqb}
use borrow.Author.Tests.{eqb-true, eqb-false, eq-eqb, ne_eqb}
use Rattle.theory.specs.Queue.{first_in}
use Rattle.theory.proofs.Order.{TotalOn}

-- `best` is the first in the order of the numbers below `count` for which the test holds.
pub record IsFirst (test : ℕ → Bool) (before : ℕ → ℕ → Bool) (count best : ℕ) : Type 0 where
  pub below : best < count
  pub holds : test best ≡ true
  pub leads : (i : ℕ) → i < count → test i ≡ true → (i ≡ best → ⊥) → before best i ≡ true

-- What a step of the scan can meet at number i, with the best before and after it.
data Step (test : ℕ → Bool) (before : ℕ → ℕ → Bool) (none i best next : ℕ) : Type 0 where
  passed : test i ≡ false → next ≡ best → Step test before none i best next
  alone : test i ≡ true → best ≡ none → next ≡ i → Step test before none i best next
  ahead : test i ≡ true → (best ≡ none → ⊥) → before i best ≡ true → next ≡ i → Step test before none i best next
  behind : (best ≡ none → ⊥) → before i best ≡ false → next ≡ best → Step test before none i best next

module _ (test : ℕ → Bool) (before : ℕ → ℕ → Bool) (none : ℕ) where
  -- Before the scan there is no best.
  pub first-start : first_in test before none 0 ≡ none
  unfolding first_in
  first-start = refl

  -- A number for which the test fails leaves the best.
  first_passed : (i : ℕ) → test i ≡ false → first_in test before none (suc i) ≡ first_in test before none i
  unfolding first_in
  first_passed i fails = rw fails

  -- The only one so far is the best.
  pub first_alone : (i : ℕ)
      → test i ≡ true
      → first_in test before none i ≡ none
      → first_in test before none (suc i) ≡ i
  unfolding first_in
  first_alone i holds only = rw (holds, eq-eqb (first_in test before none i) none only)

  -- One before the best is the new best.
  pub first_ahead : (i : ℕ)
      → test i ≡ true
      → before i (first_in test before none i) ≡ true
      → first_in test before none (suc i) ≡ i
  unfolding first_in
  first_ahead i holds sooner = rw (holds, sooner, or-true)

  -- One that is not before the best leaves it.
  pub first_behind : (i : ℕ)
      → (first_in test before none i ≡ none → ⊥)
      → before i (first_in test before none i) ≡ false
      → first_in test before none (suc i) ≡ first_in test before none i
  unfolding first_in
  first_behind i some later = rw (later, ne_eqb (first_in test before none i) none some, and-false)

  -- Numbers from `to` on for which the test fails leave the first.
  pub first_beyond : (to count : ℕ)
      → to ≤ count
      → ((i : ℕ) → to ≤ i → i < count → test i ≡ false)
      → first_in test before none count ≡ first_in test before none to
  first_beyond to count up_to fails =
      le_ind
      (λ m. ((i : ℕ) → to ≤ i → i < m → test i ≡ false) → first_in test before none m ≡ first_in test before none to)
      (λ _. refl)
      (λ m above ih out. first_passed m (out m above (omega arith)) ∙ ih (λ i low high. out i low (omega arith)))
      count
      up_to
      fails

  -- Each step of the scan is one of these.
  step : (i : ℕ) → Step test before none i (first_in test before none i) (first_in test before none (suc i))
  step i = go (test i) refl (eqb best none) refl (before i best) refl
    where
      best : ℕ
      best = first_in test before none i

      go : (t : Bool)
          → test i ≡ t
          → (n : Bool)
          → eqb best none ≡ n
          → (b : Bool)
          → before i best ≡ b
          → Step test before none i best (first_in test before none (suc i))
      go false p n q b r = passed p (first_passed i p)
      go true p true q b r = let e = eqb-true best none q in alone p e (first_alone i p e)
      go true p false q true r = ahead p (eqb-false best none q) r (first_ahead i p r)
      go true p false q false r = let e = eqb-false best none q in behind e r (first_behind i e r)

  -- The scan finds a number below `count`, or none.
  pub first_range : (count : ℕ) → (first_in test before none count < count) ⊎ (first_in test before none count ≡ none)
  first_range zero = inr first-start
  first_range (suc i) = go (first_range i) (step i)
    where
      go : {best next : ℕ}
          → (best < i) ⊎ (best ≡ none)
          → Step test before none i best next
          → (next < suc i) ⊎ (next ≡ none)
      go (inl h) (passed p e) = inl (omega arith)
      go (inr h) (passed p e) = inr (e ∙ h)
      go h (alone p q e) = inl (omega arith)
      go h (ahead p q r e) = inl (omega arith)
      go (inl h) (behind q r e) = inl (omega arith)
      go (inr h) (behind q r e) = inr (e ∙ h)

  -- The test holds for what the scan finds.
  pub first_holds : (count : ℕ) → first_in test before none count < none → test (first_in test before none count) ≡ true
  first_holds zero found = absurd (omega (arith, first-start))
  first_holds (suc c) found = go (first_holds c) found (step c)
    where
      go : {best next : ℕ}
          → (best < none → test best ≡ true)
          → next < none
          → Step test before none c best next
          → test next ≡ true
      go ih some (passed p e) = rw e (ih (omega arith))
      go ih some (alone p q e) = rw e p
      go ih some (ahead p q r e) = rw e p
      go ih some (behind q r e) = rw e (ih (omega arith))

  -- Where the scan finds none, the test holds nowhere.
  pub first_none : (count : ℕ)
      → count ≤ none
      → none ≤ first_in test before none count
      → (i : ℕ)
      → i < count
      → test i ≡ false
  first_none zero fits absent i h = absurd (omega arith)
  first_none (suc c) fits absent i h =
      go (first_none c (omega arith)) (first_range c) absent (step c) (eq-or-lt_of_le (le_of_suc-le-suc h))
    where
      go : {best next : ℕ}
          → (none ≤ best → (i : ℕ) → i < c → test i ≡ false)
          → (best < c) ⊎ (best ≡ none)
          → none ≤ next
          → Step test before none c best next
          → (i ≡ c) ⊎ (i < c)
          → test i ≡ false
      go ih range n (passed p e) (inl same) = rw same p
      go ih range n (passed p e) (inr less) = ih (omega arith) i less
      go ih range n (alone p q e) place = absurd (omega arith)
      go ih range n (ahead p q r e) place = absurd (omega arith)
      go ih (inl less) n (behind q r e) place = absurd (omega arith)
      go ih (inr same) n (behind q r e) place = absurd (q same)

-- The first of a collection depends on the test below `count` alone.
pub first_agrees : (test other : ℕ → Bool) (before : ℕ → ℕ → Bool) (none count : ℕ)
    → ((i : ℕ) → i < count → test i ≡ other i)
    → first_in test before none count ≡ first_in other before none count
unfolding first_in
first_agrees test other before none zero same = refl
first_agrees test other before none (suc i) same =
    rw (first_agrees test other before none i (λ n h. same n (omega arith)), same i (omega arith)) refl

-- Where the scan finds one, it is the first.
pub first_some : {Member : ℕ → Type 0} {before : ℕ → ℕ → Bool}
    → TotalOn Member before
    → (test : ℕ → Bool)
    → ((i : ℕ) → test i ≡ true → Member i)
    → (none count : ℕ)
    → count ≤ none
    → first_in test before none count < none
    → IsFirst test before count (first_in test before none count)
first_some {before} order test members none zero fits found = absurd (omega (arith, first-start test before none))
first_some {before} order test members none (suc c) fits found =
    record {
      below = ⊎_elim (λ h. h) (λ h. absurd (omega arith)) (first_range test before none (suc c));
      holds = first_holds test before none (suc c) found;
      leads = λ i h t other. leads i t other
          (first_some order test members none c (omega arith))
          (first_range test before none c)
          (step test before none c)
          (eq-or-lt_of_le (le_of_suc-le-suc h));
    }
  where
    best : ℕ
    best = first_in test before none c

    next : ℕ
    next = first_in test before none (suc c)

    leads : (i : ℕ)
        → test i ≡ true
        → (i ≡ next → ⊥)
        → (best < none → IsFirst test before c best)
        → (best < c) ⊎ (best ≡ none)
        → Step test before none c best next
        → (i ≡ c) ⊎ (i < c)
        → before next i ≡ true
    leads i t other first range (passed p e) (inl same) = absurd (true≢false (sym t ∙ rw same p))
    leads i t other first range (passed p e) (inr less) = rw e ((first (omega arith)).leads i less t (omega arith))
    leads i t other first range (alone p q e) (inl same) = absurd (other (omega arith))
    leads i t other first range (alone p q e) (inr less) =
        absurd (true≢false (sym t ∙ first_none test before none c (omega arith) (omega arith) i less))
    leads i t other first (inr absent) (ahead p q r e) place = absurd (q absent)
    leads i t other first (inl under) (ahead p q r e) (inl same) = absurd (other (omega arith))
    leads i t other first (inl under) (ahead p q r e) (inr less) =
        rw e (elim (ℕ_discrete i best) [
          | yes same ↦ rw same r
          | no apart ↦ order.transitive c best i r ((first (omega arith)).leads i less t apart)
        ])
    leads i t other first (inr absent) (behind q r e) place = absurd (q absent)
    leads i t other first (inl under) (behind q r e) (inr less) = rw e ((first (omega arith)).leads i less t (omega arith))
    leads i t other first (inl under) (behind q r e) (inl same) =
        rw e (⊎_elim
        (λ h. h)
        (λ h. absurd (true≢false (sym h ∙ rw same r)))
        (order.total best i (members best (first (omega arith)).holds) (members i t) (omega arith)))
