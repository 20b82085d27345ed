-- The first ones of a queue, `first_ones`: an account of them, taken one after the other, by induction on which the laws are proved.
-- Assumes nothing.
use Prim.Native.Nat.{ℕ, zero, suc, ◌≤◌, ◌<◌}
use mathlib.Core.Path.{◌≡◌, refl, sym, ap, ◌∙◌}
use mathlib.Core.Bool.{Bool, true, false, not, ◌&&◌, true≢false}
use mathlib.Core.List.{List, [], ◌∷◌}
use native.Mathlib.Decide.{ℕ_discrete, dec_lt}
use native.Mathlib.Nat.{le_refl}
use native.Mathlib.Omega.{arith}
use lib.Dec.{ltb, eqb}
use lib.ListN.{length}
use borrow.Author.Tests.{ltb-true, ltb-false, lt-ltb, le-ltb, eq-eqb, ne_eqb}
use Rattle.theory.specs.Queue.{Queue, first, without, first_ones}
use Rattle.theory.proofs.Order.{TotalOn}
use Rattle.theory.proofs.Tests.{and_reading}
use Rattle.theory.proofs.Places.{At, here, later}
use Rattle.theory.proofs.First.{IsFirst, first_holds, first_none, first_some, first_agrees}

module _ (q : Queue) where
  -- The first in the queue waits.
  pub first_waits : first q < q.size → q.waits (first q) ≡ true
  unfolding first
  first_waits = first_holds q.waits q.before q.size q.size

  -- Where the queue has no first, nobody waits.
  pub nobody_waits : q.size ≤ first q → (i : ℕ) → i < q.size → q.waits i ≡ false
  unfolding first
  nobody_waits = first_none q.waits q.before q.size q.size (le_refl q.size)

  -- The first in the queue is before all others there.
  pub first_leads : {Member : ℕ → Type 0}
      → TotalOn Member q.before
      → ((i : ℕ) → q.waits i ≡ true → Member i)
      → first q < q.size
      → IsFirst q.waits q.before q.size (first q)
  unfolding first
  first_leads order members = first_some order q.waits members q.size q.size (le_refl q.size)

  -- Who waits once i has left: all who did, but i.
  pub without_waits : (i n : ℕ) → (without i q).waits n ≡ true → (q.waits n ≡ true) × (n ≡ i → ⊥)
  without_waits i n h =
      let both = (and_reading (q.waits n) (not (eqb n i))).0 h in
      (both.0, λ e. true≢false (sym both.1 ∙ ap not (eq-eqb n i e)))

  pub still_waits : (i n : ℕ) → q.waits n ≡ true → (n ≡ i → ⊥) → (without i q).waits n ≡ true
  still_waits i n h other = (and_reading (q.waits n) (not (eqb n i))).1 (h, ap not (ne_eqb n i other))

  -- Somebody waits: the first is taken, and then the first ones of those who are left.
  pub ones_take : (most : ℕ)
      → first q < q.size
      → first_ones (suc most) q ≡ first q ∷ first_ones most (without (first q) q)
  unfolding first_ones
  ones_take most h =
      ap
      (λ (b : Bool). elim b [ true ↦ first q ∷ first_ones most (without (first q) q) | false ↦ [] ])
      (lt-ltb (first q) q.size h)

  -- Nobody waits: nobody is taken.
  pub ones_stop : (most : ℕ) → q.size ≤ first q → first_ones most q ≡ []
  unfolding first_ones
  ones_stop zero h = refl
  ones_stop (suc most) h =
      ap
      (λ (b : Bool). elim b [ true ↦ first q ∷ first_ones most (without (first q) q) | false ↦ [] ])
      (le-ltb (first q) q.size h)

  -- None may be taken: nobody is.
  pub ones_spent : first_ones 0 q ≡ []
  unfolding first_ones
  ones_spent = refl

-- The account: no more may be taken, or nobody waits, or the first is taken and the account goes on without it.
pub data Taking : (most : ℕ) (q : Queue) (taken : List ℕ) → Type 0 where
  spent : {q : Queue} → Taking 0 q []
  emptied : {most : ℕ} {q : Queue} → q.size ≤ first q → Taking (suc most) q []
  takes : {most i : ℕ} {q : Queue} {taken : List ℕ}
      → i ≡ first q
      → i < q.size
      → Taking most (without i q) taken
      → Taking (suc most) q (i ∷ taken)

-- The first ones of any queue have such an account.
pub taking : (most : ℕ) (q : Queue) → Taking most q (first_ones most q)
taking zero q = rw (ones_spent q) spent
taking (suc most) q = go (ltb (first q) q.size) refl (taking most (without (first q) q))
  where
    go : (b : Bool)
        → ltb (first q) q.size ≡ b
        → Taking most (without (first q) q) (first_ones most (without (first q) q))
        → Taking (suc most) q (first_ones (suc most) q)
    go true some rest =
        let there : first q < q.size = ltb-true (first q) q.size some in
        rw (ones_take q most there) (takes refl there rest)
    go false none rest =
        let nobody : q.size ≤ first q = ltb-false (first q) q.size none in
        rw (ones_stop q (suc most) nobody) (emptied nobody)

-- At most so many are taken.
pub taken_few : {most : ℕ} {q : Queue} {taken : List ℕ} → Taking most q taken → length taken ≤ most
taken_few spent = omega arith
taken_few (emptied nobody) = omega arith
taken_few (takes is_first there rest) = let h = taken_few rest in omega arith

-- Who is taken waited.
pub taken_waits : {most : ℕ} {q : Queue} {taken : List ℕ} {p i : ℕ}
    → Taking most q taken
    → At taken p i
    → (i < q.size) × (q.waits i ≡ true)
taken_waits {p = p} {i = i} (spent {q = q}) at = elim at [ ]
taken_waits {p = p} {i = i} (emptied {most = most} {q = q} nobody) at = elim at [ ]
taken_waits {q = q} (takes is_first there rest) here = (there, rw is_first (first_waits q (rw is_first at there)))
taken_waits {q = q} (takes {i = x} is_first there rest) (later {x = i} a) =
    let h = taken_waits rest a in (h.0, (without_waits q x i h.1).0)

-- Who is taken is taken once.
pub taken_once : {most : ℕ} {q : Queue} {taken : List ℕ} {p r i : ℕ} → Taking most q taken → At taken p i → At taken r i → p ≡ r
taken_once t x y = same_place t x y refl
  where
    same_place : {most : ℕ} {q : Queue} {taken : List ℕ} {p r i j : ℕ} → Taking most q taken → At taken p i → At taken r j → i ≡ j → p ≡ r
    same_place t here here e = refl
    same_place {q = q} (takes {i = i} is_first there rest) here (later {x = j} a) e =
        absurd ((without_waits q i j (taken_waits rest a).1).1 (sym e))
    same_place {q = q} (takes {i = j} is_first there rest) (later {x = i} a) here e =
        absurd ((without_waits q j i (taken_waits rest a).1).1 e)
    same_place (takes {most = most} is_first there rest) (later a) (later b) e = ap suc (same_place {most = most} rest a b e)

-- Where fewer are taken than may be, all who waited are.
pub none_left : {most : ℕ} {q : Queue} {taken : List ℕ}
    → Taking most q taken
    → length taken < most
    → (i : ℕ)
    → i < q.size
    → q.waits i ≡ true
    → (p : ℕ) × At taken p i
none_left spent few i h waits = absurd (omega arith)
none_left {q = q} (emptied nobody) few i h waits = absurd (true≢false (sym waits ∙ nobody_waits q nobody i h))
none_left {q = q} (takes {i = x} {taken = taken} is_first there rest) few i h waits = go (ℕ_discrete i x) (none_left rest (omega arith) i h)
  where
    go : Dec (i ≡ x)
        → ((without x q).waits i ≡ true → (p : ℕ) × At taken p i)
        → (p : ℕ) × At (x ∷ taken) p i
    go (yes same) ih = (0, rw same here)
    go (no other) ih = let w = ih (still_waits q x i waits other) in (suc w.0, later w.1)

module _ {Member : ℕ → Type 0} where
  -- The first taken is before all others who wait.
  leads : (q : Queue) {i : ℕ}
      → TotalOn Member q.before
      → ((n : ℕ) → q.waits n ≡ true → Member n)
      → i ≡ first q
      → i < q.size
      → (b : ℕ)
      → b < q.size
      → q.waits b ≡ true
      → (b ≡ i → ⊥)
      → q.before i b ≡ true
  leads q order members is_first there b h waits other =
      rw is_first ((first_leads q order members (rw is_first at there)).leads b h waits (λ e. other (e ∙ sym is_first)))

  -- Of two that are taken the earlier comes before the later.
  pub taken_in_order : {most : ℕ} {q : Queue} {taken : List ℕ}
      → Taking most q taken
      → TotalOn Member q.before
      → ((n : ℕ) → q.waits n ≡ true → Member n)
      → (p r a b : ℕ)
      → p < r
      → At taken p a
      → At taken r b
      → q.before a b ≡ true
  taken_in_order t order members p r a b h here here = absurd (omega arith)
  taken_in_order {q = q} (takes {i = i} is_first there rest) order members p r a b h here (later y) =
      let w = taken_waits rest y in
      let v = without_waits q i b w.1 in
      leads q order members is_first there b w.0 v.0 v.1
  taken_in_order t order members p r a b h (later x) here = absurd (omega arith)
  taken_in_order {q = q} (takes {most = most} {i = i} is_first there rest) order members p r a b h (later {p = p'} x) (later {p = r'} y) =
      taken_in_order {most = most} rest order (λ n w. members n (without_waits q i n w).0) p' r' a b (omega arith) x y

  -- Who is taken comes before who waits and is not taken.
  pub taken_ahead : {most : ℕ} {q : Queue} {taken : List ℕ}
      → Taking most q taken
      → TotalOn Member q.before
      → ((n : ℕ) → q.waits n ≡ true → Member n)
      → (p a b : ℕ)
      → At taken p a
      → b < q.size
      → q.waits b ≡ true
      → ((r : ℕ) → At taken r b → ⊥)
      → q.before a b ≡ true
  taken_ahead (spent {q = q}) order members p a b at h waits absent = elim at [ ]
  taken_ahead (emptied {most = most} {q = q} nobody) order members p a b at h waits absent = elim at [ ]
  taken_ahead {q = q} (takes {taken = taken} is_first there rest) order members p a b here h waits absent =
      leads q order members is_first there b h waits (λ e. absent 0 (rw e here))
  taken_ahead {q = q} (takes {i = i} {taken = taken} is_first there rest) order members p a b (later {p = p'} x) h waits absent =
      taken_ahead rest order (λ n w. members n (without_waits q i n w).0) p' a b x h
      (still_waits q i b waits (λ e. absent 0 (rw e here)))
      (λ r y. absent (suc r) (later y))

-- The queue of those for whom a test holds.
abbrev queued : ℕ → (ℕ → ℕ → Bool) → (ℕ → Bool) → Queue
queued size before test = record { size = size; waits = test; before = before }

-- The first, and the first ones, depend on who waits below the size alone.
pub first_same : (size : ℕ) (before : ℕ → ℕ → Bool) (v w : ℕ → Bool)
    → ((i : ℕ) → i < size → v i ≡ w i)
    → first (queued size before v) ≡ first (queued size before w)
unfolding first
first_same size before v w same = first_agrees v w before size size same

pub ones_same : (size : ℕ) (before : ℕ → ℕ → Bool) (most : ℕ) (v w : ℕ → Bool)
    → ((i : ℕ) → i < size → v i ≡ w i)
    → first_ones most (queued size before v) ≡ first_ones most (queued size before w)
ones_same size before zero v w same = ones_spent (queued size before v) ∙ sym (ones_spent (queued size before w))
ones_same size before (suc most) v w same =
    go (dec_lt (first (queued size before w)) size)
    (ones_same size before most (λ n. v n && not (eqb n f)) (λ n. w n && not (eqb n f)) (λ i h. ap (λ b. b && not (eqb i f)) (same i h)))
  where
    f : ℕ
    f = first (queued size before w)

    firsts : first (queued size before v) ≡ f
    firsts = first_same size before v w same

    go : Dec (f < size)
        → first_ones most (queued size before (λ n. v n && not (eqb n f))) ≡ first_ones most (queued size before (λ n. w n && not (eqb n f)))
        → first_ones (suc most) (queued size before v) ≡ first_ones (suc most) (queued size before w)
    go (yes some) ih =
        let long = ones_take (queued size before v) most (rw firsts some) in
        (rw firsts at long) ∙ ap (λ xs. f ∷ xs) ih ∙ sym (ones_take (queued size before w) most some)
    go (no none) ih =
        ones_stop (queued size before v) (suc most) (rw firsts (omega arith))
        ∙ sym (ones_stop (queued size before w) (suc most) (omega arith))
