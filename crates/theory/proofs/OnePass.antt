-- The first ones of a queue by one pass over its numbers: what each number adds to the first ones of those below it.
-- Assumes nothing.
use Prim.Native.Nat.{ℕ, zero, suc, ◌≤◌, ◌<◌, zero-le}
use native.Mathlib.Decide.{ℕ_discrete, dec_lt}
use native.Mathlib.Omega.{arith}
use mathlib.Core.Path.{◌≡◌, refl, sym, ◌∙◌, ap}
use mathlib.Core.Logic.{⊎_elim}
use mathlib.Core.Bool.{Bool, true, false, not, ◌&&◌, and-true, and-false}
use mathlib.Core.List.{List, [], ◌∷◌}
use lib.Dec.{ltb, eqb}
use lib.ListN.{get_or, take}
use borrow.Author.Tests.{lt-ltb, le-ltb, eq-eqb, ne_eqb}
use Rattle.theory.specs.Queue.{first_in, Queue, first, without, first_ones, inserted, InOrder}
use Rattle.theory.proofs.Order.{TotalOn}
use Rattle.theory.proofs.Places.{at_word}
use Rattle.theory.proofs.First.{first-start, first_alone, first_ahead, first_behind, first_beyond, first_range, first_agrees}
use Rattle.theory.proofs.FirstOnes.{still_waits, ones_take, ones_stop, ones_spent, ones_same, taking, taken_in_order}

-- The queue of those below number i.
abbrev pub below : ℕ → Queue → Queue
below i q = record { size = q.size; waits = λ n. q.waits n && ltb n i; before = q.before }

module _ (q : Queue) where
  -- Its first is the best that a scan has found when it comes to i.
  first_below : (i : ℕ) → i ≤ q.size → first (below i q) ≡ first_in q.waits q.before q.size i
  unfolding first
  first_below i up_to =
      first_beyond (below i q).waits q.before q.size i q.size up_to (λ n low high. past n low)
      ∙ first_agrees (below i q).waits q.waits q.before q.size i (λ n h. same n h)
    where
      past : (n : ℕ) → i ≤ n → (q.waits n && ltb n i) ≡ false
      past n low = rw (le-ltb n i low, and-false)

      same : (n : ℕ) → n < i → (q.waits n && ltb n i) ≡ q.waits n
      same n h = rw (lt-ltb n i h, and-true)

  -- Before the pass there are none.
  pub ones_start : (m : ℕ) → first_ones m (below 0 q) ≡ []
  ones_start m =
      let none : first (below 0 q) ≡ q.size = first_below 0 zero-le ∙ first-start q.waits q.before q.size in
      ones_stop (below 0 q) m (omega arith)

  -- Numbers that do not wait add nothing.
  pub ones_passed : (m i j : ℕ)
      → i ≤ j
      → ((n : ℕ) → i ≤ n → n < j → q.waits n ≡ false)
      → first_ones m (below j q) ≡ first_ones m (below i q)
  ones_passed m i j up_to out =
      ones_same q.size q.before m (below j q).waits (below i q).waits (λ n h. same n (dec_lt n i) (dec_lt n j))
    where
      same : (n : ℕ) → Dec (n < i) → Dec (n < j) → (q.waits n && ltb n j) ≡ (q.waits n && ltb n i)
      same n (yes low) d = rw (lt-ltb n i low, lt-ltb n j (omega arith)) refl
      same n (no low) (yes high) = rw (out n (omega arith) high) refl
      same n (no low) (no high) = rw (le-ltb n i (omega arith), le-ltb n j (omega arith)) refl

  -- At the end of the pass they are the queue's.
  pub ones_end : (m : ℕ) → first_ones m (below q.size q) ≡ first_ones m q
  ones_end m = ones_same q.size q.before m (below q.size q).waits q.waits (λ n h. same n h)
    where
      same : (n : ℕ) → n < q.size → (q.waits n && ltb n q.size) ≡ q.waits n
      same n h = rw (lt-ltb n q.size h, and-true)

  -- Number i leaves the queue of those up to it as it was below it.
  without_last : (m i : ℕ) → first_ones m (without i (below (suc i) q)) ≡ first_ones m (below i q)
  without_last m i =
      ones_same q.size q.before m (without i (below (suc i) q)).waits (below i q).waits (λ n h. same n (dec_lt n i) (ℕ_discrete n i))
    where
      same : (n : ℕ)
          → Dec (n < i)
          → Dec (n ≡ i)
          → ((q.waits n && ltb n (suc i)) && not (eqb n i)) ≡ (q.waits n && ltb n i)
      same n (yes low) d = rw (lt-ltb n i low, lt-ltb n (suc i) (omega arith), ne_eqb n i (omega arith), and-true) refl
      same n (no high) (yes e) = rw (eq-eqb n i e, le-ltb n i (omega arith), and-false, and-false) refl
      same n (no high) (no other) = rw (le-ltb n (suc i) (omega arith), le-ltb n i (omega arith), and-false) refl

  -- Who leaves the queue leaves the part of it below a number.
  without_below : (m b i : ℕ) → first_ones m (without b (below i q)) ≡ first_ones m (below i (without b q))
  without_below m b i =
      ones_same q.size q.before m (without b (below i q)).waits (below i (without b q)).waits
      (λ n h. swap (q.waits n) (ltb n i) (not (eqb n b)))
    where
      swap : (x y z : Bool) → ((x && y) && z) ≡ ((x && z) && y)
      swap false y z = refl
      swap true false false = refl
      swap true false true = refl
      swap true true false = refl
      swap true true true = refl

-- One fewer of the first ones: the front of them.
ones_front : (m : ℕ) (q : Queue) → take m (first_ones (suc m) q) ≡ first_ones m q
ones_front zero q = sym (ones_spent q)
ones_front (suc m) q = go (dec_lt (first q) q.size) (ones_front m (without (first q) q))
  where
    go : Dec (first q < q.size)
        → take m (first_ones (suc m) (without (first q) q)) ≡ first_ones m (without (first q) q)
        → take (suc m) (first_ones (suc (suc m)) q) ≡ first_ones (suc m) q
    go (yes some) ih =
        ap (take (suc m)) (ones_take q (suc m) some) ∙ ap (λ xs. first q ∷ xs) ih ∙ sym (ones_take q m some)
    go (no none) ih =
        ap (take (suc m)) (ones_stop q (suc (suc m)) (omega arith)) ∙ sym (ones_stop q (suc m) (omega arith))

-- Who is put in before the one that a line has first, or after it.
inserted-first : (before : ℕ → ℕ → Bool) (i x : ℕ) (xs : List ℕ) → before i x ≡ true → inserted before i (x ∷ xs) ≡ i ∷ x ∷ xs
unfolding inserted
inserted-first before i x xs ahead = rw ahead refl

inserted_later : (before : ℕ → ℕ → Bool) (i x : ℕ) (xs : List ℕ)
    → before i x ≡ false
    → inserted before i (x ∷ xs) ≡ x ∷ inserted before i xs
unfolding inserted
inserted_later before i x xs behind = rw behind refl

inserted_alone : (before : ℕ → ℕ → Bool) (i : ℕ) → inserted before i [] ≡ i ∷ []
unfolding inserted
inserted_alone before i = refl

-- A number that waits is put into the line of those below it, and as many as may be taken are kept.
pub ones_insert : (m i : ℕ) (q : Queue)
    → i < q.size
    → q.waits i ≡ true
    → first_ones m (below (suc i) q) ≡ take m (inserted q.before i (first_ones m (below i q)))
ones_insert zero i q there waits = ones_spent (below (suc i) q)
ones_insert (suc m) i q there waits =
    go (dec_lt best q.size) (q.before i best) refl (λ apart. ones_insert m i (without best q) there (still_waits q best i waits apart))
  where
    best : ℕ
    best = first (below i q)

    next : ℕ
    next = first (below (suc i) q)

    found : best ≡ first_in q.waits q.before q.size i
    found = first_below q i (omega arith)

    finds : next ≡ first_in q.waits q.before q.size (suc i)
    finds = first_below q (suc i) there

    -- i is the first of those up to it: it is followed by the first ones of those below it
    leads : next ≡ i → first_ones (suc m) (below (suc i) q) ≡ i ∷ first_ones m (below i q)
    leads is_next =
        ones_take (below (suc i) q) m (omega arith)
        ∙ ap (λ f. f ∷ first_ones m (without f (below (suc i) q))) is_next
        ∙ ap (λ xs. i ∷ xs) (without_last q m i)

    go : Dec (best < q.size)
        → (b : Bool)
        → q.before i best ≡ b
        → ((i ≡ best → ⊥) → first_ones m (below (suc i) (without best q)) ≡ take m (inserted q.before i (first_ones m (below i (without best q)))))
        → first_ones (suc m) (below (suc i) q) ≡ take (suc m) (inserted q.before i (first_ones (suc m) (below i q)))
    go (no none) b test ih =
        let nobody : q.size ≤ best = omega arith in
        let only = ⊎_elim (λ low. absurd (omega (arith, found))) (λ e. e) (first_range q.waits q.before q.size i) in
        let is_next = finds ∙ first_alone q.waits q.before q.size i waits only in
        leads is_next
        ∙ ap (λ xs. i ∷ xs) (ones_stop (below i q) m nobody)
        ∙ sym (ap (take (suc m)) (ap (inserted q.before i) (ones_stop (below i q) (suc m) nobody) ∙ inserted_alone q.before i) ∙ alone)
      where
        alone : take (suc m) (i ∷ []) ≡ i ∷ []
        alone = rest m
          where
            rest : (n : ℕ) → take (suc n) (i ∷ []) ≡ i ∷ []
            rest zero = refl
            rest (suc n) = refl
    go (yes some) true test ih =
        let is_next = finds ∙ first_ahead q.waits q.before q.size i waits (rw found at test) in
        let line = ones_take (below i q) m some in
        leads is_next
        ∙ ap (λ xs. i ∷ xs) (sym (ones_front m (below i q)))
        ∙ sym (ap (take (suc m)) (ap (inserted q.before i) line ∙ inserted-first q.before i best _ test ∙ ap (λ xs. i ∷ xs) (sym line)))
    go (yes some) false test ih =
        let is_next : next ≡ best =
        finds ∙ first_behind q.waits q.before q.size i (λ e. omega (arith, found)) (rw found at test) ∙ sym found
        in
        let apart : i ≡ best → ⊥ =
        λ e. ⊎_elim (λ low. omega (arith, found)) (λ none. omega (arith, found)) (first_range q.waits q.before q.size i)
        in
        ones_take (below (suc i) q) m (omega arith)
        ∙ ap (λ f. f ∷ first_ones m (without f (below (suc i) q))) is_next
        ∙ ap (λ xs. best ∷ xs) (without_below q m best (suc i) ∙ ih apart ∙ ap (λ xs. take m (inserted q.before i xs)) (sym (without_below q m best i)))
        ∙ sym (ap (take (suc m)) (ap (inserted q.before i) (ones_take (below i q) m some) ∙ inserted_later q.before i best _ test))

-- The first ones of a queue are in its order.
pub ones_in_order : {Member : ℕ → Type 0} (q : Queue)
    → TotalOn Member q.before
    → ((n : ℕ) → q.waits n ≡ true → Member n)
    → (m : ℕ)
    → InOrder q.before (first_ones m q)
ones_in_order q order members m p r sooner inside =
    taken_in_order (taking m q) order members p r (get_or xs p 0) (get_or xs r 0) sooner (at_word xs p (omega arith)) (at_word xs r inside)
  where
    xs : List ℕ
    xs = first_ones m q
