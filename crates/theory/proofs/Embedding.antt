-- A queue that stands within a greater one: its first ones are those of the greater one. Assumes nothing.
use Prim.Native.Nat.{ℕ, zero, suc, ◌≤◌, ◌<◌}
use native.Mathlib.Decide.{ℕ_discrete, dec_lt}
use native.Mathlib.Omega.{arith}
use mathlib.Core.Path.{◌≡◌, sym, ◌∙◌, ap}
use mathlib.Core.Bool.{true, not, ◌&&◌, true≢false}
use mathlib.Core.List.{◌∷◌, map}
use lib.Dec.{eqb}
use borrow.Author.Tests.{eq-eqb, ne_eqb}
use Rattle.theory.specs.Queue.{Queue, first, without, first_ones}
use Rattle.theory.proofs.Order.{TotalOn}
use Rattle.theory.proofs.FirstOnes.{first_waits, nobody_waits, first_leads, without_waits, ones_take, ones_stop, ones_spent}

-- Queue q stands at the places `at` of a whole queue: the same wait there, in the same order, and nobody else waits.
pub record Within (q whole : Queue) (at : ℕ → ℕ) : Type 0 where
  pub below : (i : ℕ) → i < q.size → at i < whole.size
  pub apart : (i j : ℕ) → i < q.size → j < q.size → at i ≡ at j → i ≡ j
  pub waits : (i : ℕ) → i < q.size → q.waits i ≡ whole.waits (at i)
  pub before : (i j : ℕ) → i < q.size → j < q.size → q.before i j ≡ whole.before (at i) (at j)
  pub covers : (n : ℕ) → n < whole.size → whole.waits n ≡ true → (i : ℕ) × (i < q.size) × (at i ≡ n)

module _ {q whole : Queue} {at : ℕ → ℕ} (w : Within q whole at) where
  -- Who leaves both queues leaves them so.
  leaves : (f : ℕ) → f < q.size → Within (without f q) (without (at f) whole) at
  leaves f there =
      record {
        below = w.below;
        apart = w.apart;
        waits = λ i h. ap (λ b. b && not (eqb i f)) (w.waits i h) ∙ ap (λ b. whole.waits (at i) && not b) (same i h (ℕ_discrete i f));
        before = w.before;
        covers = λ n h waits. w.covers n h (without_waits whole (at f) n waits).0;
      }
    where
      same : (i : ℕ) → i < q.size → Dec (i ≡ f) → eqb i f ≡ eqb (at i) (at f)
      same i h (yes e) = eq-eqb i f e ∙ sym (eq-eqb (at i) (at f) (ap at e))
      same i h (no other) = ne_eqb i f other ∙ sym (ne_eqb (at i) (at f) (λ e. other (w.apart i f h there e)))

  -- Where nobody waits in the queue, nobody waits in the whole.
  none_first : q.size ≤ first q → whole.size ≤ first whole
  none_first nobody = go (dec_lt (first whole) whole.size)
    where
      go : Dec (first whole < whole.size) → whole.size ≤ first whole
      go (no none) = omega arith
      go (yes there) =
          let waits = first_waits whole there in
          let i = w.covers (first whole) there waits in
          absurd (true≢false (sym (w.waits i.0 i.1 ∙ ap whole.waits i.2 ∙ waits) ∙ nobody_waits q nobody i.0 i.1))

  -- Where somebody waits in the queue, somebody does in the whole.
  some_first : first q < q.size → first whole < whole.size
  some_first there = go (dec_lt (first whole) whole.size)
    where
      go : Dec (first whole < whole.size) → first whole < whole.size
      go (yes some) = some
      go (no none) =
          let waits = sym (w.waits (first q) there) ∙ first_waits q there in
          absurd (true≢false (sym waits ∙ nobody_waits whole (omega arith) (at (first q)) (w.below (first q) there)))

  module _ {Member Other : ℕ → Type 0}
      (order : TotalOn Member q.before)
      (members : (n : ℕ) → q.waits n ≡ true → Member n)
      (whole_order : TotalOn Other whole.before)
      (others : (n : ℕ) → whole.waits n ≡ true → Other n) where
    -- The first of the one is the first of the other: each would be before the other.
    same_first : first q < q.size → first whole ≡ at (first q)
    same_first there = go (w.covers (first whole) some waits) (ℕ_discrete (first whole) (at (first q)))
      where
        some : first whole < whole.size
        some = some_first there

        waits : whole.waits (first whole) ≡ true
        waits = first_waits whole some

        go : (i : ℕ) × (i < q.size) × (at i ≡ first whole) → Dec (first whole ≡ at (first q)) → first whole ≡ at (first q)
        go i (yes same) = same
        go i (no differ) =
            let waiting = w.waits i.0 i.1 ∙ ap whole.waits i.2 ∙ waits in
            let ahead = (first_leads q order members there).leads i.0 i.1 waiting (λ e. differ (sym i.2 ∙ ap at e)) in
            let sooner = sym (w.before (first q) i.0 there i.1) ∙ ahead in
            let later = (first_leads whole whole_order others some).leads (at (first q)) (w.below (first q) there)
            (sym (w.waits (first q) there) ∙ first_waits q there) (λ e. differ (sym e)) in
            absurd (whole_order.irreflexive (first whole)
            (whole_order.transitive (first whole) (at (first q)) (first whole) later (rw i.2 at sooner)))

-- The first ones of the whole queue are the places of the queue's.
pub ones_within : {Member Other : ℕ → Type 0} {at : ℕ → ℕ} (m : ℕ) (q whole : Queue)
    → TotalOn Member q.before
    → ((n : ℕ) → q.waits n ≡ true → Member n)
    → TotalOn Other whole.before
    → ((n : ℕ) → whole.waits n ≡ true → Other n)
    → Within q whole at
    → first_ones m whole ≡ map at (first_ones m q)
ones_within {at = at} zero q whole order members whole_order others w = ones_spent whole ∙ sym (ap (map at) (ones_spent q))
ones_within {at = at} (suc m) q whole order members whole_order others w =
    go (dec_lt (first q) q.size)
    (λ there. ones_within m (without (first q) q) (without (at (first q)) whole)
    order (λ n h. members n (without_waits q (first q) n h).0)
    whole_order (λ n h. others n (without_waits whole (at (first q)) n h).0)
    (leaves w (first q) there))
  where
    go : Dec (first q < q.size)
        → (first q < q.size
        → first_ones m (without (at (first q)) whole) ≡ map at (first_ones m (without (first q) q)))
        → first_ones (suc m) whole ≡ map at (first_ones (suc m) q)
    go (yes there) ih =
        ones_take whole m (some_first w there)
        ∙ ap (λ f. f ∷ first_ones m (without f whole)) (same_first w order members whole_order others there)
        ∙ ap (λ xs. at (first q) ∷ xs) (ih there)
        ∙ sym (ap (map at) (ones_take q m there))
    go (no none) ih =
        ones_stop whole (suc m) (none_first w (omega arith)) ∙ sym (ap (map at) (ones_stop q (suc m) (omega arith)))
