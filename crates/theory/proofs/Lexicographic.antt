-- Lexicographic orders: by a key, in some order of the keys, and where the keys are equal by a further order. Where both orders are
-- strict and total, so is the whole; so they nest, one key behind another. Assumes nothing.
use Prim.Native.Nat.{ℕ, ◌<◌}
use native.Mathlib.Nat.{lt_irrefl, lt_trans}
use native.Mathlib.Decide.{ℕ_discrete, dec_lt}
use native.Mathlib.Omega.{arith}
use mathlib.Core.Path.{◌≡◌, refl, sym, ◌∙◌}
use mathlib.Core.Logic.{◌↔◌, ◌⊎◌, inl, inr, ⊎_elim, ⊎_map, by_cases}
use mathlib.Core.Bool.{Bool, true, ◌&&◌, ◌||◌, or-false}
use lib.Dec.{ltb, eqb}
use borrow.Author.Tests.{ltb-true, lt-ltb, eqb-true, eq-eqb, ne_eqb}
use Rattle.theory.proofs.Order.{TotalOn}
use Rattle.theory.proofs.Tests.{fails, and_reading, or_reading}

-- The test: an earlier key, or an equal key and before by the further order.
abbrev pub lexicographic : {A : Type 0} → (ℕ → ℕ → Bool) → (A → ℕ) → (A → A → Bool) → A → A → Bool
lexicographic less key further a b = less (key a) (key b) || eqb (key a) (key b) && further a b

-- A test read as it stands,
pub as_tested : {A : Type 0} (test : A → A → Bool) (a b : A) → (test a b ≡ true) ↔ (test a b ≡ true)
as_tested test a b = (λ e. e, λ e. e)

-- and the test of numbers.
pub ltb_reading : (a b : ℕ) → (ltb a b ≡ true) ↔ (a < b)
ltb_reading a b = (ltb-true a b, lt-ltb a b)

-- The test is true exactly where the key is earlier, or the keys are equal and the further order says so.
pub lexicographic_reading : {A : Type 0} {less : ℕ → ℕ → Bool} {further : A → A → Bool} {Less : ℕ → ℕ → Type 0} {Further : A → A → Type 0}
    (key : A → ℕ)
    → ((p q : ℕ) → (less p q ≡ true) ↔ Less p q)
    → ((a b : A) → (further a b ≡ true) ↔ Further a b)
    → (a b : A)
    → (lexicographic less key further a b ≡ true) ↔ (Less (key a) (key b) ⊎ ((key a ≡ key b) × Further a b))
lexicographic_reading {less = less} {further = further} key first rest a b =
    let either = or_reading (less (key a) (key b)) (eqb (key a) (key b) && further a b) in
    let both = and_reading (eqb (key a) (key b)) (further a b) in (
      λ e. ⊎_map (first (key a) (key b)).0 (λ h. (eqb-true _ _ (both.0 h).0, (rest a b).0 (both.0 h).1)) (either.0 e),
      λ f. either.1 (⊎_map (first (key a) (key b)).1 (λ h. both.1 (eq-eqb _ _ h.0, (rest a b).1 h.1)) f),
    )

-- Different keys decide.
pub lexicographic_decided : {A : Type 0} (less : ℕ → ℕ → Bool) (key : A → ℕ) (further : A → A → Bool) (a b : A)
    → (key a ≡ key b → ⊥)
    → lexicographic less key further a b ≡ less (key a) (key b)
lexicographic_decided less key further a b differ = rw (ne_eqb (key a) (key b) differ) (or-false (less (key a) (key b)))

-- Equal keys, none of which comes before itself, leave it to the further order.
pub lexicographic_tied : {A : Type 0} (less : ℕ → ℕ → Bool) (key : A → ℕ) (further : A → A → Bool) (a b : A)
    → ((n : ℕ) → less n n ≡ true → ⊥)
    → key a ≡ key b
    → lexicographic less key further a b ≡ further a b
lexicographic_tied less key further a b irreflexive same =
    let not-less = fails (less (key a) (key b)) (λ e. irreflexive (key b) (rw same at e)) in
    rw (not-less, eq-eqb (key a) (key b) same) refl

-- Of two different numbers one is below the other.
apart : (a b : ℕ) → (a ≡ b → ⊥) → (a < b) ⊎ (b < a)
apart a b differ = by_cases (dec_lt a b) (λ h. inl h) (λ n. inr (omega arith))

-- No number is below itself.
pub ltb_irreflexive : (a : ℕ) → ltb a a ≡ true → ⊥
ltb_irreflexive a e = lt_irrefl a (ltb-true a a e)

-- The order of the numbers is a strict total order, on any of them.
pub ltb_total : (Member : ℕ → Type 0) → TotalOn Member ltb
ltb_total Member =
    record {
      irreflexive = ltb_irreflexive;
      transitive = λ a b c p q. lt-ltb a c (lt_trans (ltb-true a b p) (ltb-true b c q));
      total = λ a b _ _ differ. ⊎_map (lt-ltb a b) (lt-ltb b a) (apart a b differ);
    }

module _ {A : Type 0} {Member : A → Type 0} {Key : ℕ → Type 0} {less : ℕ → ℕ → Bool} {further : A → A → Bool}
    (order : TotalOn Key less) (key : A → ℕ) (ties : TotalOn Member further) where
  -- The test as a fact about both orders.
  abbrev Before : A → A → Type 0
  Before a b = (less (key a) (key b) ≡ true) ⊎ ((key a ≡ key b) × (further a b ≡ true))

  reading : (a b : A) → (lexicographic less key further a b ≡ true) ↔ Before a b
  reading = lexicographic_reading key (as_tested less) (as_tested further)

  -- The facts chain: the earlier key decides, and equal keys leave it to the further order.
  chain : {a b c : A} → Before a b → Before b c → Before a c
  chain {a} {b} {c} (inl p) (inl q) = inl (order.transitive (key a) (key b) (key c) p q)
  chain {a} {b} {c} (inl p) (inr q) = inl (rw q.0 at p)
  chain {a} {b} {c} (inr p) (inl q) = inl (rw p.0 q)
  chain {a} {b} {c} (inr p) (inr q) = inr (p.0 ∙ q.0, ties.transitive a b c p.1 q.1)

  -- Of two members that differ, one comes before the other.
  either_first : (a b : A) → Key (key a) → Key (key b) → Member a → Member b → (a ≡ b → ⊥) → Before a b ⊎ Before b a
  either_first a b x y m n differ =
      by_cases
      (ℕ_discrete (key a) (key b))
      (λ same. ⊎_map (λ h. inr (same, h)) (λ h. inr (sym same, h)) (ties.total a b m n differ))
      (λ other. ⊎_map (λ h. inl h) (λ h. inl h) (order.total (key a) (key b) x y other))

  -- The whole is a strict total order, where members have keys that the order of the keys is total on.
  pub lexicographic_total : ((a : A) → Member a → Key (key a)) → TotalOn Member (lexicographic less key further)
  lexicographic_total keyed =
      record {
        irreflexive = λ a e. ⊎_elim (order.irreflexive (key a)) (λ h. ties.irreflexive a h.1) ((reading a a).0 e);
        transitive = λ a b c p q. (reading a c).1 (chain ((reading a b).0 p) ((reading b c).0 q));
        total = λ a b m n differ.
            ⊎_map (reading a b).1 (reading b a).1 (either_first a b (keyed a m) (keyed b n) m n differ);
      }
