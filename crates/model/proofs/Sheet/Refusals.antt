-- The order of refusals: what a chain of checks and a row of checks answer. `rest` is what is left of a row of checks from a
-- place on, so that a loop keeps "the rest from here equals the whole". Assumes nothing.
use Prim.Native.Nat.{ℕ, zero, suc, ◌+◌, ◌-◌, ◌≤◌, ◌<◌}
use native.Mathlib.Numerals.{add-one}
use native.Mathlib.Nat.{sub-zero, sub-eq-zero_of_le, eq-or-lt_of_le, lt_irrefl, le_refl}
use native.Mathlib.Decide.{ℕ_discrete}
use native.Mathlib.Omega.{arith}
use mathlib.Core.Path.{◌≡◌, refl, sym, ◌∙◌}
use mathlib.Core.Logic.{◌⊎◌, inl, inr, ⊎_elim}
use mathlib.Core.Bool.{Bool, true, false}
use borrow.Author.Tests.{eq-eqb, ne_eqb, eqb-true, eqb-false}
use lib.Dec.{eqb}
use Rattle.model.specs.declared.Answer.{Answer}
use Rattle.model.specs.Refusal.{accepted, refuse_if, ◌or_else◌, first_of}

-- A check that finds nothing leaves the answer to the next.
pub or_else_on : (a b : Answer) → a.number ≡ 0 → a or_else b ≡ b
unfolding ◌or_else◌
or_else_on a b e = rw (eq-eqb a.number 0 e) refl

-- A check that refuses decides the answer.
pub or_else_stop : (a b : Answer) → (a.number ≡ 0 → ⊥) → a or_else b ≡ a
unfolding ◌or_else◌
or_else_stop a b h = rw (ne_eqb a.number 0 h) refl

-- The same for a program that holds what a check answered: it refused, so that is the chain's answer;
pub refused : {a x : Answer} (y : Answer) → a ≡ x → (a.number ≡ 0 → ⊥) → a ≡ x or_else y
refused {a} {x} y e h = e ∙ sym (or_else_stop x y (λ z. h (rw e z)))

-- or it found nothing, so the chain's answer is that of the checks after it.
pub passed : {a x r y : Answer} → a ≡ x → a.number ≡ 0 → r ≡ y → r ≡ x or_else y
passed {a} {x} {r} {y} e z s = s ∙ sym (or_else_on x y (rw e at z))

-- Where a chain of two finds nothing, neither check refuses.
pub or_else_both : (a b : Answer) → (a or_else b).number ≡ 0 → (a.number ≡ 0) × (b.number ≡ 0)
or_else_both a b e = go (eqb a.number 0) refl
  where
    go : (t : Bool) → eqb a.number 0 ≡ t → (a.number ≡ 0) × (b.number ≡ 0)
    go true h =
        let z : a.number ≡ 0 = eqb-true a.number 0 h in
        (z, rw (or_else_on a b z) at e)
    go false h =
        let n : a.number ≡ 0 → ⊥ = eqb-false a.number 0 h in
        absurd (n (rw (or_else_stop a b n) at e))

-- Where neither check refuses, the chain finds nothing.
pub or_else_none : (a b : Answer) → a.number ≡ 0 → b.number ≡ 0 → (a or_else b).number ≡ 0
or_else_none a b first second = rw (or_else_on a b first) second

-- A chain of checks can be cut anywhere.
pub or_else_assoc : (a b c : Answer) → (a or_else b) or_else c ≡ a or_else b or_else c
unfolding ◌or_else◌
or_else_assoc a b c = go (eqb a.number 0) refl
  where
    go : (t : Bool) → eqb a.number 0 ≡ t → (a or_else b) or_else c ≡ a or_else b or_else c
    go true none = rw none refl
    go false some = rw (some, some) refl

-- A check that does not hold finds nothing, and one that holds refuses.
pub refuse_if_not : {test : Bool} (a : Answer) → test ≡ false → refuse_if test a ≡ accepted
unfolding refuse_if
refuse_if_not a e = rw e refl

pub refuse_if_passes : {test : Bool} (a : Answer) → test ≡ false → (refuse_if test a).number ≡ 0
refuse_if_passes a e = rw (refuse_if_not a e) refl

pub refuse_if_so : {test : Bool} (a : Answer) → test ≡ true → refuse_if test a ≡ a
unfolding refuse_if
refuse_if_so a e = rw e refl

-- Where a check finds nothing, it does not hold.
pub refuse_if_none : (test : Bool) (a : Answer) → (a.number ≡ 0 → ⊥) → (refuse_if test a).number ≡ 0 → test ≡ false
unfolding refuse_if
refuse_if_none true a h e = absurd (h e)
refuse_if_none false a h e = refl

-- What is left of the row of checks f 1, f 2, .., f n once i of them have found nothing.
abbrev pub rest : (ℕ → Answer) → ℕ → ℕ → Answer
rest f i n = first_of f (suc i) (n - i)

pub rest_start : (f : ℕ → Answer) (n : ℕ) → rest f 0 n ≡ first_of f 1 n
rest_start f n = rw sub-zero refl

-- Of n things, of which i are done, one is the next.
pub one_more : (i n : ℕ) → i < n → n - i ≡ suc (n - suc i)
one_more i n h = omega arith

rest_suc : (f : ℕ → Answer) (i n : ℕ) → i < n → rest f i n ≡ f (i + 1) or_else rest f (i + 1) n
unfolding first_of
rest_suc f i n h = rw (one_more i n h, add-one i) refl

-- The next check finds nothing: the rest after it is the whole still.
pub rest_on : (f : ℕ → Answer) (i n : ℕ) {a whole : Answer} → i < n → a ≡ f (i + 1) → a.number ≡ 0 → rest f i n ≡ whole → rest f (i + 1) n ≡ whole
rest_on f i n {a} {whole} h e z same =
    sym (or_else_on (f (i + 1)) (rest f (i + 1) n) (rw e at z)) ∙ sym (rest_suc f i n h) ∙ same

-- The next check refuses: that is the whole.
pub rest_stop : (f : ℕ → Answer) (i n : ℕ) {a whole : Answer} → i < n → a ≡ f (i + 1) → (a.number ≡ 0 → ⊥) → rest f i n ≡ whole → a ≡ whole
rest_stop f i n {a} {whole} h e z same =
    e
    ∙ sym (or_else_stop (f (i + 1)) (rest f (i + 1) n) (λ y. z (rw e y)))
    ∙ sym (rest_suc f i n h)
    ∙ same

-- All checks have found nothing: there is no refusal.
pub rest_end : (f : ℕ → Answer) (i n : ℕ) {whole : Answer} → n ≤ i → rest f i n ≡ whole → accepted ≡ whole
unfolding first_of
rest_end f i n h same = rw (sub-eq-zero_of_le h) at same

-- Where a row of checks finds nothing, none of them does.
pub first_none : (f : ℕ → Answer) (from count : ℕ) → (first_of f from count).number ≡ 0 → (i : ℕ) → from ≤ i → i < from + count → (f i).number ≡ 0
unfolding first_of
first_none f from zero e i low high = absurd (lt_irrefl i (omega arith))
first_none f from (suc count) e i low high =
    let both = or_else_both (f from) (first_of f (suc from) count) e in
    go (eq-or-lt_of_le low) both.0 (first_none f (suc from) count both.1 i)
  where
    go : (from ≡ i) ⊎ (from < i)
        → (f from).number ≡ 0
        → (suc from ≤ i → i < suc from + count → (f i).number ≡ 0)
        → (f i).number ≡ 0
    go (inl same) here later = rw same at here
    go (inr less) here later = later less (omega arith)

-- Where none of a row of checks refuses, the row finds nothing.
pub first_all : (f : ℕ → Answer) (from count : ℕ) → ((i : ℕ) → from ≤ i → i < from + count → (f i).number ≡ 0) → (first_of f from count).number ≡ 0
unfolding first_of
first_all f from zero none = refl
first_all f from (suc count) none =
    or_else_none (f from) (first_of f (suc from) count)
    (none from (le_refl from) (omega arith))
    (first_all f (suc from) count (λ i low high. none i (omega arith) (omega arith)))

-- Where a row of checks refuses, its answer is that of one of them, and none before it refuses.
pub record FirstFound (f : ℕ → Answer) (from count : ℕ) : Type 0 where
  pub at : ℕ
  pub low : from ≤ at
  pub high : at < from + count
  pub same : first_of f from count ≡ f at
  pub earlier : (i : ℕ) → from ≤ i → i < at → (f i).number ≡ 0

pub first_found : (f : ℕ → Answer) (from count : ℕ) → ((first_of f from count).number ≡ 0 → ⊥) → FirstFound f from count
unfolding first_of
first_found f from zero refuses = absurd (refuses refl)
first_found f from (suc count) refuses = go (ℕ_discrete (f from).number 0) (first_found f (suc from) count)
  where
    go : Dec ((f from).number ≡ 0)
        → (((first_of f (suc from) count).number ≡ 0 → ⊥) → FirstFound f (suc from) count)
        → FirstFound f from (suc count)
    go (no here) later =
        record {
          at = from;
          low = omega arith;
          high = omega arith;
          same = or_else_stop (f from) (first_of f (suc from) count) here;
          earlier = λ i low high. absurd (omega arith);
        }
    go (yes none) later =
        let on = or_else_on (f from) (first_of f (suc from) count) none in
        let found = later (λ e. refuses (rw on e)) in
        record {
          at = found.at;
          low = omega (arith, found.low);
          high = omega (arith, found.high);
          same = on ∙ found.same;
          earlier = λ i low high. ⊎_elim (λ e. rw e at none) (λ less. found.earlier i less high) (eq-or-lt_of_le low);
        }
