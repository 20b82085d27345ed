-- The search for J that computes the verdict: its steps, and that its verdict is the literal one. It tries 1, 2 and so on in order, so where it
-- stops J is the smallest; and it tries just the J that are in time. Assumes nothing.
use Prim.Native.Nat.{ℕ, zero, suc, ◌+◌, ◌-◌, ◌*◌, ◌≤◌, ◌<◌}
use native.Mathlib.Nat.{le_refl, le_step, eq-or-lt_of_le}
use native.Mathlib.Decide.{dec_lt}
use native.Mathlib.Omega.{arith}
use mathlib.Core.Path.{◌≡◌, refl, sym, ap, ◌∙◌, subst₂}
use mathlib.Core.Logic.{◌↔◌, ⊎_elim, by_cases}
use mathlib.Core.Bool.{Bool, true, false, true≢false}
use borrow.Author.Tests.{lt-ltb, le-ltb}
use Rattle.model.specs.declared.Stream.{Stream}
use Rattle.model.specs.declared.Timing.{Timing}
use Rattle.model.specs.declared.Verdict.{Verdict}
use Rattle.model.specs.declared.Verdict.TheVariants.{Late, Listed}
use Rattle.model.specs.Analysis.{Suffices, IsLeastJ, wait_for, late_at, HasWait, IsLate, search, tries_worth, verdict}
use Rattle.model.proofs.Analysis.Wait.{below_least, in_time_worth}

-- A verdict is the literal one: it lists exactly a wait that the stream has, and is late exactly where the stream is.
pub record Exact (H : ℕ → ℕ) (t : Timing) (x : Stream) (v : Verdict) : Type 0 where
  pub listed : (w J : ℕ) → (v ≡ Listed w J) ↔ HasWait H t x J w
  pub late : (v ≡ Late) ↔ IsLate H t x

-- A verdict is not both.
late_not_listed : {v : Verdict} {w J : ℕ} → v ≡ Late → v ≡ Listed w J → ⊥
late_not_listed late listed = let z : ◌≡◌ {A = ℕ} 0 1 = cc in omega arith

module _ (H : ℕ → ℕ) (t : Timing) where
  -- The search ends at a number that suffices.
  search_found : (tries from : ℕ) → Suffices H t from → search H t (suc tries) from ≡ Listed (wait_for H t from) from
  unfolding search
  search_found tries from enough = rw (lt-ltb _ _ enough, search)

  -- Where a number does not suffice, it goes on with the next.
  search_on : (tries from : ℕ) → (Suffices H t from → ⊥) → search H t (suc tries) from ≡ search H t tries (suc from)
  unfolding search
  search_on tries from short =
      let filled : from * t.budget ≤ H (from * t.cycle - 1) = omega arith in
      rw (le-ltb _ _ filled, search)

  -- With no try left the verdict is late.
  search_end : (from : ℕ) → search H t zero from ≡ Late
  unfolding search
  search_end from = refl

  -- What a search has found: the smallest J, one of its tries, and its wait.
  record Found (tries J w : ℕ) : Type 0 where
    least : IsLeastJ H t J
    wait : w ≡ wait_for H t J
    tried : J ≤ tries

  -- A search from a number that none suffices below lists only that.
  from_listed : {J w : ℕ} (last tries from : ℕ)
      → from + tries ≡ suc last
      → 1 ≤ from
      → ((i : ℕ) → 1 ≤ i → Suffices H t i → from ≤ i)
      → search H t tries from ≡ Listed w J
      → Found last J w
  from_listed last zero from sum one least e = absurd (late_not_listed (search_end from) e)
  from_listed {J} {w} last (suc tries) from sum one least e =
      by_cases
      (dec_lt (H (from * t.cycle - 1)) (from * t.budget))
      found
      (λ short. from_listed last tries (suc from) (omega arith) (le_step one) (next short) (sym (search_on tries from short) ∙ e))
    where
      found : Suffices H t from → Found last J w
      found enough =
          let here = search_found tries from enough in
          let cycles : from ≡ J = cc in
          let wait : wait_for H t from ≡ w = cc in
          subst₂ (Found last) cycles wait
          (record { least = record { from_one = one; suffices = enough; smallest = least }; wait = refl; tried = omega arith })

      next : (Suffices H t from → ⊥) → (i : ℕ) → 1 ≤ i → Suffices H t i → from < i
      next short i first enough =
          ⊎_elim (λ same. absurd (short (rw same enough))) (λ h. h) (eq-or-lt_of_le (least i first enough))

  -- A search that comes to the smallest J lists it and its wait.
  listed_from : {J : ℕ}
      → IsLeastJ H t J
      → (tries from : ℕ)
      → from ≤ J
      → J < from + tries
      → search H t tries from ≡ Listed (wait_for H t J) J
  listed_from h zero from low high = absurd (omega arith)
  listed_from {J} h (suc tries) from low high =
      ⊎_elim
      (λ e. rw e (search_found tries J h.suffices))
      (λ less. search_on tries from (below_least h from less) ∙ listed_from h tries (suc from) less (omega arith))
      (eq-or-lt_of_le low)

  -- A search that ends late has tried nothing that suffices.
  passed_late : (tries from : ℕ)
      → search H t tries from ≡ Late
      → (i : ℕ)
      → from ≤ i
      → i < from + tries
      → Suffices H t i
      → ⊥
  passed_late zero from e i low high enough = omega arith
  passed_late (suc tries) from e i low high enough =
      by_cases
      (dec_lt (H (from * t.cycle - 1)) (from * t.budget))
      (λ here. late_not_listed e (search_found tries from here))
      (λ short.
      ⊎_elim
      (λ same. short (rw same enough))
      (λ later. passed_late tries (suc from) (sym (search_on tries from short) ∙ e) i later (omega arith) enough)
      (eq-or-lt_of_le low))

module _ (H : ℕ → ℕ) (t : Timing) (x : Stream) (positive : 0 < t.cycle) where
  -- The verdict lists the wait that the stream has: a J in time is tried.
  has_verdict : {J w : ℕ} → HasWait H t x J w → verdict H t x ≡ Listed w J
  unfolding verdict
  has_verdict {J} {w} h =
      let same = h.wait in
      let one = h.least.from_one in
      let reached : J ≤ tries_worth t x = (in_time_worth t x J positive one).0 h.in_time in
      listed_from H t h.least (tries_worth t x) 1 one (omega arith) ∙ ap (λ n. Listed n J) (sym same)

  -- It lists no other: each J that is tried is in time.
  verdict_has : {J w : ℕ} → verdict H t x ≡ Listed w J → HasWait H t x J w
  unfolding verdict
  verdict_has {J} e =
      let f = from_listed H t (tries_worth t x) (tries_worth t x) 1 (omega arith) (le_refl 1) (λ i first enough. first) e in
      record {
        least = f.least;
        wait = f.wait;
        in_time = (in_time_worth t x J positive f.least.from_one).1 f.tried;
      }

  -- Where it is late, the stream is late.
  verdict_is_late : verdict H t x ≡ Late → IsLate H t x
  verdict_is_late e J least = go (late_at t x J) refl
    where
      go : (b : Bool) → late_at t x J ≡ b → b ≡ true
      go true late = refl
      go false early = absurd (late_not_listed e (has_verdict (record { least = least; wait = refl; in_time = early })))

  -- Where the stream is late, so is the verdict.
  late_verdict : IsLate H t x → verdict H t x ≡ Late
  late_verdict late = go (verdict H t x) refl
    where
      go : (v : Verdict) → verdict H t x ≡ v → verdict H t x ≡ Late
      go Late e = e
      go (Listed w J) e = let h = verdict_has e in absurd (true≢false (sym (late J h.least) ∙ h.in_time))

  -- The verdict is the literal one.
  pub verdict_exact : Exact H t x (verdict H t x)
  verdict_exact = record { listed = λ w J. (verdict_has, has_verdict); late = (verdict_is_late, late_verdict) }

-- Where the verdict is late, nothing suffices that is worth a try.
pub late_passed : (H : ℕ → ℕ) (t : Timing) (x : Stream) (i : ℕ)
    → verdict H t x ≡ Late
    → 1 ≤ i
    → i ≤ tries_worth t x
    → Suffices H t i
    → ⊥
unfolding verdict
late_passed H t x i e one few = passed_late H t (tries_worth t x) 1 e i one (omega arith)
