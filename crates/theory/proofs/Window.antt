-- A window is a fact about history: since a tick there were so many own turns. The class of a message is itself and what its
-- node queues before it, and `came` counts those of it that came in a stretch of time. Assumes nothing.
use Prim.Native.Nat.{ℕ, suc, ◌+◌, ◌≤◌, ◌<◌}
use mathlib.Core.Path.{◌≡◌}
use mathlib.Core.Logic.Dec
use mathlib.Core.Logic.{◌⊎◌, inl, inr}
use mathlib.Core.Bool.{true, false, Bool-discrete}
use native.Mathlib.Omega.{arith}
use native.Mathlib.Decide.{ℕ_discrete, dec_le, dec_lt}
use Rattle.theory.proofs.Counting.{count, count_disjoint, count_mono}
use Rattle.theory.proofs.Line.{Line, IsServed}

-- Since tick lo there were d own turns before turn t. A window opens at 0 before the first turn, or one past the start of an own
-- turn; a further own turn makes d one more, and another node's turn leaves it.
pub data Since (l : Line) : ℕ → ℕ → ℕ → Type 0 where
  at_first : Since l 0 0 0
  opens : {t : ℕ} → l.own_turn t ≡ true → Since l (suc (l.start t)) 0 (suc t)
  own_turn : {lo d t : ℕ} → l.own_turn t ≡ true → Since l lo d t → Since l lo (suc d) (suc t)
  other_turn : {lo d t : ℕ} → l.own_turn t ≡ false → Since l lo d t → Since l lo d (suc t)

-- A window opens no later than one past the start of the turn.
pub since_from : {l : Line} {lo d t : ℕ} → IsServed l → t ≤ l.turns → Since l lo d t → lo ≤ suc (l.start t)
since_from s h at_first = omega arith
since_from s h (opens {t} o) = omega (arith, s.clock t h)
since_from s h (own_turn {t = t} o w) = omega (arith, s.clock t h, since_from s (omega arith) w)
since_from s h (other_turn {t = t} o w) = omega (arith, s.clock t h, since_from s (omega arith) w)

-- The class of message M: M itself and the node's releases before it in the queue's order.
abbrev pub InClass : Line → ℕ → ℕ → Type 0
InClass l M i = (l.own i ≡ true) × ((i ≡ M) ⊎ (l.before i M ≡ true))

pub in_class? : (l : Line) (M i : ℕ) → Dec (InClass l M i)
in_class? l M i = Dec.and (Bool-discrete (l.own i) true) (either (ℕ_discrete i M) (Bool-discrete (l.before i M) true))
  where
    either : {A B : Type 0} → Dec A → Dec B → Dec (A ⊎ B)
    either (yes a) y = yes (inl a)
    either (no x) (yes b) = yes (inr b)
    either (no x) (no y) = no (λ s. elim s [ inl a ↦ x a | inr b ↦ y b ])

-- Three decisions at once.
pub all_three : {A B C : Type 0} → Dec A → Dec B → Dec C → Dec (A × B × C)
all_three (yes a) (yes b) (yes c) = yes (a, b, c)
all_three (yes a) (yes b) (no z) = no (λ t. z t.2)
all_three (yes a) (no y) z = no (λ t. y t.1)
all_three (no x) y z = no (λ t. x t.0)

-- A member of the class with its tick from lo on and before hi.
abbrev pub Came : Line → ℕ → ℕ → ℕ → ℕ → Type 0
Came l M lo hi i = InClass l M i × (lo ≤ l.tick i) × (l.tick i < hi)

pub came? : (l : Line) (M lo hi i : ℕ) → Dec (Came l M lo hi i)
came? l M lo hi i = all_three (in_class? l M i) (dec_le lo (l.tick i)) (dec_lt (l.tick i) hi)

-- How many of the class of M came from tick lo on and before tick hi.
unfoldable pub came : Line → ℕ → ℕ → ℕ → ℕ
came l M lo hi = count (came? l M lo hi) l.releases

module _ (l : Line) (M : ℕ) where
  -- More of the class came in a longer time.
  pub came_mono : (lo hi hi' : ℕ) → hi ≤ hi' → came l M lo hi ≤ came l M lo hi'
  unfolding came
  came_mono lo hi hi' h = count_mono (came? l M lo hi) (came? l M lo hi') l.releases (λ i b (c, f, u). (c, f, omega arith))

  -- What came until a tick and after it came altogether.
  pub came_split : (lo mid hi : ℕ) → lo ≤ mid → mid ≤ hi → came l M lo mid + came l M mid hi ≤ came l M lo hi
  unfolding came
  came_split lo mid hi a b =
      count_disjoint
      (came? l M lo hi)
      (came? l M lo mid)
      (came? l M mid hi)
      l.releases
      (λ i n (c, f, u). (c, f, omega arith))
      (λ i n (c, f, u). (c, omega arith, u))
      (λ i n (c, f, u) (c', f', u'). omega arith)
