-- What it is for a test to be a strict total order on the members of a collection. Assumes nothing.
use mathlib.Core.Path.{◌≡◌}
use mathlib.Core.Logic.{◌⊎◌}
use mathlib.Core.Bool.{Bool, true}

pub record TotalOn {A : Type 0} (Member : A → Type 0) (before : A → A → Bool) : Type 0 where
  pub irreflexive : (a : A) → before a a ≡ true → ⊥
  pub transitive : (a b c : A) → before a b ≡ true → before b c ≡ true → before a c ≡ true
  pub total : (a b : A) → Member a → Member b → (a ≡ b → ⊥) → (before a b ≡ true) ⊎ (before b a ≡ true)
