-- A lent buffer: what an answer leaves in it. Assumes nothing.
use Prim.Native.Nat.{ℕ}
use native.Mathlib.Decide.{ℕ_discrete}
use mathlib.Core.Path.{◌≡◌, refl, sym, ap, ◌∙◌}
use mathlib.Core.List.{List, ◌++◌}
use lib.ListN.{length, drop}
use borrow.Author.Tests.{eq-eqb, ne_eqb}
use Rattle.model.specs.declared.Answer.{Answer}
use Rattle.model.specs.Answers.{buffer_after}

-- A refusal changes no word.
pub buffer_kept : {X : Type 0} (a : Answer) (values room : List X) → (a.number ≡ 0 → ⊥) → room ≡ buffer_after a values room
unfolding buffer_after
buffer_kept a values room refuses = rw (ne_eqb a.number 0 refuses) refl

-- A success leaves its values and the rest.
pub buffer_written : {X : Type 0} (a : Answer) (values room : List X)
    → a.number ≡ 0
    → values ++ drop (length values) room ≡ buffer_after a values room
unfolding buffer_after
buffer_written a values room passes = rw (eq-eqb a.number 0 passes) refl

-- What a refusal would have written does not matter.
pub buffer_by : (a : Answer) {values others : List ℕ} (room : List ℕ)
    → (a.number ≡ 0 → values ≡ others)
    → buffer_after a values room ≡ buffer_after a others room
buffer_by a {values} {others} room same = go (ℕ_discrete a.number 0)
  where
    go : Dec (a.number ≡ 0) → buffer_after a values room ≡ buffer_after a others room
    go (yes passes) = ap (λ vs. buffer_after a vs room) (same passes)
    go (no refuses) = sym (buffer_kept a values room refuses) ∙ buffer_kept a others room refuses
