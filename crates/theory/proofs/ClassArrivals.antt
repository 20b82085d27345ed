-- What comes of a message's class in a stretch of time is at most the sum of what can come of each of its sources. Assumes nothing.
use Prim.Native.Nat.{ℕ, ◌≤◌, ◌<◌}
use mathlib.Core.Logic.Dec
use mathlib.Core.List.{List, Memᴰ}
use Rattle.theory.specs.Sum.{sum}
use Rattle.theory.proofs.Counting.{count}
use Rattle.theory.proofs.Arrivals.{count_sum}
use Rattle.theory.proofs.Line.{Line}
use Rattle.theory.proofs.Window.{InClass, came?, came}

-- Where each of the class of M is of one of the sources, and of each source no more come than its bound, no more come of the class
-- than the sum of the bounds.
pub came_sum : {A : Type 0} {Of : A → ℕ → Type 0} (l : Line) (M lo hi : ℕ) (of? : (y : A) (i : ℕ) → Dec (Of y i)) (bound : A → ℕ)
    (ys : List A)
    → ((i : ℕ) → i < l.releases → InClass l M i → (y : A) × Memᴰ y ys × Of y i)
    → ((y : A) → Memᴰ y ys → count (λ i. Dec.and (came? l M lo hi i) (of? y i)) l.releases ≤ bound y)
    → came l M lo hi ≤ sum bound ys
unfolding came
came_sum l M lo hi of? bound ys each most =
    count_sum of? bound l.releases ys (came? l M lo hi) (λ i h (c, f, u). each i h c) most
