-- Interference by least periods and jitters. Assumes nothing.
use Prim.Native.Nat.{ℕ, zero, suc, pred, ◌+◌, ◌*◌, ◌≤◌, ◌<◌}
use native.Mathlib.Nat.{div-le_self}
use native.Mathlib.Omega.{arith}
use mathlib.Core.Path.{◌≡◌, refl, ap, ◌∙◌}
use mathlib.Core.List.{List, [], ◌∷◌, map}
use lib.ListN.{length, get_or}
use Rattle.theory.specs.Sum.{sum}
use Rattle.theory.proofs.Sums.{sum_to_none, sum_to-first_lem, sum_to_same, sum_to_mono, sum_to_most}
use Rattle.model.specs.Limits.{max_time}
use Rattle.model.specs.Analysis.{most_releases}
use Rattle.model.proofs.Analysis.Interference.{releases_grow}
use Rattle.model.proofs.Analysis.Wait.{Grows}
use Rattle.interference.specs.Periods.{entry, releases_by, interference_by}
use Rattle.interference.specs.InRange.{HigherRanges}

-- What a list has for the next stream after i of them.
pub next_entry : (list : List ℕ) (i : ℕ) → entry list (i + 1) ≡ get_or list i 0
next_entry list i = let at : pred (i + 1) ≡ i = omega arith in ap (λ n. get_or list n 0) at

-- It is the sum over those that the periods and jitters are of.
pub by_each : {A : Type 0} (period jitter : A → ℕ) (ys : List A) (w : ℕ)
    → interference_by (map period ys) (map jitter ys) w ≡ sum (λ y. most_releases (period y) (jitter y) w) ys
unfolding sum
by_each period jitter [] w = sum_to_none (releases_by [] [] w)
by_each period jitter (y ∷ ys) w =
    sum_to-first_lem (releases_by (map period (y ∷ ys)) (map jitter (y ∷ ys)) w) (length (map period ys))
    ∙ ap (λ n. most_releases (period y) (jitter y) w + n) (sum_to_same _ _ (length (map period ys)) later ∙ by_each period jitter ys w)
  where
    later : (i : ℕ)
        → 1 ≤ i
        → i ≤ length (map period ys)
        → releases_by (map period (y ∷ ys)) (map jitter (y ∷ ys)) w (suc i) ≡ releases_by (map period ys) (map jitter ys) w i
    later zero low high = absurd (omega arith)
    later (suc i) low high = refl

module _ (periods jitters : List ℕ) where
  -- It grows with the window.
  pub by_grows : Grows (interference_by periods jitters)
  by_grows v w h =
      sum_to_mono (releases_by periods jitters v) (releases_by periods jitters w) (length periods)
      (λ i low high. releases_grow (entry periods i) (entry jitters i) h)

  -- It is at most a message a tick, of the window and of the longest jitter, for each stream.
  pub by_most : HigherRanges periods jitters → (w : ℕ) → interference_by periods jitters w ≤ length periods * (w + max_time + 1)
  unfolding most_releases
  by_most ranges w =
      sum_to_most (releases_by periods jitters w) (w + max_time + 1) (length periods)
      (λ i low high.
      let inside : pred i < length periods = omega arith in
      omega (arith, div-le_self (w + entry jitters i) (entry periods i), ranges.jitters_below (pred i) inside, ranges.periods_to (pred i) inside))
