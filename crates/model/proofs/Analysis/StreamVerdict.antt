-- The verdict on a stream of a sheet is the literal one, and the place in the turn no negative number. Assumes nothing.
use Prim.Native.Nat.{ℕ, pred, ◌-◌, ◌*◌, ◌≤◌, ◌<◌}
use mathlib.Core.List.{List}
use Rattle.model.specs.Sheet.{budget, cycle}
use Rattle.model.specs.Analysis.{stream_of, interference, IsLeastJ, higher_streams, timing_of, verdict_of, verdict_with}
use Rattle.model.proofs.Analysis.Interference.{interference_grows}
use Rattle.model.proofs.Analysis.Wait.{place_exact}
use Rattle.model.proofs.Analysis.Search.{Exact, verdict_exact}

module _ (s : List ℕ) (k j : ℕ) where
  pub stream_exact : 0 < cycle s
      → Exact (interference (higher_streams s k j)) (timing_of s k) (stream_of s k j) (verdict_of s k j)
  unfolding verdict_with
  stream_exact = verdict_exact (interference (higher_streams s k j)) (timing_of s k) (stream_of s k j)

  pub stream_placed : {J : ℕ}
      → IsLeastJ (interference (higher_streams s k j)) (timing_of s k) J
      → pred J * budget s k ≤ interference (higher_streams s k j) (J * cycle s - 1)
  stream_placed = place_exact (λ v w. interference_grows (higher_streams s k j))
