-- Where a node's streams stand, for a loop over them. Assumes nothing.
use Rattle.std.specs.Prelude.{ℕ, ◌+◌, ◌*◌, ◌≤◌, ◌≡◌, List, length}
use Rattle.model.specs.Limits.{max_streams, stream_words}
use Rattle.model.specs.Sheet.{place, stream_count}

-- The body of node k stands at `body`, its streams are `count`, not more than a node may have, and all their words are there.
pub record Body (s : List ℕ) (k body count : ℕ) : Type 0 where
  pub placed : body ≡ place s k
  pub counted : count ≡ stream_count s k
  pub few : count ≤ max_streams
  pub there : body + stream_words * count ≤ length s
