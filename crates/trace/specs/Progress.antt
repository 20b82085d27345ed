-- What a run from any record on goes by. Assumes nothing.
use Rattle.std.specs.Prelude.{ℕ, ◌≤◌, ◌<◌, ◌≡◌, List}
use Rattle.model.specs.Limits.{not_begun}
use Rattle.model.specs.Sheet.{word}
use Rattle.model.specs.Protocol.{releases, release_tick}

-- No release that has not begun comes before a tick.
abbrev pub NoneBefore : List ℕ → List ℕ → ℕ → Type 0
NoneBefore log begins tick = (i : ℕ) → i < releases log → word begins i ≡ not_begun → tick ≤ release_tick log i
