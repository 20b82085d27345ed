-- What the search for J looks at of the streams above: two lists of the same length, with the least period and the jitter of each.
-- Assumes nothing.
use Rattle.std.specs.Prelude.{ℕ, pred, List, length, get_or}
use Rattle.theory.specs.Sum.{sum_to}
use Rattle.model.specs.Analysis.{most_releases}

-- What a list has for the i-th stream, from 1.
abbrev pub entry : List ℕ → ℕ → ℕ
entry list i = get_or list (pred i) 0

-- The most messages of the i-th stream in a window of w + 1 ticks.
abbrev pub releases_by : List ℕ → List ℕ → ℕ → ℕ → ℕ
releases_by periods jitters w i = most_releases (entry periods i) (entry jitters i) w

-- Interference, "H", of streams with these least periods and jitters.
abbrev pub interference_by : List ℕ → List ℕ → ℕ → ℕ
interference_by periods jitters w = sum_to (releases_by periods jitters w) (length periods)
