-- What the search for J looks at of the streams above: their least periods and their jitters. Assumes nothing.
use Rattle.std.specs.Prelude.{ℕ, List, map}
use Rattle.model.specs.declared.Stream.{Stream}
use Rattle.model.specs.Analysis.{streams_of, above}

-- The least periods of streams, and their jitters.
abbrev pub periods_of : List Stream → List ℕ
periods_of ys = map (λ y. y.period) ys

abbrev pub jitters_of : List Stream → List ℕ
jitters_of ys = map (λ y. y.jitter) ys

-- Those of node k's streams that are ranked above one.
abbrev pub higher_periods : List ℕ → ℕ → Stream → List ℕ
higher_periods s k x = periods_of (above x (streams_of s k))

abbrev pub higher_jitters : List ℕ → ℕ → Stream → List ℕ
higher_jitters s k x = jitters_of (above x (streams_of s k))
