-- What the jumps of the search for J go by. Assumes nothing.
use Rattle.std.specs.Prelude.{ℕ, ◌*◌, ◌/◌, ◌≤◌, cond, List, length, ltb}
use Rattle.theory.specs.Sum.{sum_to}
use Rattle.model.specs.declared.Timing.{Timing}
use Rattle.model.specs.Analysis.{most_releases, Suffices}
use Rattle.interference.specs.Periods.{entry}

-- A rate is counted in so many parts of a message a cycle: 2 to the 34th.
abbrev pub scale : ℕ
scale = 17_179_869_184

-- What a stream counts with that is not taken by its rate, as its period is past the reach: the most that it can release.
unfoldable pub held_by : ℕ → ℕ → ℕ → ℕ → ℕ
held_by reach w period jitter = cond (ltb reach period) (most_releases period jitter w) 0

-- The rate of a stream that is taken by it, rounded down.
unfoldable pub rated_by : ℕ → ℕ → ℕ → ℕ
rated_by reach cycle period = cond (ltb reach period) 0 (cycle * scale / period)

-- What such a stream is ahead of its rate by its jitter, rounded down too.
unfoldable pub ahead_by : ℕ → ℕ → ℕ → ℕ
ahead_by reach period jitter = cond (ltb reach period) 0 (jitter * scale / period)

-- All three, over streams with these least periods and jitters.
abbrev pub held_of : ℕ → ℕ → List ℕ → List ℕ → ℕ
held_of reach w periods jitters = sum_to (λ i. held_by reach w (entry periods i) (entry jitters i)) (length periods)

abbrev pub ahead_of : ℕ → List ℕ → List ℕ → ℕ
ahead_of reach periods jitters = sum_to (λ i. ahead_by reach (entry periods i) (entry jitters i)) (length periods)

abbrev pub rate_of : ℕ → ℕ → List ℕ → ℕ
rate_of reach cycle periods = sum_to (λ i. rated_by reach cycle (entry periods i)) (length periods)

-- No number of cycles from one on suffices below another.
abbrev pub NoneBelow : (ℕ → ℕ) → Timing → ℕ → ℕ → Type 0
NoneBelow H t from next = (i : ℕ) → from ≤ i → Suffices H t i → next ≤ i
