-- The laws about jumps with numbers: a stream with a jitter, and a sum that may fill the turns, which the listed wait does not have. So what
-- they are stated for beyond today's use is used too. Assumes nothing.
use Prim.Native.Nat.{ℕ, ◌+◌, ◌-◌, ◌*◌, ◌≤◌}
use native.Mathlib.Omega.{arith}
use Rattle.model.specs.Analysis.{most_releases}
use Rattle.model.proofs.Analysis.Interference.{releases_grow}
use Rattle.model.proofs.Analysis.Jump.{AtLeast, releases_steady, held_least, rate_least, jump}

-- The most messages of a stream with least period 10 and jitter 8.
abbrev longer : ℕ → ℕ
longer w = most_releases 10 8 w

-- In cycles of 4 ticks it has the rate of 40 hundredths, and is 80 ahead of it.
pub longer_rate : AtLeast 100 4 1 longer 80 40
longer_rate = rate_least 100 4 1 longer 10 8 (omega arith) (omega arith) (omega arith) (releases_steady 10 8 (omega arith))

-- With one place a turn it takes two turns at least, as it has two messages in the first cycle; and a place more, three.
pub two_turns : (i : ℕ) → 1 ≤ i → longer (i * 4 - 1) + 0 ≤ i * 1 → 2 ≤ i
unfolding most_releases
two_turns i from places = jump 1 0 i (held_least 1 4 1 longer (λ v w h. releases_grow 10 8 h)) from places (omega arith)

pub three_turns : (i : ℕ) → 1 ≤ i → longer (i * 4 - 1) + 1 ≤ i * 1 → 3 ≤ i
unfolding most_releases
three_turns i from places = jump 1 1 i (held_least 1 4 1 longer (λ v w h. releases_grow 10 8 h)) from places (omega arith)
