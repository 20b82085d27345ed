-- Interference goes by the least periods and jitters alone, and so the verdict by them is the definition's. Assumes nothing.
use Prim.Native.Nat.{ℕ}
use mathlib.Core.Path.{◌≡◌, ap, ◌∙◌}
use mathlib.Core.List.{List}
use Rattle.model.specs.declared.Stream.{Stream}
use Rattle.model.specs.declared.Timing.{Timing}
use Rattle.model.specs.declared.Verdict.{Verdict}
use Rattle.model.specs.Analysis.{interference, verdict, stream_of, higher_streams, timing_with, verdict_with}
use Rattle.interference.specs.Periods.{interference_by}
use Rattle.interference.proofs.Periods.{by_each}
use Rattle.verdicts.specs.Periods.{periods_of, jitters_of, higher_periods, higher_jitters}

-- Interference looks at the least periods and jitters.
interference_at : (ys : List Stream) (w : ℕ) → interference_by (periods_of ys) (jitters_of ys) w ≡ interference ys w
unfolding interference
interference_at ys w = by_each (λ y. y.period) (λ y. y.jitter) ys w

interference_lists : (ys : List Stream) → interference_by (periods_of ys) (jitters_of ys) ≡ interference ys
interference_lists ys = λ i w. interference_at ys w i

-- The verdict by the least periods and jitters of those ranked above a stream, and a timing of its node, is that on the stream.
pub verdict_lists : (s : List ℕ) (C m k j : ℕ) {periods jitters : List ℕ} {t : Timing} {x : Stream} {v : Verdict}
    → periods ≡ higher_periods s k (stream_of s k j)
    → jitters ≡ higher_jitters s k (stream_of s k j)
    → t ≡ timing_with s C m
    → x ≡ stream_of s k j
    → v ≡ verdict (interference_by periods jitters) t x
    → v ≡ verdict_with s C m k j
unfolding verdict_with
verdict_lists s C m k j e f g h found =
    (rw (e, f, g, h) at found)
    ∙ ap (λ H. verdict H (timing_with s C m) (stream_of s k j)) (interference_lists (higher_streams s k j))
