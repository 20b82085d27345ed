-- `encoding::checkpoint_in` meets its contract: each field is read at its place. Assumes nothing.
use mathlib.Core.Path.{refl}
use Rattle.encoding.specs.Words.{checkpoint_in}
use Rattle.encoding.proofs.checkpoint_in.Goals as goal

pub returns : goal.returns
unfolding checkpoint_in
returns c =
    let numbers = c.table_at-numbers.ensures in
    let ticks = c.table_at-ticks.ensures in
    let streams = c.table_at-streams.ensures in
    rw (numbers, ticks, streams) refl
