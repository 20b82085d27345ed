-- `encoding::put_checkpoint` meets its contract: the four parts of the record's words take all places. Assumes nothing.
use native.Mathlib.Omega.{arith}
use mathlib.Core.Path.{ap}
use mathlib.Core.List.{◌++◌}
use lib.ListN.{drop}
use Rattle.pieces.proofs.Opening.{places}
use Rattle.encoding.proofs.RecordWords.{part_over, record-written}
use Rattle.encoding.proofs.put_checkpoint.Goals as goal

pub returns : goal.returns
returns c =
    let a = c.args in
    let full = places a.c _ c.well_formed.0 in
    record-written a.c a.words.now full.0 full.1 full.2 (omega arith)
    (ap (λ part. part ++ drop 6 a.words.now) c.copy_from_slice.ensures.after)
    (part_over _ a.c.numbers 6 256 full.0 c.copy_from_slice-2.ensures.after)
    (part_over _ a.c.ticks 262 256 full.1 c.copy_from_slice-3.ensures.after)
    (part_over _ a.c.streams 518 256 full.2 c.copy_from_slice-4.ensures.after)
