-- `records::note_begin` meets its contract. Assumes nothing.
use Rattle.std.proofs.Common.{ap}
use Rattle.std.proofs.Math.ListN.{set}
use Rattle.records.specs.Noting.{noted_in}
use Rattle.records.proofs.note_begin.Goals as goal

pub returns : goal.returns
unfolding noted_in
returns c = ap (set c.args.records.now c.args.begun.at) c.noted-new.ensures
