-- `records::noted` meets its contract. Assumes nothing.
use Rattle.std.proofs.Common.{arith}
use Rattle.std.proofs.lemmas.Grind.{common_steps}
use Rattle.theory.specs.Count.{larger}
use Rattle.model.specs.Records.{noted}
use Rattle.records.proofs.noted.Goals as goal

pub returns : goal.returns
unfolding noted larger
returns c = grind (arith, common_steps)
