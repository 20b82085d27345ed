-- `wait::near::is_late_at` meets its contract: no sum passes 32 bits, as the cycles are few. Assumes nothing.
use mathlib.Core.Path.{refl}
use Rattle.model.specs.Analysis.{late_at}
use Rattle.wait.proofs.near.is_late_at.Goals as goal

pub returns : goal.returns
unfolding late_at
returns c = refl
