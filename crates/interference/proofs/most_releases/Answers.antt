-- `interference::most_releases` meets its contract: the quotient is at most the window with the jitter. Assumes nothing.
use mathlib.Core.Path.{refl}
use Rattle.model.specs.Analysis.{most_releases}
use Rattle.interference.proofs.most_releases.Goals as goal

pub returns : goal.returns
unfolding most_releases
returns c = refl
