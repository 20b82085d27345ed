-- `limits::limit_of` meets its contract: each arm is a clause of the definition.
-- Assumes nothing.
use mathlib.Core.Path.{refl}
use Rattle.limits.specs.Limits.{limit_word}
use Rattle.limits.proofs.limit_of.Goals as goal

pub returns-in-Late : goal.returns-in-Late
unfolding limit_word
returns-in-Late c = rw c.in-Late.is refl

pub returns-in-Listed : goal.returns-in-Listed
unfolding limit_word
returns-in-Listed c = rw c.in-Listed.is refl
