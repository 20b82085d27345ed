-- `input::load` meets its contract: the words of the chunks before this turn's are stored.
-- Assumes nothing.
use mathlib.Core.Path.{◌≡◌}
use mathlib.Core.List.{◌++◌}
use lib.ListN.{drop}
use Rattle.input.specs.Input.{words_from}
use Rattle.input.proofs.load.Given as goal

abbrev pub invariant-loop-i : goal.invariant-loop-i
invariant-loop-i l = l.words ≡ words_from l.bytes 0 l.i ++ drop l.i l.initial.words
