-- `places::put_waiting` meets its contract: the messages passed stand as a log, the rest is as it was. Assumes nothing.
use Prim.Native.Nat.{◌*◌}
use mathlib.Core.Path.{◌≡◌}
use mathlib.Core.List.{◌++◌}
use lib.ListN.{drop}
use Rattle.theory.specs.Listing.{joined_from}
use Rattle.model.specs.Limits.{release_words}
use Rattle.places.proofs.Writing.{pair}
use Rattle.places.proofs.put_waiting.Given as goal

abbrev pub invariant-loop-i : goal.invariant-loop-i
invariant-loop-i l =
    l.log ≡ joined_from (pair l.ticks l.streams) 0 l.i ++ drop (release_words * l.i) l.initial.log
