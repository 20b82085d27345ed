-- `places::put_numbers` meets its contract: the numbers so far stand in the first places. Assumes nothing.
use Prim.Native.Nat.{suc, ◌+◌}
use mathlib.Core.Path.{◌≡◌}
use mathlib.Core.List.{◌++◌}
use lib.ListN.{drop}
use Rattle.theory.specs.Listing.{values_from}
use Rattle.places.proofs.put_numbers.Given as goal

abbrev pub invariant-loop-place : goal.invariant-loop-place
invariant-loop-place l =
    (l.number ≡ l.before + l.place-index)
    × (l.place-items ≡ values_from suc l.before l.place-index ++ drop l.place-index l.initial.place-items)
