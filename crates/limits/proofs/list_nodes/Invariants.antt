-- `limits::list_nodes` meets its contract: the limits of the nodes passed stand in the table's front, the rest is as it was. Those of the
-- next node go into the part of the table that is lent from `at` on.
-- Assumes nothing.
use Prim.Native.Nat.{pred}
use mathlib.Core.Path.{◌≡◌}
use lib.ListN.{length}
use Rattle.model.specs.Sheet.{streams_up_to}
use Rattle.limits.proofs.Filled.{limit_at, nodes_filled}
use Rattle.limits.proofs.list_nodes.Given as goal

abbrev pub invariant-loop-k : goal.invariant-loop-k
invariant-loop-k l =
    record {
      long : length l.limits ≡ length l.initial.limits;
      at : l.at ≡ streams_up_to l.sheet (pred l.k);
      filled : l.limits ≡ nodes_filled l.sheet (limit_at l.sheet) l.initial.limits (pred l.k);
    }
