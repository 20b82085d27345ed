-- `listing::put_nodes` meets its contract: the lines of the nodes before this turn's are put, and `from` counts their streams.
-- Assumes nothing.
use Prim.Native.Nat.{◌*◌, ◌≤◌}
use mathlib.Core.Path.{◌≡◌}
use Rattle.model.specs.Sheet.{streams_up_to}
use Rattle.digits.specs.Put.{Adds}
use Rattle.texts.specs.Text.{lines_to, node_lines}
use Rattle.listing.proofs.put_nodes.Given as goal

abbrev pub invariant-loop-k : goal.invariant-loop-k
invariant-loop-k l = record {
  from_streams : l.from ≡ streams_up_to l.sheet l.k;
  from_small : l.from ≤ 4294967295 * l.k;
  lines : Adds l.fn.text (lines_to (node_lines l.sheet l.waits) l.k) l.text;
}
