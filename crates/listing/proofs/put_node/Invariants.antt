-- `listing::put_node` meets its contract: the lines of the streams before this turn's are put.
-- Assumes nothing.
use Prim.Native.Nat.{pred}
use Rattle.model.specs.Sheet.{word, running_number}
use Rattle.digits.specs.Put.{Adds}
use Rattle.texts.specs.Text.{lines_to, wait_line}
use Rattle.listing.proofs.put_node.Given as goal

abbrev pub invariant-loop-j : goal.invariant-loop-j
invariant-loop-j l =
    Adds l.fn.text (lines_to (λ i. wait_line l.k i (word l.waits (pred (running_number l.sheet l.k i)))) l.j) l.text
