-- `pieces::open::open_numbers` meets its contract: the new release numbers are written after those of the messages that wait.
-- Assumes nothing.
use native.Mathlib.Omega.{arith}
use Rattle.pieces.proofs.Opening.{places, opened_numbers}
use Rattle.pieces.proofs.open.open_numbers.Goals as goal

pub returns : goal.returns
returns c =
    let a = c.args in
    let full = (places a.c _ c.well_formed.0).0 in
    opened_numbers a.c.numbers c.wide.result a.c.waiting a.c.releases a.count c.wide.ensures.0 (omega arith)
    (rw c.copy_from_slice.ensures.after at c.put_numbers.ensures)
