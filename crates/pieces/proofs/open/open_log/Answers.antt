-- `pieces::open::open_log` meets its contract: the piece is put after the log of the messages that wait. Assumes nothing.
use native.Mathlib.Omega.{arith}
use Rattle.pieces.proofs.Opening.{opened_log}
use Rattle.pieces.proofs.open.open_log.Goals as goal

pub returns : goal.returns
returns c =
    let a = c.args in
    let pre = c.requires in
    rw c.copy_from_slice.ensures.after (opened_log a.c a.piece.now a.log.now c.put_waiting.new.log c.wide-held.result _ c.wide-held.ensures.0 pre.0 (omega arith) (omega (arith, pre.1, c.put_waiting.auto.log)) c.put_waiting.ensures)
