-- `pieces::Checkpoint::resume` meets its contract: a refusal hands all back, and what was run is what the definitions say. Assumes nothing.
use mathlib.Core.Path.{◌≡◌, sym, ap}
use lib.ListN.{length}
use Rattle.refusals.proofs.Chains.{refuses}
use Rattle.pieces.specs.Pieces.{resume_refusal}
use Rattle.pieces.proofs.Outcome.{refused_outcome, run_outcome}
use Rattle.pieces.proofs.Checkpoint.resume.Goals as goal

pub returns-in-Err : goal.returns-in-Err
returns-in-Err c =
    let a = c.args in
    let all = refused_outcome a.sheet.now a.self a.piece.now a.horizon a.room.now c.in-Err.ensures (refuses c.in-Err.refusal) in
    record { answer = all.0; checkpoint = all.1.0; refused = sym all.1.0; buffer = all.1.1.0; whole = all.1.1.1 }

pub returns-in-Ok : goal.returns-in-Ok
returns-in-Ok c =
    let a = c.args in
    let none : (resume_refusal a.sheet.now a.self a.piece.now a.horizon (length a.room.now)).number ≡ 0 = sym (ap (λ a. a.number) c.in-Ok.ensures) in
    let ran = c.run_piece.ensures in
    let all = run_outcome a.sheet.now a.self a.piece.now a.horizon a.room.now none (ran.answer, (ran.checkpoint, ran.buffer)) in
    record { answer = all.0; checkpoint = all.1.0; refused = _; buffer = all.1.1.0; whole = all.1.1.1 }
