-- `encoding::resume_in` meets its contract: the record in the table is resumed, and a refusal leaves the table. Assumes nothing.
use mathlib.Core.Path.{refl}
use lib.ListN.{length}
use Rattle.refusals.proofs.Chains.{refuses}
use Rattle.encoding.proofs.WordsOutcome.{table_kept, table_run}
use Rattle.encoding.proofs.resume_in.Goals as goal

pub returns-in-Err-clause-checkpoint : goal.returns-in-Err-clause-checkpoint
returns-in-Err-clause-checkpoint c =
    let a = c.args in
    let is = rw c.checkpoint_in-before.ensures at c.in-Err.ensures in
    table_kept a.sheet.now a.words.now a.piece.now a.horizon (length a.room.now) is.answer (refuses c.in-Err.refused.refusal)

pub returns-in-Ok : goal.returns-in-Ok
returns-in-Ok c =
    let a = c.args in
    let is = rw c.checkpoint_in-before.ensures at c.in-Ok.ensures in
    let table = table_run a.sheet.now a.words.now a.piece.now a.horizon (length a.room.now) c.resume.new.room is.answer refl is.checkpoint c.put_checkpoint.ensures is.whole in
    record {
      answer = is.answer;
      checkpoint = table.0;
      buffer = is.buffer;
      whole = table.1;
    }
