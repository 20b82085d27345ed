-- `budgets::finish` meets its contract: the row that is found is written. Assumes nothing.
use Prim.Native.Nat.{◌≤◌}
use mathlib.Core.Path.{refl, ap₂, ◌∙◌}
use lib.ListN.{length}
use Rattle.theory.proofs.Overwriting.{put_fits}
use Rattle.model.specs.Refusal.{success}
use Rattle.model.proofs.Answers.Buffer.{buffer_written}
use Rattle.budgets.proofs.finish.Goals as goal

pub returns : goal.returns
returns c =
    let a = c.args in
    let p = c.requires in
    let room : length a.row ≤ length a.room.now = rw p.1.sixteen p.2 in record {
      answer = ap₂ success c.row_sum.ensures c.row_cycle.ensures;
      buffer = c.put.ensures ∙ put_fits a.row a.room.now room ∙ buffer_written _ a.row a.room.now refl;
    }
