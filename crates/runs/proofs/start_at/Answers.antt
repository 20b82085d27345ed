-- `runs::start_at` meets its contract: a replay starts with node 1 of a valid sheet, and nothing has begun. Assumes nothing.
use Prim.Native.Nat.{zero-le}
use native.Mathlib.Nat.{not-suc-le-zero}
use Rattle.runs.proofs.RunSteps.{first_valid}
use Rattle.runs.proofs.start_at.Goals as goal

pub pass_silent-requires : goal.pass_silent-requires
pass_silent-requires c =
    let pre = c.requires in
    record {
      valid_node = (first_valid pre.0, pre.1, pre.2, pre.3, pre.4);
      from_bound = (zero-le, zero-le, (λ i low below. absurd (not-suc-le-zero below)), zero-le);
    }
