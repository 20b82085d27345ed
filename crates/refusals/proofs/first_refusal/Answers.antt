-- `refusals::first_refusal` meets its contract: each check answers as the row has it, and hands on to the next where it finds nothing.
-- Assumes nothing.
use Rattle.std.proofs.Common.{arith, rules}
use Rattle.model.proofs.Sheet.Refusals.{rest_start, rest_end}
use Rattle.refusals.proofs.Chains.{rest_stops, rest_goes_on}
use Rattle.refusals.proofs.first_refusal.Goals as goal

pub loop-i-init : goal.loop-i-init
loop-i-init g c = λ f same. rest_start f _

pub returns-in_err-check : goal.returns-in_err-check
returns-in_err-check g c = λ f same.
    let stop = rest_stops f _ _ _ (omega arith) (same _ _ (omega arith) (omega arith) c.in_err-check.ensures) (c.loop-i.invariant f same) in
    grind (rules, stop)

pub loop-i-preserved : goal.loop-i-preserved
loop-i-preserved g c = λ f same. rest_goes_on f _ _ (omega arith) (same _ _ (omega arith) (omega arith) c.in_ok-check.ensures) (c.loop-i.invariant f same)

pub returns : goal.returns
returns g c = λ f same. rest_end f _ _ (omega arith) (c.loop-i.invariant f same)
