-- `refusals::first_refusal` meets its contract: what is left of the row of checks equals the whole. Assumes nothing.
use Rattle.std.proofs.Common.{◌≡◌, ℕ}
use Rattle.model.specs.declared.Answer.{Answer}
use Rattle.model.specs.Refusal.{first_of}
use Rattle.model.proofs.Sheet.Refusals.{rest}
use Rattle.refusals.specs.Numbers.{AnswersAs}
use Rattle.refusals.proofs.first_refusal.Given as goal

abbrev pub invariant-loop-i : goal.invariant-loop-i
invariant-loop-i g l = (f : ℕ → Answer) → AnswersAs (goal.F-post g l.check) f l.count → rest f l.i l.count ≡ first_of f 1 l.count
