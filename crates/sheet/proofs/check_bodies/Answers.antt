-- `sheet::check_bodies` meets its contract: each check's answer is the row's. Assumes nothing.
use Rattle.std.proofs.Common.{rules}
use Rattle.model.specs.Sheet.{body_refusal}
use Rattle.sheet.proofs.check_bodies.Goals as goal

pub returns : goal.returns
returns c = c.first_refusal.ensures (body_refusal c.args.sheet.now) (λ k r low high post. search rules)
