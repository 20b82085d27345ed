-- `sheet::check_body` meets its contract: each check's answer is the row's, and there are as many as streams. Assumes nothing.
use Rattle.std.proofs.Common.{rules}
use mathlib.Core.Path.{◌∙◌, ap}
use Rattle.model.specs.Refusal.{first_of}
use Rattle.model.specs.Sheet.{stream_refusal, body_refusal}
use Rattle.sheet.proofs.check_body.Goals as goal

pub returns : goal.returns
unfolding body_refusal
returns c =
    c.first_refusal.ensures (stream_refusal c.args.sheet.now c.args.k) (λ j r low high post. search rules)
    ∙ ap (λ n. first_of (stream_refusal c.args.sheet.now c.args.k) 1 n) c.stream_count.ensures
