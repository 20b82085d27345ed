-- `replay::put_replay` meets its contract: the buffer has room for the whole text.
-- Assumes nothing.
use native.Mathlib.Omega.{arith}
use mathlib.Core.Path.{refl, ◌∙◌}
use Rattle.refusals.proofs.Chains.{matched}
use Rattle.bus.specs.Numbers.{replayed_numbers}
use Rattle.replay.proofs.Output.{answered}
use Rattle.replay.proofs.put_replay.Goals as goal

pub returns-clause-text : goal.returns-clause-text
returns-clause-text c =
    let answer = matched replayed_numbers c.replay.result c.answer_of-answer.ensures ∙ c.replay.ensures.answer in
    c.replay_text.ensures.whole (omega arith) (omega arith)
    ∙ answered c.args.sheet.now c.args.log.now _ c.args.horizon refl answer c.replay.ensures.buffer
