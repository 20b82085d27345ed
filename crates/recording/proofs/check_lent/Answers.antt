-- `recording::check_lent` meets its contract: the streams are counted on a sheet that the replay's refusals found valid. Assumes nothing.
use mathlib.Core.Path.{ap, sym}
use Rattle.model.specs.Sheet.{sheet_refusal}
use Rattle.model.proofs.Sheet.Refusals.{or_else_both}
use Rattle.logs.specs.Replay.{replay_refusal}
use Rattle.recording.proofs.check_lent.Goals as goal

pub count_streams-requires : goal.count_streams-requires
unfolding replay_refusal
count_streams-requires c =
    (or_else_both (sheet_refusal c.args.sheet.now) _ (sym (ap (λ a. a.number) c.in_ok-check_replay.ensures))).0
