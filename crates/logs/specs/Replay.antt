-- The refusals of the replay as one answer. Assumes nothing.
use Rattle.std.specs.Prelude.{ℕ, List}
use Rattle.model.specs.declared.Answer.{Answer}
use Rattle.model.specs.Refusal.{◌or_else◌}
use Rattle.model.specs.Sheet.{sheet_refusal}
use Rattle.model.specs.Protocol.{releases}
use Rattle.model.specs.Answers.{room_refusal, log_refusal, horizon_refusal}

-- "replay", with a buffer of so many words: its refusals, 1 to 5, 9, 10, 6.
unfoldable pub replay_refusal : List ℕ → List ℕ → ℕ → ℕ → Answer
replay_refusal s log horizon room =
    sheet_refusal s or_else log_refusal s log or_else horizon_refusal horizon or_else room_refusal (releases log) room
