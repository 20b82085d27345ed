-- What the replay with stream records goes by. Assumes nothing.
use Rattle.std.specs.Prelude.{ℕ, List}
use Rattle.model.specs.declared.Answer.{Answer}
use Rattle.model.specs.Refusal.{◌or_else◌}
use Rattle.model.specs.Sheet.{total_streams}
use Rattle.model.specs.Answers.{room_refusal}
use Rattle.logs.specs.Replay.{replay_refusal}

-- The refusals of the replay with a buffer of so many words and a list of so many records: those of the replay, then 6.
unfoldable pub records_refusal : List ℕ → List ℕ → ℕ → ℕ → ℕ → Answer
records_refusal s log horizon room list = replay_refusal s log horizon room or_else room_refusal (total_streams s) list
