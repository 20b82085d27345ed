-- What "find the budgets" answers and leaves in the buffer, for every input. Rules 6.1 and 7. Assumes nothing.
use Rattle.std.specs.Prelude.{ℕ, List, length}
use Rattle.model.specs.declared.Answer.{Answer}
use Rattle.model.specs.Limits.{max_nodes}
use Rattle.model.specs.Refusal.{success, ◌or_else◌}
use Rattle.model.specs.Sheet.{sheet_refusal}
use Rattle.model.specs.Answers.{room_refusal, buffer_after}
use Rattle.rounds.specs.Rounds.{row_sum, row_cycle, stuck_refusal, last_row}

-- "the answer is the row's sum and its C. Refusals: 1 to 5, 6, then 11".
unfoldable pub find_answer : List ℕ → ℕ → Answer
find_answer s room =
    sheet_refusal s
    or_else room_refusal max_nodes room
    or_else stuck_refusal s (last_row s)
    or_else success (row_sum s (last_row s)) (row_cycle s (last_row s))

-- "The row goes to sixteen words of room, those past n as 0"; the rest stays, and a refusal changes no word.
unfoldable pub find_buffer : List ℕ → List ℕ → List ℕ
find_buffer s room = buffer_after (find_answer s (length room)) (last_row s) room
