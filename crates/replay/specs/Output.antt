-- What the replay program writes for the bytes of its two files. Assumes nothing.
use Rattle.std.specs.Prelude.{ℕ, List, [], ◌∷◌}
use Rattle.model.specs.Limits.{max_releases, longest_sheet, longest_replay_input}
use Rattle.model.specs.Protocol.{releases, replayed}
use Rattle.model.specs.Answers.{replay_answer}
use Rattle.input.specs.Input.{loaded}
use Rattle.texts.specs.Text.{replay_text}

-- "from a second file the horizon as its first word",
abbrev pub horizon_of : List ℕ → ℕ
horizon_of [] = 0
horizon_of (horizon ∷ log) = horizon

-- "and then the log". A file with no words is taken for a log of odd length: refusal 9 at 0 0, after 1 to 5.
abbrev pub log_of : List ℕ → List ℕ
log_of [] = 0 ∷ []
log_of (horizon ∷ log) = log

-- The text of a replay's answer.
unfoldable pub replayed_text : List ℕ → List ℕ → ℕ → List ℕ
replayed_text s log horizon = replay_text (replayed s log horizon).begins (releases log) (replay_answer s log horizon max_releases)

-- The text for the words of the two files.
abbrev pub answer_text : List ℕ → List ℕ → List ℕ
answer_text s second = replayed_text s (log_of second) (horizon_of second)

-- The program's output for its two files.
abbrev pub output : List ℕ → List ℕ → List ℕ
output sheet second = answer_text (loaded longest_sheet sheet) (loaded longest_replay_input second)
