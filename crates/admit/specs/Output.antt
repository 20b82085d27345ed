-- What the admit program writes for the bytes that it read. Assumes nothing.
use Rattle.std.specs.Prelude.{ℕ, ◌*◌, List}
use Rattle.model.specs.Limits.{max_nodes, max_streams, longest_sheet}
use Rattle.model.specs.Answers.{listed_waits, admit_answer}
use Rattle.input.specs.Input.{loaded}
use Rattle.texts.specs.Text.{admit_text}

-- Words for the waits of the streams of any valid sheet.
abbrev pub most_streams : ℕ
most_streams = max_nodes * max_streams

-- The text of a sheet's answer.
unfoldable pub answer_text : List ℕ → List ℕ
answer_text s = admit_text s (listed_waits s) (admit_answer s most_streams)

-- The program's output for its input.
abbrev pub output : List ℕ → List ℕ
output bytes = answer_text (loaded longest_sheet bytes)
