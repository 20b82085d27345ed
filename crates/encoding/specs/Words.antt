-- The record lent as a table of words: the horizon, the bus record's three words, the number of releases and the number that wait, and then
-- the release numbers, ticks and streams of all waiting places. Assumes nothing.
use Rattle.std.specs.Prelude.{ℕ, ◌+◌, cond, List, ◌∷◌, ◌++◌, eqb, take, drop}
use Rattle.model.specs.declared.Answer.{Answer}
use Rattle.model.specs.Limits.{max_waiting}
use Rattle.model.specs.Refusal.{success}
use Rattle.model.specs.Sheet.{word}
use Rattle.pieces.specs.declared.Checkpoint.{Checkpoint}
use Rattle.pieces.specs.Pieces.{piece_checkpoint, resume_refusal, Continues}
use Rattle.encoding.specs.declared.PieceRun.{PieceRun}

-- Words before the first table.
abbrev pub checkpoint_header : ℕ
checkpoint_header = 6

-- Where the ticks of those that wait start,
abbrev pub ticks_place : ℕ
ticks_place = checkpoint_header + max_waiting

-- where their streams do,
abbrev pub streams_place : ℕ
streams_place = ticks_place + max_waiting

-- and the words of the whole record.
abbrev pub checkpoint_length : ℕ
checkpoint_length = streams_place + max_waiting

-- The record that stands in a table of words.
unfoldable pub checkpoint_in : List ℕ → Checkpoint
checkpoint_in words =
    record {
      horizon = word words 0;
      bus = record { tick = word words 1; node = word words 2; turns = word words 3 };
      releases = word words 4;
      waiting = word words 5;
      numbers = take max_waiting (drop checkpoint_header words);
      ticks = take max_waiting (drop ticks_place words);
      streams = take max_waiting (drop streams_place words);
    }

-- The words of a record.
unfoldable pub checkpoint_words : Checkpoint → List ℕ
checkpoint_words c =
    c.horizon
    ∷ c.bus.tick
    ∷ c.bus.node
    ∷ c.bus.turns
    ∷ c.releases
    ∷ c.waiting
    ∷ (c.numbers ++ (c.ticks ++ c.streams))

-- The table after a piece: a refusal changes no word of it.
unfoldable pub resume_words : List ℕ → List ℕ → List ℕ → ℕ → ℕ → List ℕ
resume_words s words piece horizon room =
    cond (eqb (resume_refusal s (checkpoint_in words) piece horizon room).number 0)
    (checkpoint_words (piece_checkpoint s (checkpoint_in words) piece horizon))
    words

-- The numbers of a piece that was run: the messages begun in it, and the turns so far.
abbrev pub run_numbers : PieceRun → Answer
run_numbers run = success run.begun run.turns

-- The record in the table goes on as one by value does: it stands for the log with the piece after it.
abbrev pub ContinuesIn : List ℕ → List ℕ → List ℕ → Answer → List ℕ → List ℕ → Type 0
ContinuesIn s words piece r after room =
    Continues s (checkpoint_in words) piece (record { answer = r; checkpoint = checkpoint_in after }) room
