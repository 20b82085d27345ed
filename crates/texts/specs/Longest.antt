-- The longest text of each program, where every number is a 32-bit word. Assumes nothing.
use Rattle.std.specs.Prelude.{ℕ, ◌+◌, ◌*◌, length}
use Rattle.model.specs.Limits.{max_nodes, max_streams, max_releases}
use Rattle.texts.specs.Text.{ascii}

-- The digits of the largest word, 4294967295.
abbrev pub word_digits : ℕ
word_digits = 10

-- A line of the table of waits: a node and a stream of two digits each, and a wait.
abbrev pub longest_wait_line : ℕ
longest_wait_line = 2 + 1 + 2 + 1 + word_digits + 1

-- The admit program's longest text: the head, a line a stream, and the line under them.
abbrev pub longest_admit_text : ℕ
longest_admit_text =
    length (ascii "node stream wait\n") + longest_wait_line * max_streams * max_nodes + (length (ascii "admitted \n") + word_digits)

-- A line of the table of begin ticks: a release of four digits and a begin tick.
abbrev pub longest_begin_line : ℕ
longest_begin_line = 4 + 1 + word_digits + 1

-- The replay program's longest text: the head, a line a release, and the line under them.
abbrev pub longest_replay_text : ℕ
longest_replay_text =
    length (ascii "release begin\n") + longest_begin_line * max_releases + (length (ascii "turns  next \n") + word_digits + word_digits)
