-- The numbers that document 01 fixes, one name each: Rules 4.1, 4.3, 5.1, 5.3, 5.4 and 7.1. Assumes nothing.
use Rattle.std.specs.Prelude.{ℕ, ◌+◌, ◌*◌}

-- Words before the contents rows: n, TMS, TPR.
abbrev pub header_words : ℕ
header_words = 3

-- Words of one contents row: place, number of streams, budget.
abbrev pub row_words : ℕ
row_words = 3

-- Words of one stream in a body: least period, deadline, jitter.
abbrev pub stream_words : ℕ
stream_words = 3

-- Words of one release in a log: tick, running stream number.
abbrev pub release_words : ℕ
release_words = 2

-- Most nodes on a bus.
abbrev pub max_nodes : ℕ
max_nodes = 16

-- Most streams of a node.
abbrev pub max_streams : ℕ
max_streams = 16

-- Most messages of a node in one turn.
abbrev pub max_budget : ℕ
max_budget = 16

-- Longest message and longest protocol slot, in ticks.
abbrev pub max_slot_ticks : ℕ
max_slot_ticks = 10_000

-- Latest tick of a release, latest horizon, longest period, and latest tick and most turns in a bus record.
abbrev pub max_time : ℕ
max_time = 1_000_000_000

-- Most releases in a log.
abbrev pub max_releases : ℕ
max_releases = 4_096

-- "two hundred and fifty-six waiting places" in the record of a replay by pieces.
abbrev pub max_waiting : ℕ
max_waiting = 256

-- The word of a release that has not begun.
abbrev pub not_begun : ℕ
not_begun = 4_294_967_295

-- Words of the longest valid sheet: most nodes, each with most streams. "over the length of the longest valid sheet" is
-- over so many words, 3,276 bytes.
abbrev pub longest_sheet : ℕ
longest_sheet = header_words + row_words * max_nodes + stream_words * (max_nodes * max_streams)

-- Words of the replay program's longest second file, the horizon and the longest log: "over 32,772 bytes" is over so many words.
abbrev pub longest_replay_input : ℕ
longest_replay_input = 1 + release_words * max_releases
