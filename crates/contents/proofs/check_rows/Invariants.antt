-- `contents::check_rows` meets its contract: what is left of the row of checks equals the whole, and `at` is where the next body must be.
-- Assumes nothing.
use Prim.Native.Nat.{◌≤◌, ◌*◌, ◌+◌}
use mathlib.Core.Path.{◌≡◌}
use Rattle.model.proofs.Sheet.Refusals.{rest}
use Rattle.model.specs.Limits.{header_words, row_words, stream_words, max_nodes, max_streams}
use Rattle.model.specs.Refusal.{first_of}
use Rattle.model.specs.Sheet.{streams_up_to, contents_words, row_refusal}
use Rattle.contents.proofs.check_rows.Given as goal

abbrev pub invariant-loop-i : goal.invariant-loop-i
invariant-loop-i l = (l.at ≡ contents_words l.sheet + stream_words * streams_up_to l.sheet l.i) × (l.at ≤ header_words + row_words * max_nodes + stream_words * (max_streams * l.i)) × (rest (row_refusal l.sheet) l.i l.n ≡ first_of (row_refusal l.sheet) 1 l.n)
