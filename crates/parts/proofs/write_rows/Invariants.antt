-- `parts::write_rows` meets its contract: the rows passed stand after the header, the rest is as it was, and the next body's place
-- comes after the streams passed. Assumes nothing.
use Prim.Native.Nat.{ℕ, pred, ◌+◌, ◌≤◌}
use mathlib.Core.Path.{◌≡◌}
use lib.ListN.{length}
use Rattle.theory.specs.Listing.{joined_from, replaced_at}
use Rattle.model.specs.Limits.{header_words}
use Rattle.model.specs.Sheet.{body_at}
use Rattle.tables.specs.Tables.{counts_before}
use Rattle.tables.specs.Writing.{row_of}
use Rattle.parts.proofs.write_rows.Given as goal

abbrev pub invariant-loop-k : goal.invariant-loop-k
invariant-loop-k l =
    let t = l.tables in
    let n : ℕ = length t.counts.now in
    (l.k ≤ n + 1)
    × (l.place ≡ body_at n (counts_before t.counts.now l.k))
    × (l.room ≡ replaced_at l.initial.room header_words (joined_from (row_of t.counts.now t.budgets.now) 1 (pred l.k)))
