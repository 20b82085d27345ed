-- `parts::write_rows` meets its contract: the rows passed stand after the header, the rest is as it was, and the next body's place
-- comes after the streams passed. Assumes nothing.
use Prim.Native.Nat.{ℕ, pred, ◌≤◌, ◌*◌, ◌-◌, ◌+◌}
use mathlib.Core.Path.{◌≡◌, refl, ◌∙◌, ap}
use mathlib.Core.List.{List, [], ◌∷◌, ◌++◌}
use native.Mathlib.Omega.{arith}
use lib.ListN.{length, take, drop}
use Rattle.theory.specs.Listing.{joined_from, replaced_at, put_front}
use Rattle.theory.proofs.Overwriting.{over_next, lent_length, put_fits}
use Rattle.model.specs.Limits.{header_words, row_words}
use Rattle.model.specs.Sheet.{row_at, body_at}
use Rattle.tables.specs.Tables.{node_entry, counts_before}
use Rattle.tables.specs.Writing.{row_of}
use Rattle.tables.proofs.WrittenWords.{rows_length}
use Rattle.parts.proofs.Counting.{counts_next, joined_upto}
use Rattle.parts.proofs.write_rows.Goals as goal
use Rattle.parts.proofs.write_rows.Lts as lts
use Rattle.parts.proofs.write_rows.Tie as tie
use Rattle.parts.proofs.write_rows.Reads as reads

-- Row k's words, put into the part that is lent after those of the rows before.
next_row : (counts budgets old room part : List ℕ) (k at : ℕ) {place count budget : ℕ}
    → 1 ≤ k
    → header_words + row_words * k ≤ length old
    → length room ≡ length old
    → at ≡ row_at k
    → room ≡ replaced_at old header_words (joined_from (row_of counts budgets) 1 (pred k))
    → place ≡ body_at (length counts) (counts_before counts k)
    → count ≡ node_entry counts k
    → budget ≡ node_entry budgets k
    → part ≡ put_front (place ∷ count ∷ budget ∷ []) (take (length room - at) (drop at room))
    → take at room ++ (part ++ drop (length room - at) (drop at room)) ≡ replaced_at old header_words (joined_from (row_of counts budgets) 1 k)
unfolding row_of
next_row counts budgets old room part k at {place} {count} {budget} low fits kept here so_far placed counted allowed put =
    let words : List ℕ = row_of counts budgets k in
    let long = rows_length counts budgets (pred k) in
    let lent = take (length room - at) (drop at room) in
    let row : place ∷ count ∷ budget ∷ [] ≡ words = rw (placed, counted, allowed) refl in
    let back = put_fits words lent (omega (arith, lent_length room at)) in
    over_next old room part (joined_from (row_of counts budgets) 1 (pred k)) words header_words at (omega (arith, fits, long)) (omega (arith, here, long)) so_far ((rw row at put) ∙ back)
    ∙ ap (replaced_at old header_words) (joined_upto (row_of counts budgets) k low)

-- Row k is written: the last one too, after which the loop ends.
row_written : (c : lts.After-body_words tie.the-claims reads.Pre reads.Post goal.the-invariant-loop-k goal.the-decreases-loop-k)
    → take c.row_at-at.result c.loop-k.room ++ (c.put_row.new.part ++ drop (length c.loop-k.room - c.row_at-at.result) (drop c.row_at-at.result c.loop-k.room))
    ≡ replaced_at c.args.room.now header_words (joined_from (row_of c.args.tables.now.counts.now c.args.tables.now.budgets.now) 1 c.loop-k.k)
row_written c =
    let a = c.args in
    let l = c.loop-k in
    next_row a.tables.now.counts.now a.tables.now.budgets.now a.room.now l.room c.put_row.new.part l.k _
    l.auto.k
    (omega arith)
    l.auto.room
    c.row_at-at.ensures.0
    l.invariant.2
    l.invariant.1
    c.node_entry-count.ensures
    c.node_entry-budget.ensures
    c.put_row.ensures

pub loop-k-preserved : goal.loop-k-preserved
loop-k-preserved c =
    let l = c.loop-k in
    let passed : pred (l.k + 1) ≡ l.k = omega arith in
    (omega arith, omega (arith, counts_next c.args.tables.now.counts.now l.k l.auto.k, c.node_entry-count.ensures, c.body_words-place.ensures.0), rw passed (row_written c.before.before))

pub returns-2 : goal.returns-2
returns-2 c = let last : c.loop-k.k ≡ length c.args.tables.now.counts.now = omega arith in rw last at (row_written c.before.before)
