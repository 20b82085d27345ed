-- `writer::write_words` meets its contract: each part stands after the one before it, and together they are the sheet. Assumes nothing.
use Prim.Native.Nat.{ℕ, ◌+◌, ◌≤◌}
use mathlib.Core.Path.{◌≡◌, sym, ◌∙◌, ap}
use mathlib.Core.List.{List, ◌++◌}
use native.Mathlib.Omega.{arith}
use lib.ListN.{length, drop, length-append}
use Rattle.theory.specs.Listing.{replaced_at, put_front}
use Rattle.theory.proofs.Overwriting.{put_fits, over_front, over_more}
use Rattle.model.specs.Limits.{header_words}
use Rattle.model.specs.Sheet.{first_body_at, body_at}
use Rattle.tables.specs.Tables.{Tables, sum_of}
use Rattle.tables.specs.Lent.{tables_as}
use Rattle.tables.specs.Writing.{header_of, rows_of, bodies_of, written}
use Rattle.tables.proofs.WrittenWords.{rows_length}
use Rattle.writer.proofs.write_words.Goals as goal

-- The three parts, one after the other.
parts-written : (t : Tables) (room one two three : List ℕ)
    → body_at (length t.counts) (sum_of t.counts) ≤ length room
    → one ≡ put_front (header_of t) room
    → two ≡ replaced_at one header_words (rows_of t)
    → three ≡ replaced_at two (first_body_at (length t.counts)) (bodies_of t)
    → three ≡ written t ++ drop (length (written t)) room
unfolding written
parts-written t room one two three fits header rows bodies =
    let long = rows_length t.counts t.budgets (length t.counts) in
    let both = length-append (header_of t) (rows_of t) in
    let first : one ≡ replaced_at room 0 (header_of t) =
    header ∙ put_fits (header_of t) room (omega (arith, fits)) ∙ sym (over_front room (header_of t)) in
    let second : two ≡ replaced_at room 0 (header_of t ++ rows_of t) =
    rows ∙ ap (λ xs. replaced_at xs header_words (rows_of t)) first ∙ over_more room 0 (header_of t) (omega (arith, fits)) (rows_of t) in
    let after : first_body_at (length t.counts) ≡ 0 + length (header_of t ++ rows_of t) = omega (arith, long, both) in
    bodies
    ∙ ap (λ xs. replaced_at xs (first_body_at (length t.counts)) (bodies_of t)) second
    ∙ ap (λ at. replaced_at (replaced_at room 0 (header_of t ++ rows_of t)) at (bodies_of t)) after
    ∙ over_more room 0 (header_of t ++ rows_of t) (omega (arith, fits, long, both)) (bodies_of t)
    ∙ over_front room (header_of t ++ rows_of t ++ bodies_of t)

pub returns : goal.returns
returns c =
    parts-written (tables_as c.args.tables.now) c.args.room.now _ _ _ c.requires.2 c.put_header.ensures c.write_rows.ensures c.write_bodies.ensures
