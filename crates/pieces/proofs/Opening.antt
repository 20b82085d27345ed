-- What a piece is run over, written word by word: the messages that wait, as a log, and the release numbers. Assumes nothing.
use Prim.Native.Nat.{ℕ, suc, ◌+◌, ◌*◌, ◌≤◌}
use native.Mathlib.Omega.{arith}
use mathlib.Core.Path.{◌≡◌, ◌∙◌, ap, ap₂}
use mathlib.Core.List.{List, ◌++◌}
use lib.ListN.{length, take, drop}
use lib.Seq.{take_at}
use mir.Val.{Val}
use denote.Laws.{Is}
use denote.Struct.Declared.{row}
use Rattle.theory.specs.Listing.{values_from, joined_from, replaced_at}
use Rattle.theory.proofs.Listing.{values_length}
use Rattle.theory.proofs.Overwriting.{over_upto, over_part}
use Rattle.model.specs.Limits.{release_words, max_waiting}
use Rattle.model.specs.Protocol.{releases}
use Rattle.pieces.specs.declared.Checkpoint.{Checkpoint}
use Rattle.pieces.specs.Pieces.{open_log}
use Rattle.places.proofs.Writing.{pair, pairs_length}
use Rattle.pieces.specs.contracts.Checkpoint.{the_type}

-- The three tables of a record have all their places: what a function is told of a record that it is handed.
pub places : (c : Checkpoint) (vs : List Val) → Is (row the_type) c vs → (length c.numbers ≡ max_waiting) × (length c.ticks ≡ max_waiting) × (length c.streams ≡ max_waiting)
places c vs is = let tables = is.1.1.1.1.1.1 in (tables.0.1.0.1, tables.1.0.1.0.1, tables.1.1.0.1.0.1)

-- The release numbers of those that wait stand before those written after them.
pub opened_numbers : (xs : List ℕ) (at waiting before count : ℕ) {ys : List ℕ}
    → at ≡ waiting
    → waiting + count ≤ length xs
    → ys ≡ replaced_at xs at (values_from suc before count)
    → take (waiting + count) ys ≡ take waiting xs ++ values_from suc before count
opened_numbers xs at waiting before count {ys} same fits written =
    let values : List ℕ = values_from suc before count in
    let long = values_length suc before count in
    let all : waiting + count ≡ at + length values = omega arith in
    ap₂ take all written
    ∙ over_upto xs at values (omega arith)
    ∙ ap (λ k. take k xs ++ values) same

-- The log of those that wait stands before the piece that is put after it.
pub opened_log : (c : Checkpoint) (piece old log : List ℕ) (held many : ℕ)
    → held ≡ c.waiting
    → length piece ≡ release_words * releases piece
    → many ≡ length piece
    → release_words * (c.waiting + releases piece) ≤ length log
    → log ≡ joined_from (pair c.ticks c.streams) 0 held ++ drop (release_words * held) old
    → take (release_words * (c.waiting + releases piece)) (take (release_words * held) log ++ (piece ++ drop many (drop (release_words * held) log))) ≡ open_log c piece
opened_log c piece old log held many same even whole fits written =
    let at : ℕ = release_words * held in
    let all : release_words * (c.waiting + releases piece) ≡ at + length piece = omega arith in
    let front = joined_from (pair c.ticks c.streams) 0 held in
    ap₂ (λ n (m : ℕ). take n (take at log ++ (piece ++ drop m (drop at log)))) all whole
    ∙ ap (take (at + length piece)) (over_part log at piece)
    ∙ over_upto log at piece (omega arith)
    ∙ ap (λ ws. take at ws ++ piece) written
    ∙ ap (λ ws. ws ++ piece) (take_at front (drop at old) at (pairs_length c.ticks c.streams held))
    ∙ ap (λ k. joined_from (pair c.ticks c.streams) 0 k ++ piece) same
