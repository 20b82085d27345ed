-- What a run over the open releases starts from and leaves: the releases that wait come first, in any order of their ticks, and those of the
-- piece after them rise. Assumes nothing.
use Prim.Native.Nat.{ℕ, zero, suc, ◌+◌, ◌-◌, ◌*◌, ◌≤◌, ◌<◌}
use native.Mathlib.Nat.{div-add-mod, mod-lt}
use native.Mathlib.Omega.{arith}
use mathlib.Core.Path.{◌≡◌, refl, ap, ◌∙◌}
use mathlib.Core.List.{List, ◌∷◌, ◌++◌}
use lib.ListN.{length, take, drop, replicate, length-append, length-drop}
use lib.Seq.{take_at, length-take-le}
use Rattle.theory.specs.Listing.{values_from}
use Rattle.theory.proofs.Listing.{values_length}
use Rattle.model.specs.Limits.{release_words}
use Rattle.model.specs.Protocol.{releases, release_tick}
use Rattle.model.proofs.Trace.JoinedLog.{joined_releases, tick_of_piece}
use Rattle.queue.specs.Queue.{RisingFrom}
use Rattle.pieces.specs.declared.Checkpoint.{Checkpoint}
use Rattle.pieces.specs.Pieces.{waiting_log, open_log, open_numbers}
use Rattle.pieces.proofs.OpenLog.{waiting-length, waiting-releases}

-- The first n of more of one word.
pub take_same : (n all v : ℕ) → n ≤ all → take n (replicate all v) ≡ replicate n v
take_same zero all v fits = refl
take_same (suc n) zero v fits = absurd (omega arith)
take_same (suc n) (suc all) v fits = ap (λ xs. v ∷ xs) (take_same n all v (omega arith))

-- Words that a run leaves in the front of a buffer are its front.
pub front_begins : (front old begins : List ℕ) (n : ℕ)
    → n ≤ length old
    → length begins ≡ length old
    → begins ≡ front ++ drop n old
    → take n begins ≡ front
front_begins front old begins n fits same is =
    let many : length front ≡ n = omega (arith, ap length is, length-append front (drop n old), length-drop n old) in
    ap (take n) is ∙ take_at front (drop n old) n many

-- Two words a message: as many messages as the words make releases.
pub half : (words : List ℕ) (n : ℕ) → release_words * n ≡ length words → n ≡ releases words
half words n two = omega (arith, two, div-add-mod (length words) release_words, mod-lt (length words) {m = release_words} (omega arith))

-- The open releases are those that wait and those of the piece.
pub open_count : (c : Checkpoint) (piece : List ℕ) → releases (open_log c piece) ≡ c.waiting + releases piece
open_count c piece =
    let two : length (waiting_log c) ≡ release_words * releases (waiting_log c) = omega (arith, waiting-length c, waiting-releases c) in
    omega (arith, joined_releases (waiting_log c) piece two, waiting-releases c)

-- Their ticks never fall after those that wait, where the piece's do not.
pub open_rising : (c : Checkpoint) (piece : List ℕ)
    → ((j : ℕ) → suc j < releases piece → release_tick piece j ≤ release_tick piece (suc j))
    → RisingFrom (open_log c piece) c.waiting
open_rising c piece rising i low inside =
    let two : length (waiting_log c) ≡ release_words * releases (waiting_log c) = omega (arith, waiting-length c, waiting-releases c) in
    let j : ℕ = i - c.waiting in
    let here : i ≡ releases (waiting_log c) + j = omega (arith, waiting-releases c) in
    let there : suc i ≡ releases (waiting_log c) + suc j = omega (arith, waiting-releases c) in
    let first = ap (release_tick (open_log c piece)) here ∙ tick_of_piece (waiting_log c) piece two j in
    let second = ap (release_tick (open_log c piece)) there ∙ tick_of_piece (waiting_log c) piece two (suc j) in
    omega (arith, first, second, rising j (omega (arith, open_count c piece)))

-- They have two words each,
pub open_length : (c : Checkpoint) (piece : List ℕ) → length piece ≡ release_words * releases piece → length (open_log c piece) ≡ release_words * (c.waiting + releases piece)
open_length c piece two = omega (arith, length-append (waiting_log c) piece, waiting-length c, two)

-- and a release number each.
pub numbers_length : (c : Checkpoint) (piece : List ℕ) → c.waiting ≤ length c.numbers → length (open_numbers c piece) ≡ c.waiting + releases piece
numbers_length c piece fits =
    length-append (take c.waiting c.numbers) (values_from suc c.releases (releases piece))
    ∙ omega (arith, length-take-le c.waiting c.numbers fits, values_length suc c.releases (releases piece))
