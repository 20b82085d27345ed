-- A log put after another: the releases of the first come first, and those of the second after them. Assumes nothing.
use Prim.Native.Nat.{ℕ, ◌+◌, ◌-◌, ◌*◌, ◌≤◌, ◌<◌}
use native.Mathlib.Nat.{div-add-mod, mod-lt}
use native.Mathlib.Omega.{arith}
use mathlib.Core.Path.{◌≡◌, ◌∙◌, ap}
use mathlib.Core.List.{List, ◌++◌}
use lib.ListN.{length, length-append, get_or-append}
use lib.Seq.{get_or-append-add}
use Rattle.model.specs.Limits.{release_words}
use Rattle.model.specs.Sheet.{word}
use Rattle.model.specs.Protocol.{releases, release_tick, release_stream}

module _ (log piece : List ℕ) (even : length log ≡ release_words * releases log) where
  -- The releases of both are those of the log and those of the piece.
  pub joined_releases : releases (log ++ piece) ≡ releases log + releases piece
  joined_releases =
      omega (
        arith,
        length-append log piece,
        div-add-mod (length (log ++ piece)) release_words,
        mod-lt (length (log ++ piece)) {m = release_words} (omega arith),
        div-add-mod (length piece) release_words,
        mod-lt (length piece) {m = release_words} (omega arith),
      )

  -- Both together have two words a release, where the piece has.
  pub joined_even : length piece ≡ release_words * releases piece → length (log ++ piece) ≡ release_words * releases (log ++ piece)
  joined_even also = omega (arith, length-append log piece, joined_releases)

  -- A release of the log keeps its tick
  pub tick_of_log : (i : ℕ) → i < releases log → release_tick (log ++ piece) i ≡ release_tick log i
  tick_of_log i h = get_or-append log piece 0 (release_words * i) (omega arith)

  -- and its stream.
  pub stream_of_log : (i : ℕ) → i < releases log → release_stream (log ++ piece) i ≡ release_stream log i
  stream_of_log i h = get_or-append log piece 0 (release_words * i + 1) (omega arith)

  -- A release of both that is none of the log is one of the piece.
  pub of_piece_lem : (i : ℕ) → releases log ≤ i → i < releases (log ++ piece) → (j : ℕ) × (i ≡ releases log + j) × (j < releases piece)
  of_piece_lem i past inside = (i - releases log, omega arith, omega (arith, joined_releases))

  past_log : (at j : ℕ) → at ≡ length log + j → word (log ++ piece) at ≡ word piece j
  past_log at j same = ap (word (log ++ piece)) same ∙ get_or-append-add log piece j 0

  -- Release j of the piece comes after all those of the log, with its tick
  pub tick_of_piece : (j : ℕ) → release_tick (log ++ piece) (releases log + j) ≡ release_tick piece j
  tick_of_piece j = past_log _ (release_words * j) (omega arith)

  -- and its stream.
  pub stream_of_piece : (j : ℕ) → release_stream (log ++ piece) (releases log + j) ≡ release_stream piece j
  stream_of_piece j = past_log _ (release_words * j + 1) (omega arith)
