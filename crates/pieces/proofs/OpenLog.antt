-- The log that a piece is run over: the messages that wait, as a log, and then the piece. Where those that wait are releases of a log, each of
-- its releases is one of that log with the piece after it. Assumes nothing.
use Prim.Native.Nat.{ℕ, suc, ◌+◌, ◌-◌, ◌*◌, ◌≤◌, ◌<◌}
use native.Mathlib.Nat.{div-add-mod, mod-lt}
use native.Mathlib.Decide.{dec_lt}
use native.Mathlib.Omega.{arith}
use mathlib.Core.Path.{◌≡◌, sym, ◌∙◌, ap}
use mathlib.Core.List.{List, ◌++◌, map}
use lib.ListN.{length, take, replicate, length-append, length-map, get_or-append}
use lib.Seq.{get_or-append-add, get_or-take, length-take-le}
use Rattle.theory.specs.Listing.{values_from}
use Rattle.theory.proofs.Listing.{values_length, values_at, joined_at}
use Rattle.theory.proofs.Holding.{map_at}
use Rattle.pieces.specs.declared.Checkpoint.{Checkpoint}
use Rattle.model.specs.Limits.{release_words, max_waiting}
use Rattle.model.specs.Sheet.{word}
use Rattle.model.specs.Protocol.{releases, release_tick, release_stream}
use Rattle.pieces.specs.Pieces.{waiting_log, open_log, open_numbers, in_places, holding}
use Rattle.model.proofs.Trace.Cut.{places_in}
use Rattle.model.proofs.Trace.JoinedLog.{joined_releases, tick_of_log, stream_of_log, tick_of_piece, stream_of_piece}
use Rattle.places.proofs.Writing.{pair, pairs_length}

module _ (c : Checkpoint) where
  -- The messages that wait are a log of two words each,
  pub waiting-length : length (waiting_log c) ≡ release_words * c.waiting
  waiting-length = pairs_length c.ticks c.streams c.waiting

  -- which has so many releases,
  pub waiting-releases : releases (waiting_log c) ≡ c.waiting
  waiting-releases =
      omega (
        arith,
        waiting-length,
        div-add-mod (length (waiting_log c)) release_words,
        mod-lt (length (waiting_log c)) {m = release_words} (omega arith),
      )

  -- each with its tick
  waiting_tick : (i : ℕ) → i < c.waiting → release_tick (waiting_log c) i ≡ word c.ticks i
  waiting_tick i low =
      joined_at (pair c.ticks c.streams) (λ k. release_words * k) 0 c.waiting i 0 (release_words * i) (λ k from. omega arith) (omega arith) (omega arith) (omega arith)
      (omega arith)

  -- and its stream.
  waiting_stream : (i : ℕ) → i < c.waiting → release_stream (waiting_log c) i ≡ word c.streams i
  waiting_stream i low =
      joined_at (pair c.ticks c.streams) (λ k. release_words * k) 0 c.waiting i 1 (release_words * i + 1) (λ k from. omega arith) (omega arith) (omega arith)
      (omega arith) (omega arith)

-- The word at a place of those that wait.
placed_word : (f : ℕ → ℕ) (xs : List ℕ) (i : ℕ) → i < length xs → word (in_places (map f xs)) i ≡ f (word xs i)
placed_word f xs i low =
    get_or-append (map f xs) _ 0 i (omega (arith, length-map xs f)) ∙ map_at f xs i low

-- Release i of those is one that waits, or one of the piece.
data Place (log piece xs : List ℕ) (i : ℕ) : Type 0 where
  waits : i < length xs → word (places_in log piece xs) i ≡ word xs i → Place log piece xs i
  comes : (j : ℕ) → j < releases piece → i ≡ length xs + j → word (places_in log piece xs) i ≡ releases log + j → Place log piece xs i

module _ (log : List ℕ) (c : Checkpoint) (piece xs : List ℕ)
    (even : length log ≡ release_words * releases log)
    (waiting : c ≡ holding c log (values_from suc 0 (releases log)) xs)
    (counted : c.releases ≡ releases log)
    (below : (p : ℕ) → p < length xs → word xs p < releases log)
  where
    abbrev places : List ℕ
    places = places_in log piece xs

    many : c.waiting ≡ length xs
    many = ap (λ (k : Checkpoint). k.waiting) waiting

    two : length (waiting_log c) ≡ release_words * releases (waiting_log c)
    two = omega (arith, waiting-length c, waiting-releases c)

    -- There is a release for each that waits and each of the piece.
    pub open_releases : releases (open_log c piece) ≡ length places
    open_releases =
        omega (
          arith,
          joined_releases (waiting_log c) piece two,
          waiting-releases c,
          many,
          length-append xs (values_from (λ i. i) (releases log) (releases piece)),
          values_length (λ i. i) (releases log) (releases piece),
        )

    -- Each is one of those that wait, or one of the piece.
    placed : (i : ℕ) → i < releases (open_log c piece) → Place log piece xs i
    placed i inside = go (dec_lt i (length xs))
      where
        go : Dec (i < length xs) → Place log piece xs i
        go (yes low) = waits low (get_or-append xs _ 0 i low)
        go (no high) =
            let j : ℕ = i - length xs in
            let same : i ≡ length xs + j = omega arith in
            let there : j < releases piece = omega (arith, joined_releases (waiting_log c) piece two, waiting-releases c, many) in
            comes j there same
            (ap (word places) same
            ∙ get_or-append-add xs (values_from (λ n. n) (releases log) (releases piece)) j 0
            ∙ values_at (λ n. n) (releases log) (releases piece) j there)

    -- What is read of a release that waits, and of one of the piece, is read of the release at its place.
    open_read : (read : List ℕ → ℕ → ℕ)
        → ((a : List ℕ) → length a ≡ release_words * releases a → (i : ℕ) → i < releases a → read (a ++ piece) i ≡ read a i)
        → ((a : List ℕ) → length a ≡ release_words * releases a → (j : ℕ) → read (a ++ piece) (releases a + j) ≡ read piece j)
        → ((i : ℕ) → i < length xs → read (waiting_log c) i ≡ read log (word xs i))
        → (i : ℕ)
        → i < releases (open_log c piece)
        → read (open_log c piece) i ≡ read (log ++ piece) (word places i)
    open_read read of_log of_piece of_waiting i inside = go (placed i inside)
      where
        go : Place log piece xs i → read (open_log c piece) i ≡ read (log ++ piece) (word places i)
        go (waits low at) =
            of_log (waiting_log c) two i (omega (arith, waiting-releases c, many))
            ∙ of_waiting i low
            ∙ sym (of_log log even (word xs i) (below i low))
            ∙ ap (read (log ++ piece)) (sym at)
        go (comes j there same at) =
            ap (read (open_log c piece)) (omega (arith, waiting-releases c, many))
            ∙ of_piece (waiting_log c) two j
            ∙ sym (of_piece log even j)
            ∙ ap (read (log ++ piece)) (sym at)

    -- So the ticks are those of the releases at their places,
    pub open_ticks : (i : ℕ) → i < releases (open_log c piece) → release_tick (open_log c piece) i ≡ release_tick (log ++ piece) (word places i)
    open_ticks =
        open_read release_tick (λ a. tick_of_log a piece) (λ a. tick_of_piece a piece)
        (λ i low. waiting_tick c i (omega (arith, many)) ∙ ap (λ (k : Checkpoint). word k.ticks i) waiting
        ∙ placed_word (release_tick log) xs i low)

    -- the streams too,
    pub open_streams : (i : ℕ)
        → i < releases (open_log c piece)
        → release_stream (open_log c piece) i ≡ release_stream (log ++ piece) (word places i)
    open_streams =
        open_read release_stream (λ a. stream_of_log a piece) (λ a. stream_of_piece a piece)
        (λ i low. waiting_stream c i (omega (arith, many)) ∙ ap (λ (k : Checkpoint). word k.streams i) waiting
        ∙ placed_word (release_stream log) xs i low)

    -- and the release numbers say the places, from 1.
    pub open_numbers_lem : (i : ℕ) → i < releases (open_log c piece) → word (open_numbers c piece) i ≡ suc (word places i)
    open_numbers_lem i inside = go (placed i inside)
      where
        room : c.waiting ≤ length c.numbers
        room =
            let numbers = map (word (values_from suc 0 (releases log))) xs in
            omega (
              arith,
              many,
              ap (λ (k : Checkpoint). length k.numbers) waiting,
              length-append numbers (replicate (max_waiting - length numbers) 0),
              length-map xs (word (values_from suc 0 (releases log))),
            )

        front : length (take c.waiting c.numbers) ≡ length xs
        front = length-take-le c.waiting c.numbers room ∙ many

        go : Place log piece xs i → word (open_numbers c piece) i ≡ suc (word places i)
        go (waits low at) =
            get_or-append (take c.waiting c.numbers) _ 0 i (omega (arith, front))
            ∙ get_or-take c.waiting c.numbers i 0 (omega (arith, many))
            ∙ ap (λ (k : Checkpoint). word k.numbers i) waiting
            ∙ placed_word (word (values_from suc 0 (releases log))) xs i low
            ∙ values_at suc 0 (releases log) (word xs i) (below i low)
            ∙ ap suc (omega (arith, at))
        go (comes j there same at) =
            ap (word (open_numbers c piece)) (omega (arith, front))
            ∙ get_or-append-add (take c.waiting c.numbers) (values_from suc c.releases (releases piece)) j 0
            ∙ values_at suc c.releases (releases piece) j there
            ∙ ap suc (omega (arith, at, counted))
