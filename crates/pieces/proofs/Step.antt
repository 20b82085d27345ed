-- One piece: where a record is what pieces make of a log, the record that a piece hands back is what they make of the log with the piece
-- after it. Assumes nothing.
use Prim.Native.Nat.{ℕ, suc, ◌+◌, ◌-◌, ◌*◌, ◌<◌}
use native.Mathlib.Decide.{dec_lt}
use native.Mathlib.Omega.{arith}
use mathlib.Core.Path.{◌≡◌, refl, sym, ◌∙◌, ap}
use mathlib.Core.List.{List, ◌++◌, map, map-map}
use lib.Dec.{eqb}
use lib.ListN.{length, take, drop, length-map}
use lib.Seq.{take_at}
use borrow.Author.Tests.{eqb-true, eq-eqb}
use Rattle.theory.specs.Listing.{values_from}
use Rattle.theory.proofs.Holding.{held, holding_mapped, map_agrees}
use Rattle.model.specs.declared.Answer.{Answer}
use Rattle.pieces.specs.declared.Checkpoint.{Checkpoint}
use Rattle.model.specs.Limits.{release_words, not_begun}
use Rattle.model.specs.Sheet.{word}
use Rattle.model.specs.Protocol.{releases, release_tick, release_stream, none_begun, replayed}
use Rattle.model.specs.Demand.{Accepts}
use Rattle.model.specs.Trace.{unbegun}
use Rattle.pieces.specs.Pieces.{open_log, open_numbers, piece_end, piece_words, in_places, holding, piece_checkpoint, resume_refusal, resume_answer, resume_checkpoint, resume_buffer, Piece, answer_to, checkpoint_after, words_answered, Represents}
use Rattle.model.proofs.Sheet.Refusals.{or_else_on, or_else_both}
use Rattle.model.proofs.Answers.Buffer.{buffer_written}
use Rattle.pieces.proofs.Taken.{PieceTaken, piece_taken}
use Rattle.model.proofs.Trace.JoinedLog.{joined_releases, tick_of_log, tick_of_piece}
use Rattle.pieces.proofs.Accepted.{joined_accepted}
use Rattle.model.proofs.Trace.Listed.{words_even}
use Rattle.model.proofs.Trace.Cut.{has_not_begun}
use Rattle.model.proofs.Trace.Embedding.{Part, Embedded}
use Rattle.pieces.proofs.PieceRun.{represented_even, place_of, piece_part, piece_end_lem, piece_numbers, piece_words_lem}

module _ (s log : List ℕ) (c : Checkpoint) (words piece : List ℕ) (horizon room : ℕ)
    (rep : Represents s log c words)
    (ok : PieceTaken s c piece horizon room)
  where
    abbrev whole : List ℕ
    whole = log ++ piece

    abbrev at : ℕ → ℕ
    at = place_of s log c piece

    -- Those left waiting by the piece, in the log that it was run over.
    abbrev left : List ℕ
    left = unbegun (piece_end s c piece horizon).begins

    -- Those not begun in the whole log.
    abbrev whole_left : List ℕ
    whole_left = unbegun (replayed s whole horizon).begins

    even : length log ≡ release_words * releases log
    even = represented_even rep

    part : Part (open_log c piece) whole at
    part = piece_part s log c words piece horizon room rep ok

    ends : Embedded (open_log c piece) whole horizon at (piece_end s c piece horizon) (replayed s whole horizon)
    ends = piece_end_lem s log c words piece horizon room rep ok

    -- All releases come before the new horizon.
    whole_before : (i : ℕ) → i < releases whole → release_tick whole i < horizon
    whole_before i inside = go (dec_lt i (releases log))
      where
        go : Dec (i < releases log) → release_tick whole i < horizon
        go (yes low) = omega (arith, tick_of_log log piece even i low, rep.before i low, ok.not_fallen)
        go (no high) =
            let j : ℕ = i - releases log in
            let same : i ≡ releases log + j = omega arith in
            omega (
              arith,
              ap (release_tick whole) same,
              tick_of_piece log piece even j,
              ok.below j (omega (arith, joined_releases log piece even)),
            )

    -- Those not begun in the whole log are the places of those left waiting.
    left_places : whole_left ≡ map at left
    left_places =
        holding_mapped (has_not_begun (piece_end s c piece horizon).begins) (has_not_begun (replayed s whole horizon).begins) at
        (length (piece_end s c piece horizon).begins) (length (replayed s whole horizon).begins)
        (λ i low. omega (arith, ends.same.short, ends.same.long, part.below i (omega (arith, ends.same.short))))
        (λ i j less low. part.rising i j less (omega (arith, ends.same.short)))
        (λ i low. ap (λ w. eqb w not_begun) (ends.same.words i (omega (arith, ends.same.short))))
        (λ n inside unbegun.
        let there : n < releases whole = omega (arith, ends.same.long) in
        let i = ends.same.covers n there (eqb-true _ not_begun unbegun) (whole_before n there) in
        (i.0, omega (arith, i.1, ends.same.short), i.2))

    -- What is read of those left waiting is read of those in the whole log.
    left_read : (f g : ℕ → ℕ) → ((i : ℕ) → i < releases (open_log c piece) → f i ≡ g (at i)) → map f left ≡ map g whole_left
    left_read f g same =
        map_agrees f (λ i. g (at i)) left
        (λ p low. same (word left p) (omega (arith, ends.same.short, (held (has_not_begun (piece_end s c piece horizon).begins) _).below p low)))
        ∙ sym (map-map g at left)
        ∙ ap (map g) (sym left_places)

    -- So the record handed back holds those that have not begun in the whole log.
    piece_waiting : piece_checkpoint s c piece horizon
        ≡ holding (piece_checkpoint s c piece horizon) whole (values_from suc 0 (releases whole)) whole_left
    unfolding piece_checkpoint
    piece_waiting =
        λ i.
        record {
          horizon = horizon;
          bus = (piece_end s c piece horizon).bus;
          releases = c.releases + releases piece;
          waiting = many i;
          numbers = in_places (numbers i);
          ticks = in_places (ticks i);
          streams = in_places (streams i);
        }
      where
        many : length left ≡ length whole_left
        many = sym (ap length left_places ∙ length-map left at)

        numbers : map (word (open_numbers c piece)) left ≡ map (word (values_from suc 0 (releases whole))) whole_left
        numbers = left_read _ _ (piece_numbers s log c words piece horizon room rep ok)

        ticks : map (release_tick (open_log c piece)) left ≡ map (release_tick whole) whole_left
        ticks = left_read (release_tick (open_log c piece)) (release_tick whole) part.ticks

        streams : map (release_stream (open_log c piece)) left ≡ map (release_stream whole) whole_left
        streams = left_read (release_stream (open_log c piece)) (release_stream whole) part.streams

    -- It is what pieces make of the log with the piece after it.
    piece_record : Accepts s whole horizon → Represents s whole (piece_checkpoint s c piece horizon) (words ++ piece_words s c piece horizon)
    unfolding piece_checkpoint
    piece_record accepts =
        record {
          accepted = accepts;
          before = whole_before;
          counted = omega (arith, rep.counted, joined_releases log piece even);
          bus = ends.bus;
          waiting = piece_waiting;
          answered = piece_words_lem s log c words piece horizon room rep ok;
        }

-- What refuses a piece.
abbrev refusal_of : List ℕ → Checkpoint → Piece → Answer
refusal_of s c p = resume_refusal s c p.log p.horizon (length p.room)

-- Where nothing does,
module _ (s : List ℕ) (c : Checkpoint) (p : Piece) (answers : (answer_to s c p).number ≡ 0) where
  abbrev written : List ℕ
  written = piece_words s c p.log p.horizon

  unrefused : (refusal_of s c p).number ≡ 0
  unfolding resume_answer
  unrefused = (or_else_both (refusal_of s c p) _ answers).0

  -- the record handed back is the piece's,
  piece_after : checkpoint_after s c p ≡ piece_checkpoint s c p.log p.horizon
  unfolding resume_checkpoint
  piece_after = rw (eq-eqb (refusal_of s c p).number 0 unrefused) refl

  many_written : (answer_to s c p).second ≡ releases written
  unfolding resume_answer
  many_written = ap (λ (a : Answer). a.second) (or_else_on (refusal_of s c p) _ unrefused)

  written_even : length written ≡ release_words * releases written
  unfolding piece_words
  written_even =
      words_even s (open_log c p.log) (open_numbers c p.log) p.horizon p.horizon (none_begun (open_log c p.log) c.bus)

  -- and so are the words.
  words_after : words_answered s c p ≡ written
  unfolding resume_buffer
  words_after =
      ap (λ n. take (release_words * n) (resume_buffer s c p.log p.horizon p.room)) many_written
      ∙ ap (take (release_words * releases written)) (sym (buffer_written (refusal_of s c p) written p.room unrefused))
      ∙ take_at written (drop (length written) p.room) (release_words * releases written) written_even

-- A piece that is not refused makes of a record of some log one of that log with the piece after it.
pub piece_represents : (s log : List ℕ) (c : Checkpoint) (words : List ℕ) (p : Piece)
    → Represents s log c words
    → (answer_to s c p).number ≡ 0
    → Represents s (log ++ p.log) (checkpoint_after s c p) (words ++ words_answered s c p)
piece_represents s log c words p rep answers =
    let passes = unrefused s c p answers in
    let ok = piece_taken s c p.log p.horizon (length p.room) passes in
    rw (piece_after s c p answers, words_after s c p answers)
    (piece_record s log c words p.log p.horizon (length p.room) rep ok
    (joined_accepted s log c p.log p.horizon (length p.room) rep.accepted rep.before rep.counted passes))
