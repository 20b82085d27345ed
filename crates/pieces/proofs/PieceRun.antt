-- A piece that is run from a record made by pieces: its run is that of the whole log, from the old horizon on to the new. Assumes nothing.
use Prim.Native.Nat.{ℕ, suc, ◌*◌, ◌≤◌, ◌<◌}
use native.Mathlib.Omega.{arith}
use mathlib.Core.Path.{◌≡◌, sym, ◌∙◌, ap, subst}
use mathlib.Core.List.{List, ◌++◌}
use lib.ListN.{length, length-replicate, get_or-replicate}
use borrow.Author.Tests.{eqb-true, eq-eqb}
use Rattle.theory.specs.Listing.{values_from, holding_below}
use Rattle.theory.proofs.Listing.{values_at}
use Rattle.theory.proofs.Holding.{Held, held}
use Rattle.pieces.specs.declared.Checkpoint.{Checkpoint}
use Rattle.model.specs.Limits.{release_words, not_begun}
use Rattle.model.specs.Sheet.{word, slot_ticks}
use Rattle.model.specs.Protocol.{releases, State, none_begun, first_turn, start, replayed}
use Rattle.model.specs.Trace.{unbegun, replay_words}
use Rattle.pieces.specs.Pieces.{open_log, open_numbers, piece_end, piece_words, Represents}
use Rattle.model.proofs.Sheet.ValidSheet.{valid_fits}
use Rattle.model.proofs.Answers.NotRefused.{replay_accepted}
use Rattle.model.proofs.Trace.Faultless.{log_fits}
use Rattle.pieces.proofs.Taken.{PieceTaken}
use Rattle.pieces.proofs.OpenLog.{open_releases, open_ticks, open_streams, open_numbers_lem}
use Rattle.model.proofs.Trace.Embedding.{Part, Embedded, run_embedded, words_embedded}
use Rattle.model.proofs.Trace.Composed.{run_composed, words_composed}
use Rattle.model.proofs.Trace.Cut.{has_not_begun, places_in, cut_replayed, cut_words, cut_unbegun}

-- A log that pieces were a cutting of has two words a release.
pub represented_even : {s log : List ℕ} {c : Checkpoint} {words : List ℕ} → Represents s log c words → length log ≡ release_words * releases log
represented_even {s} {log} rep = (log_fits s log (replay_accepted rep.accepted).logged).even

-- Where release i of the log that a piece is run over stands in the whole log.
abbrev pub place_of : List ℕ → List ℕ → Checkpoint → List ℕ → ℕ → ℕ
place_of s log c piece = word (places_in log piece (unbegun (replayed s log c.horizon).begins))

module _ (s log : List ℕ) (c : Checkpoint) (words piece : List ℕ) (horizon room : ℕ)
    (rep : Represents s log c words)
    (ok : PieceTaken s c piece horizon room)
  where
    abbrev whole : List ℕ
    whole = log ++ piece

    -- The whole log's replay up to the old horizon.
    abbrev before : State
    before = replayed s whole c.horizon

    abbrev waiting : List ℕ
    waiting = unbegun (replayed s log c.horizon).begins

    abbrev places : List ℕ
    places = places_in log piece waiting

    abbrev at : ℕ → ℕ
    at = place_of s log c piece

    even : length log ≡ release_words * releases log
    even = represented_even rep

    slot : 1 ≤ slot_ticks s
    slot = (valid_fits s ok.valid).header.slot_from

    cut : Embedded log whole c.horizon (λ i. i) (replayed s log c.horizon) before
    cut = cut_replayed s log piece c.horizon even ok.from

    -- The releases of the whole log that have not begun there are the places of those that the piece is run over.
    unbegun_places : Held (has_not_begun before.begins) (releases whole) places
    unbegun_places =
        subst (λ (xs : List ℕ). Held (has_not_begun before.begins) (releases whole) xs)
        (ap (holding_below (has_not_begun before.begins)) (sym cut.same.long) ∙ cut_unbegun s log piece c.horizon even ok.from)
        (held (has_not_begun before.begins) (releases whole))

    waiting_below : (p : ℕ) → p < length waiting → word waiting p < releases log
    waiting_below p low = omega (arith, cut.same.short, (held (has_not_begun (replayed s log c.horizon).begins) _).below p low)

    count : releases (open_log c piece) ≡ length places
    count = open_releases log c piece waiting even rep.waiting rep.counted waiting_below

    -- So the log that the piece is run over is a part of the whole log,
    pub piece_part : Part (open_log c piece) whole at
    piece_part =
        record {
          below = λ i low. unbegun_places.below i (omega (arith, count));
          rising = λ i j less low. unbegun_places.rising i j less (omega (arith, count));
          ticks = open_ticks log c piece waiting even rep.waiting rep.counted waiting_below;
          streams = open_streams log c piece waiting even rep.waiting rep.counted waiting_below;
        }

    -- and before the piece none of it has begun, and all else has.
    at_start : Embedded (open_log c piece) whole horizon at (none_begun (open_log c piece) c.bus) before
    at_start =
        record {
          bus = rep.bus ∙ cut.bus;
          same = record {
            short = length-replicate (releases (open_log c piece)) not_begun;
            long = cut.same.long;
            words = λ i low. get_or-replicate (releases (open_log c piece)) i not_begun 0 low
                ∙ sym (eqb-true _ not_begun (unbegun_places.holds i (omega (arith, count))));
            covers = λ n inside unbegun early.
                let p = unbegun_places.place n inside (eq-eqb _ not_begun unbegun) in
                (p.0, omega (arith, p.1, count), p.2);
          };
        }

    -- The piece ends as the whole log's replay does at the new horizon,
    pub piece_end_lem : Embedded (open_log c piece) whole horizon at (piece_end s c piece horizon) (replayed s whole horizon)
    unfolding piece_end replayed start
    piece_end_lem =
        subst (λ (end : State). Embedded (open_log c piece) whole horizon at (piece_end s c piece horizon) end)
        (run_composed s whole c.horizon horizon ok.not_fallen slot c.horizon (none_begun whole first_turn))
        (run_embedded s piece_part horizon (none_begun (open_log c piece) c.bus) before at_start)

    -- The numbers of its releases are those of the whole log.
    pub piece_numbers : (i : ℕ) → i < releases (open_log c piece) → word (open_numbers c piece) i ≡ word (values_from suc 0 (releases whole)) (at i)
    piece_numbers i low =
        open_numbers_lem log c piece waiting even rep.waiting rep.counted waiting_below i low
        ∙ sym (values_at suc 0 (releases whole) (at i) (piece_part.below i low) ∙ ap suc (omega arith))

    -- Its words are those of the whole log's replay from the old horizon on.
    pub piece_words_lem : words ++ piece_words s c piece horizon ≡ replay_words s whole horizon
    unfolding piece_words replayed start
    piece_words_lem =
        ap (λ ws. ws ++ piece_words s c piece horizon) (rep.answered ∙ cut_words s log piece c.horizon even ok.from)
        ∙ ap (λ ws. replay_words s whole c.horizon ++ ws)
        (words_embedded s piece_part (open_numbers c piece) (values_from suc 0 (releases whole)) piece_numbers
        horizon (none_begun (open_log c piece) c.bus) before at_start)
        ∙ words_composed s whole c.horizon horizon ok.not_fallen slot (values_from suc 0 (releases whole)) c.horizon
        (none_begun whole first_turn)
