-- The theorem of the pieces: pieces none of which is refused, joined, give what the whole log's replay gives at the last horizon. Assumes
-- nothing.
use Prim.Native.Nat.{ℕ}
use native.Mathlib.Omega.{arith}
use mathlib.Core.Path.{refl, ap}
use mathlib.Core.List.{List, [], ◌∷◌, ◌++◌, append-nil, append_assoc}
use Rattle.theory.specs.Listing.{values_from, holding_below}
use Rattle.model.specs.declared.Answer.{Answer}
use Rattle.pieces.specs.declared.Checkpoint.{Checkpoint}
use Rattle.model.specs.Sheet.{Valid}
use Rattle.model.specs.Protocol.{start, run, replayed}
use Rattle.model.specs.Demand.{Accepts}
use Rattle.model.specs.Trace.{run_words}
use Rattle.pieces.specs.Pieces.{fresh_checkpoint, Piece, checkpoint_after, words_answered, NoneRefused, last_checkpoint, words_joined, log_joined, Represents, AsWhole}
use Rattle.model.proofs.Answers.NotRefused.{replay_answers}
use Rattle.model.proofs.Trace.Faultless.{fits_log}
use Rattle.model.proofs.Trace.Listed.{words_begins, once_listed}
use Rattle.pieces.proofs.Step.{piece_represents}

-- The replay takes the empty log with horizon 0.
nothing_accepted : (s : List ℕ) → Valid s → Accepts s [] 0
nothing_accepted s valid =
    ap (λ (a : Answer). a.number)
    (replay_answers (record {
      valid = valid;
      logged = fits_log s [] (record { even = refl; few = omega arith; each = λ i low. absurd (omega arith) });
      horizon_to = omega arith;
      room_for = omega arith;
    }))

-- A fresh record is what no piece makes of the empty log.
pub fresh_represents : (s : List ℕ) → Valid s → Represents s [] fresh_checkpoint []
unfolding replayed run start values_from holding_below run_words
fresh_represents s valid =
    record {
      accepted = nothing_accepted s valid;
      before = λ i low. absurd (omega arith);
      counted = refl;
      bus = refl;
      waiting = refl;
      answered = refl;
    }

-- Pieces none of which is refused make of a record of some log one of that log with all of them after it.
pub pieces_represent : (s log : List ℕ) (c : Checkpoint) (words : List ℕ) (pieces : List Piece)
    → Represents s log c words
    → NoneRefused s c pieces
    → Represents s (log ++ log_joined pieces) (last_checkpoint s c pieces) (words ++ words_joined s c pieces)
unfolding NoneRefused last_checkpoint words_joined log_joined
pieces_represent s log c words [] rep passes = rw (append-nil log, append-nil words) rep
pieces_represent s log c words (p ∷ pieces) rep passes =
    rw (append_assoc log p.log (log_joined pieces), append_assoc words (words_answered s c p) (words_joined s (checkpoint_after s c p) pieces)) at
    (pieces_represent s (log ++ p.log) (checkpoint_after s c p) (words ++ words_answered s c p) pieces
    (piece_represents s log c words p rep passes.0) passes.1)

-- The pieces joined give each release the begin that the whole log gives at the last horizon, and the same turns, and list none twice.
pub as_whole : (s : List ℕ) (pieces : List Piece)
    → Valid s
    → NoneRefused s fresh_checkpoint pieces
    → AsWhole s (log_joined pieces) (last_checkpoint s fresh_checkpoint pieces).horizon (last_checkpoint s fresh_checkpoint pieces)
    (words_joined s fresh_checkpoint pieces)
as_whole s pieces valid passes =
    let rep = pieces_represent s [] fresh_checkpoint [] pieces (fresh_represents s valid) passes in
    record {
      accepted = rep.accepted;
      turn = rw rep.bus refl;
      begins = λ i low. rw rep.answered (words_begins s (log_joined pieces) _ rep.accepted i (omega arith));
      once = λ p r. rw rep.answered (λ less inside. once_listed s (log_joined pieces) _ rep.accepted p r (omega arith) inside);
    }
