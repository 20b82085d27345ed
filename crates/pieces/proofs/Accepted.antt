-- The log of all pieces: where the replay takes the log so far and the next piece is not refused, it takes both together. Assumes nothing.
use Prim.Native.Nat.{ℕ, zero, suc, ◌+◌, ◌≤◌, ◌<◌}
use native.Mathlib.Nat.{le_refl}
use native.Mathlib.Decide.{dec_lt}
use native.Mathlib.Omega.{arith}
use mathlib.Core.Path.{◌≡◌, refl, ap}
use mathlib.Core.List.{List, ◌++◌}
use Rattle.pieces.specs.declared.Checkpoint.{Checkpoint}
use Rattle.pieces.specs.Pieces.{resume_refusal}
use Rattle.model.specs.Protocol.{releases, release_tick, release_stream}
use Rattle.model.specs.Answers.{tick_before}
use Rattle.model.specs.Demand.{Accepts}
use Rattle.model.proofs.Answers.NotRefused.{replay_accepted, replay_answers}
use Rattle.model.proofs.Trace.Faultless.{ReleaseFits, LogFits, log_fits, fits_log, fits_rises}
use Rattle.model.proofs.Trace.JoinedLog.{joined_releases, joined_even, tick_of_log, stream_of_log, tick_of_piece, stream_of_piece, of_piece_lem}
use Rattle.pieces.proofs.Taken.{PieceFits, releases_fit_lem, piece_taken}

-- A release that comes directly after another has that one's tick before it, and the first release has 0.
not_falling_lem : (log : List ℕ) (i : ℕ)
    → ((m : ℕ) → i ≡ suc m → release_tick log m ≤ release_tick log i)
    → tick_before log (suc i) ≤ release_tick log i
unfolding tick_before
not_falling_lem log zero risen = omega arith
not_falling_lem log (suc m) risen = risen m refl

-- A release with the tick and the stream of one without a fault has none, where its tick is not below the one before it.
same_release : {s a b : List ℕ} {i k : ℕ}
    → release_tick a i ≡ release_tick b k
    → release_stream a i ≡ release_stream b k
    → ReleaseFits s b k
    → ((m : ℕ) → i ≡ suc m → release_tick a m ≤ release_tick b k)
    → ReleaseFits s a i
same_release {a = a} {i = i} tick stream fits risen =
    record {
      tick_to = rw tick fits.tick_to;
      not_falling = not_falling_lem a i (λ m e. rw tick (risen m e));
      stream_from = rw stream fits.stream_from;
      stream_to = rw stream fits.stream_to;
    }

module _ (s log : List ℕ) (c : Checkpoint) (piece : List ℕ) (horizon : ℕ)
    (fits : LogFits s log)
    (before : (i : ℕ) → i < releases log → release_tick log i < c.horizon)
    (own : PieceFits s c piece horizon)
  where
    -- The piece's first release is after all those of the log, and its others are in order.
    piece_risen : (j m : ℕ) → j < releases piece → releases log + j ≡ suc m → release_tick (log ++ piece) m ≤ release_tick piece j
    unfolding tick_before
    piece_risen zero m h e =
        let last : m < releases log = omega arith in
        omega (arith, tick_of_log log piece fits.even m last, before m last, (own.each 0 h).from)
    piece_risen (suc j) m h e =
        let same : m ≡ releases log + j = omega arith in
        let risen = (own.each (suc j) h).fits.not_falling in
        rw same (rw (tick_of_piece log piece fits.even j) risen)

    -- No release of both has a fault.
    joined_release : (i : ℕ) → i < releases (log ++ piece) → ReleaseFits s (log ++ piece) i
    joined_release i h = go (dec_lt i (releases log))
      where
        go : Dec (i < releases log) → ReleaseFits s (log ++ piece) i
        go (yes inside) =
            same_release (tick_of_log log piece fits.even i inside) (stream_of_log log piece fits.even i inside) (fits.each i inside)
            (λ m e. rw (tick_of_log log piece fits.even m (omega arith)) (rw e (fits_rises s log fits m (omega arith))))
        go (no past) =
            let w = of_piece_lem log piece fits.even i (omega arith) h in
            let j : ℕ = w.0 in
            rw w.1
            (same_release (tick_of_piece log piece fits.even j) (stream_of_piece log piece fits.even j) (own.each j w.2).fits
            (λ m e. piece_risen j m w.2 e))

    -- Both together have no fault.
    joined_fits : c.releases ≡ releases log → LogFits s (log ++ piece)
    joined_fits counted =
        let all = joined_releases log piece fits.even in
        record {
          even = joined_even log piece fits.even own.even;
          few = omega (arith, all, own.few);
          each = joined_release;
        }

-- The replay takes a log with the next piece after it, where it takes the log up to the old horizon, and the piece is not refused.
pub joined_accepted : (s log : List ℕ) (c : Checkpoint) (piece : List ℕ) (horizon room : ℕ)
    → Accepts s log c.horizon
    → ((i : ℕ) → i < releases log → release_tick log i < c.horizon)
    → c.releases ≡ releases log
    → (resume_refusal s c piece horizon room).number ≡ 0
    → Accepts s (log ++ piece) horizon
joined_accepted s log c piece horizon room accepts before counted e =
    let ok = replay_accepted accepts in
    let fits = joined_fits s log c piece horizon (log_fits s log ok.logged) before (releases_fit_lem s c piece horizon room e) counted in
    ap
    (λ a. a.number)
    (replay_answers
    (record {
      valid = ok.valid;
      logged = fits_log s (log ++ piece) fits;
      horizon_to = (piece_taken s c piece horizon room e).horizon_to;
      room_for = le_refl _;
    }))
