-- Where a piece is not refused: what was handed in. Assumes nothing.
use Prim.Native.Nat.{ℕ, suc, ◌+◌, ◌*◌, ◌≤◌, ◌<◌, ◌%◌}
use native.Mathlib.Nat.{suc-ne-zero}
use native.Mathlib.Omega.{arith}
use mathlib.Core.Path.{◌≡◌, refl}
use mathlib.Core.Bool.{◌||◌, not}
use mathlib.Core.List.{List, []}
use borrow.Author.Tests.{ltb-false, leb-false}
use lib.ListN.{length}
use lib.Dec.{ltb, leb, eqb}
use Rattle.theory.proofs.Tests.{or_neither}
use Rattle.model.specs.declared.Bus.{Bus}
use Rattle.pieces.specs.declared.Checkpoint.{Checkpoint}
use Rattle.model.specs.Limits.{release_words, max_releases, max_time, max_waiting}
use Rattle.model.specs.Refusal.{refuse, refuse_if, ◌or_else◌, first_of}
use Rattle.model.specs.Sheet.{nodes, sheet_refusal, Valid}
use Rattle.model.specs.Protocol.{releases, release_tick}
use Rattle.model.specs.Answers.{room_refusal, tick_before, release_wrong, log_refusal, record_refusal, step_refusal}
use Rattle.model.specs.Answers.{piece_release_refusal, piece_refusal}
use Rattle.pieces.specs.Pieces.{checkpoint_refusal, piece_horizon_refusal, places_refusal, resume_refusal}
use Rattle.model.proofs.Sheet.Refusals.{or_else_both, or_else_none, refuse_if_none, refuse_if_passes, first_none}
use Rattle.model.proofs.Answers.NotRefused.{room_enough, StepAccepted, step_accepted}
use Rattle.model.proofs.Trace.Faultless.{ReleaseFits, release_fits, not_odd}

-- An empty log is not refused.
nothing_logged : (s : List ℕ) → (log_refusal s []).number ≡ 0
unfolding log_refusal ◌or_else◌ refuse_if first_of
nothing_logged s = refl

-- A record of the bus that is not refused is one that a step takes, with an empty log.
record_taken : (s : List ℕ) (bus : Bus) → Valid s → (record_refusal s bus).number ≡ 0 → StepAccepted s [] bus 0
unfolding step_refusal room_refusal
record_taken s bus valid e =
    step_accepted
    (or_else_none (sheet_refusal s) _ valid
    (or_else_none (log_refusal s []) _ (nothing_logged s)
    (or_else_none (record_refusal s bus) _ e (refuse_if_passes _ refl))))

-- The counts of a record that is not refused are in range.
pub counts_taken : (s : List ℕ) (c : Checkpoint)
    → (checkpoint_refusal s c).number ≡ 0
    → ((record_refusal s c.bus).number ≡ 0) × (c.waiting ≤ max_waiting) × (c.releases ≤ max_releases)
unfolding checkpoint_refusal
counts_taken s c e =
    let waits = ltb max_waiting c.waiting in
    let many = ltb max_releases c.releases in
    let bus = or_else_both (record_refusal s c.bus) _ e in
    let counts = or_else_both (refuse_if (waits || many) (refuse 16 0 0)) _ bus.1 in
    let both = or_neither waits many (refuse_if_none (waits || many) (refuse 16 0 0) (suc-ne-zero 15) counts.0) in
    (bus.0, ltb-false max_waiting c.waiting both.0, ltb-false max_releases c.releases both.1)

-- Release i of a piece has no fault, and its tick is from the old horizon up to below the new.
pub record PieceReleaseFits (s : List ℕ) (old new : ℕ) (piece : List ℕ) (i : ℕ) : Type 0 where
  pub fits : ReleaseFits s piece i
  pub from : old ≤ release_tick piece i
  pub below : release_tick piece i < new

piece_release_fits : (s : List ℕ) (old new : ℕ) (piece : List ℕ) (i : ℕ)
    → (piece_release_refusal s old new piece (suc i)).number ≡ 0
    → PieceReleaseFits s old new piece i
unfolding piece_release_refusal
piece_release_fits s old new piece i e =
    let wrong = release_wrong s piece (suc i) in
    let early = ltb (release_tick piece i) old in
    let late = leb new (release_tick piece i) in
    let all = or_neither (wrong || early) late (refuse_if_none (wrong || early || late) (refuse 9 0 (suc i)) (suc-ne-zero 8) e) in
    let two = or_neither wrong early all.0 in
    record {
      fits = release_fits s piece i two.0;
      from = ltb-false (release_tick piece i) old two.1;
      below = leb-false new (release_tick piece i) all.1;
    }

-- A piece has two words a release, not too many with those before it, and each fits.
pub record PieceFits (s : List ℕ) (c : Checkpoint) (piece : List ℕ) (horizon : ℕ) : Type 0 where
  pub even : length piece ≡ release_words * releases piece
  pub few : c.releases + releases piece ≤ max_releases
  pub each : (i : ℕ) → i < releases piece → PieceReleaseFits s c.horizon horizon piece i

pub piece_fits : (s : List ℕ) (c : Checkpoint) (piece : List ℕ) (horizon : ℕ)
    → (piece_refusal s c.releases c.horizon horizon piece).number ≡ 0
    → PieceFits s c piece horizon
unfolding piece_refusal
piece_fits s c piece horizon e =
    let odd = not (eqb (length piece % release_words) 0) in
    let many = ltb max_releases (c.releases + releases piece) in
    let one = or_else_both (refuse_if odd (refuse 9 0 0)) _ e in
    let two = or_else_both (refuse_if many (refuse 9 0 0)) _ one.1 in
    record {
      even = not_odd piece (refuse_if_none odd (refuse 9 0 0) (suc-ne-zero 8) one.0);
      few = ltb-false max_releases (c.releases + releases piece) (refuse_if_none many (refuse 9 0 0) (suc-ne-zero 8) two.0);
      each =
          λ i h.
          piece_release_fits s c.horizon horizon piece i
          (first_none (piece_release_refusal s c.horizon horizon piece) 1 (releases piece) two.1 (suc i) (omega arith) (omega arith));
    }

-- What a piece that is not refused was handed: a valid sheet, a record in range, releases in order from the old horizon up to below the new,
-- a horizon that has not fallen, and places and buffer enough.
pub record PieceTaken (s : List ℕ) (c : Checkpoint) (piece : List ℕ) (horizon room : ℕ) : Type 0 where
  pub valid : Valid s
  pub tick_to : c.bus.tick ≤ max_time
  pub turns_to : c.bus.turns ≤ max_time
  pub node_from : 1 ≤ c.bus.node
  pub node_to : c.bus.node ≤ nodes s
  pub waiting_to : c.waiting ≤ max_waiting
  pub releases_to : c.releases ≤ max_releases
  pub even : length piece ≡ release_words * releases piece
  pub few : c.releases + releases piece ≤ max_releases
  pub from : (i : ℕ) → i < releases piece → c.horizon ≤ release_tick piece i
  pub below : (i : ℕ) → i < releases piece → release_tick piece i < horizon
  pub rising : (i : ℕ) → suc i < releases piece → release_tick piece i ≤ release_tick piece (suc i)
  pub not_fallen : c.horizon ≤ horizon
  pub horizon_to : horizon ≤ max_time
  pub fits : c.waiting + releases piece ≤ max_waiting
  pub room_fits : release_words * (c.waiting + releases piece) ≤ room

-- What a piece that is not refused has passed.
record Passed (s : List ℕ) (c : Checkpoint) (piece : List ℕ) (horizon room : ℕ) : Type 0 where
  valid : Valid s
  checkpoint : (checkpoint_refusal s c).number ≡ 0
  releases_fit : PieceFits s c piece horizon
  in_time : (piece_horizon_refusal c horizon).number ≡ 0
  placed : (places_refusal c piece).number ≡ 0
  roomy : (room_refusal (release_words * (c.waiting + releases piece)) room).number ≡ 0

module _ (s : List ℕ) (c : Checkpoint) (piece : List ℕ) (horizon room : ℕ) (e : (resume_refusal s c piece horizon room).number ≡ 0) where
  passed : Passed s c piece horizon room
  unfolding resume_refusal
  passed =
      let sheet = or_else_both (sheet_refusal s) _ e in
      let held = or_else_both (checkpoint_refusal s c) _ sheet.1 in
      let own = or_else_both (piece_refusal s c.releases c.horizon horizon piece) _ held.1 in
      let late = or_else_both (piece_horizon_refusal c horizon) _ own.1 in
      let places = or_else_both (places_refusal c piece) _ late.1 in
      record {
        valid = sheet.0;
        checkpoint = held.0;
        releases_fit = piece_fits s c piece horizon own.0;
        in_time = late.0;
        placed = places.0;
        roomy = places.1;
      }

  -- The releases of a piece that is not refused fit.
  pub releases_fit_lem : PieceFits s c piece horizon
  releases_fit_lem = passed.releases_fit

  -- A piece that is not refused was handed that.
  pub piece_taken : PieceTaken s c piece horizon room
  unfolding piece_horizon_refusal places_refusal tick_before
  piece_taken =
      let own = releases_fit_lem in
      let counts = counts_taken s c passed.checkpoint in
      let bus = record_taken s c.bus passed.valid counts.0 in
      let fallen = ltb horizon c.horizon in
      let large = ltb max_time horizon in
      let full = ltb max_waiting (c.waiting + releases piece) in
      let time = or_neither fallen large (refuse_if_none (fallen || large) (refuse 10 0 0) (suc-ne-zero 9) passed.in_time) in
      record {
        valid = passed.valid;
        tick_to = bus.tick_to;
        turns_to = bus.turns_to;
        node_from = bus.node_from;
        node_to = bus.node_to;
        waiting_to = counts.1;
        releases_to = counts.2;
        even = own.even;
        few = own.few;
        from = λ i h. (own.each i h).from;
        below = λ i h. (own.each i h).below;
        rising = λ i h. (own.each (suc i) h).fits.not_falling;
        not_fallen = ltb-false horizon c.horizon time.0;
        horizon_to = ltb-false max_time horizon time.1;
        fits = ltb-false max_waiting (c.waiting + releases piece) (refuse_if_none full (refuse 12 0 0) (suc-ne-zero 11) passed.placed);
        room_fits = room_enough (release_words * (c.waiting + releases piece)) room passed.roomy;
      }
