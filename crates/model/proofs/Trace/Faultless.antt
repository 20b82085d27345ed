-- Logs without faults: what a log that is not refused has, and that a log with this is not refused. Assumes nothing.
use Prim.Native.Nat.{ℕ, zero, suc, ◌+◌, ◌*◌, ◌≤◌, ◌<◌, ◌%◌}
use native.Mathlib.Nat.{suc-ne-zero, div-add-mod, mul-mod_right}
use native.Mathlib.Omega.{arith}
use mathlib.Core.Path.{◌≡◌, ap, ◌∙◌}
use mathlib.Core.Bool.{false, ◌||◌, not}
use mathlib.Core.List.{List}
use borrow.Author.Tests.{ltb-false, le-ltb, eqb-true, eq-eqb, not-false}
use lib.ListN.{length}
use lib.Dec.{ltb, eqb}
use Rattle.theory.proofs.Tests.{or_neither, or_second}
use Rattle.model.specs.Limits.{release_words, max_releases, max_time}
use Rattle.model.specs.Refusal.{refuse, refuse_if, outside}
use Rattle.model.specs.Sheet.{total_streams}
use Rattle.model.specs.Protocol.{releases, release_tick, release_stream}
use Rattle.model.specs.Answers.{tick_before, release_wrong, release_refusal, log_refusal}
use Rattle.model.proofs.Sheet.Refusals.{or_else_both, or_else_none, refuse_if_none, refuse_if_passes, first_none, first_all}
use Rattle.model.proofs.Sheet.Range.{within, inside}

-- Release i, counted from 0, has no fault: its tick and its stream are in range, and its tick is not below the one before it.
pub record ReleaseFits (s log : List ℕ) (i : ℕ) : Type 0 where
  pub tick_to : release_tick log i ≤ max_time
  pub not_falling : tick_before log (suc i) ≤ release_tick log i
  pub stream_from : 1 ≤ release_stream log i
  pub stream_to : release_stream log i ≤ total_streams s

-- A release that is not wrong has no fault,
pub release_fits : (s log : List ℕ) (i : ℕ) → release_wrong s log (suc i) ≡ false → ReleaseFits s log i
release_fits s log i e =
    let late = ltb max_time (release_tick log i) in
    let falls = ltb (release_tick log i) (tick_before log (suc i)) in
    let unknown = outside 1 (total_streams s) (release_stream log i) in
    let all = or_neither (late || falls) unknown e in
    let two = or_neither late falls all.0 in
    let range = within 1 (total_streams s) (release_stream log i) all.1 in
    record {
      tick_to = ltb-false max_time (release_tick log i) two.0;
      not_falling = ltb-false (release_tick log i) (tick_before log (suc i)) two.1;
      stream_from = range.0;
      stream_to = range.1;
    }

-- and one with no fault is not wrong.
pub fits_release : (s log : List ℕ) (i : ℕ) → ReleaseFits s log i → release_wrong s log (suc i) ≡ false
fits_release s log i fits =
    or_second (or_second (le-ltb _ _ fits.tick_to) (le-ltb _ _ fits.not_falling))
    (inside 1 (total_streams s) (release_stream log i) fits.stream_from fits.stream_to)

-- A log whose length is not odd has two words a release.
pub not_odd : (log : List ℕ) → not (eqb (length log % release_words) 0) ≡ false → length log ≡ release_words * releases log
not_odd log e =
    let none = eqb-true (length log % release_words) 0 (not-false (eqb (length log % release_words) 0) e) in
    omega (arith, div-add-mod (length log) release_words)

-- The whole log: two words a release, not too many, and none with a fault.
pub record LogFits (s log : List ℕ) : Type 0 where
  pub even : length log ≡ release_words * releases log
  pub few : releases log ≤ max_releases
  pub each : (i : ℕ) → i < releases log → ReleaseFits s log i

-- A log that is not refused has that,
pub log_fits : (s log : List ℕ) → (log_refusal s log).number ≡ 0 → LogFits s log
unfolding log_refusal release_refusal
log_fits s log e =
    let odd = not (eqb (length log % release_words) 0) in
    let one = or_else_both (refuse_if odd (refuse 9 0 0)) _ e in
    let many = ltb max_releases (releases log) in
    let two = or_else_both (refuse_if many (refuse 9 0 0)) _ one.1 in
    record {
      even = not_odd log (refuse_if_none odd (refuse 9 0 0) (suc-ne-zero 8) one.0);
      few = ltb-false max_releases (releases log) (refuse_if_none many (refuse 9 0 0) (suc-ne-zero 8) two.0);
      each =
          λ i h.
          release_fits s log i
          (refuse_if_none (release_wrong s log (suc i)) (refuse 9 0 (suc i)) (suc-ne-zero 8)
          (first_none (release_refusal s log) 1 (releases log) two.1 (suc i) (omega arith) (omega arith)));
    }

-- and a log that has it is not refused.
pub fits_log : (s log : List ℕ) → LogFits s log → (log_refusal s log).number ≡ 0
unfolding log_refusal release_refusal
fits_log s log fits =
    or_else_none _ _ (refuse_if_passes _ (ap not (eq-eqb _ _ (ap (λ n. n % release_words) fits.even ∙ mul-mod_right release_words (releases log))))) (
    or_else_none _ _ (refuse_if_passes _ (le-ltb _ _ fits.few))
    (first_all (release_refusal s log) 1 (releases log) each))
  where
    each : (i : ℕ) → 1 ≤ i → i < 1 + releases log → (release_refusal s log i).number ≡ 0
    each zero low high = absurd (omega arith)
    each (suc i) low high = refuse_if_passes _ (fits_release s log i (fits.each i (omega arith)))

-- The ticks of a log without faults never fall.
pub fits_rises : (s log : List ℕ) → LogFits s log → (i : ℕ) → suc i < releases log → release_tick log i ≤ release_tick log (suc i)
unfolding tick_before
fits_rises s log fits i h = (fits.each (suc i) h).not_falling
