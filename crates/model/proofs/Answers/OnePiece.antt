-- A log is one piece that starts at tick 0 and has no end: refusal 9 of both is the same. Assumes nothing.
use Prim.Native.Nat.{ℕ, pred, zero-le}
use mathlib.Core.Path.{◌≡◌, refl}
use mathlib.Core.Bool.{Bool, true, false, ◌||◌}
use mathlib.Core.List.{List}
use native.Mathlib.Nat.{zero-add}
use native.Mathlib.Omega.{arith}
use borrow.Author.Tests.{le-ltb, lt-leb, ltb-false}
use lib.Dec.{ltb, leb}
use Rattle.theory.proofs.Tests.{or_neither}
use Rattle.model.specs.Limits.{max_time, not_begun}
use Rattle.model.specs.Refusal.{refuse, refuse_if}
use Rattle.model.specs.Protocol.{releases, release_tick}
use Rattle.model.specs.Answers.{release_wrong, piece_release_wrong, release_refusal, piece_release_refusal, log_refusal, piece_refusal}

-- The two tests of a piece's bounds hold for no release that is right.
same_test : (s log : List ℕ) (i : ℕ) → piece_release_wrong s 0 not_begun log i ≡ release_wrong s log i
same_test s log i = go (release_wrong s log i) refl
  where
    tick : ℕ
    tick = release_tick log (pred i)

    go : (b : Bool) → release_wrong s log i ≡ b → (b || ltb tick 0 || leb not_begun tick) ≡ b
    go true wrong = refl
    go false right =
        let small = ltb-false max_time tick (or_neither _ _ (or_neither _ _ right).0).0 in
        rw (le-ltb tick 0 zero-le, lt-leb not_begun tick (omega arith)) refl

same_refusal : (s log : List ℕ) → piece_release_refusal s 0 not_begun log ≡ release_refusal s log
unfolding piece_release_refusal release_refusal
same_refusal s log = λ p i. refuse_if (same_test s log i p) (refuse 9 0 i)

pub one_piece : (s log : List ℕ) → piece_refusal s 0 0 not_begun log ≡ log_refusal s log
unfolding piece_refusal log_refusal
one_piece s log = rw (zero-add (releases log), same_refusal s log) refl
