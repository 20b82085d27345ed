-- Ranges: what `outside` says. Assumes nothing.
use Prim.Native.Nat.{ℕ, ◌≤◌, ◌<◌}
use mathlib.Core.Path.{◌≡◌, refl}
use mathlib.Core.Bool.{true, false}
use borrow.Author.Tests.{ltb-false, lt-ltb, le-ltb}
use lib.Dec.{ltb}
use Rattle.model.specs.Refusal.{outside}
use Rattle.theory.proofs.Tests.{or_neither, or_second}

-- A number that is not outside is in range.
pub within : (least most x : ℕ) → outside least most x ≡ false → (least ≤ x) × (x ≤ most)
unfolding outside
within least most x e =
    let both = or_neither (ltb x least) (ltb most x) e in
    (ltb-false x least both.0, ltb-false most x both.1)

-- A number that is in range is not outside.
pub inside : (least most x : ℕ) → least ≤ x → x ≤ most → outside least most x ≡ false
unfolding outside
inside least most x low high = or_second (le-ltb x least low) (le-ltb most x high)

-- A number below the least, or above the most, is outside.
pub outside_low : (least most x : ℕ) → x < least → outside least most x ≡ true
unfolding outside
outside_low least most x h = rw (lt-ltb x least h) refl
