-- Filling a buffer from its front: the words that are filled in, and the values that are left, are the whole. Each law says what one
-- store does to that. Assumes nothing.
use Prim.Native.Nat.{ℕ, ◌+◌, ◌≤◌, ◌<◌}
use native.Mathlib.Nat.{le_refl}
use native.Mathlib.Numerals.{add-one}
use mathlib.Core.Path.{◌≡◌, sym, ◌∙◌}
use mathlib.Core.List.{List, [], ◌∷◌, ◌++◌, append-nil, append_assoc}
use lib.ListN.{length, take, set}
use lib.Seq.{length-take-le, take-suc-set, take-set-le, take-append-le, take-append-add, append_snoc}

-- The next value is stored after those that are filled in.
pub fill_one : (xs : List ℕ) (n v : ℕ) {left left' whole : List ℕ}
    → n < length xs
    → left ≡ v ∷ left'
    → take n xs ++ left ≡ whole
    → take (n + 1) (set xs n v) ++ left' ≡ whole
fill_one xs n v free next same = rw (add-one n, take-suc-set xs n v free, append_snoc) (rw next at same)

-- A word is stored there and not counted.
pub fill_none : (xs : List ℕ) (n v : ℕ) {left left' whole : List ℕ}
    → left ≡ left'
    → take n xs ++ left ≡ whole
    → take n (set xs n v) ++ left' ≡ whole
fill_none xs n v next same = rw (take-set-le n xs n v (le_refl n)) (rw next at same)

-- The next values are stored at the front of a part that was lent from there on.
pub fill_part : (xs part after left' : List ℕ) (n count : ℕ) {vs left whole : List ℕ}
    → n ≤ length xs
    → count ≤ length part
    → take count part ≡ vs
    → left ≡ vs ++ left'
    → take n xs ++ left ≡ whole
    → take (n + count) (take n xs ++ (part ++ after)) ++ left' ≡ whole
fill_part xs part after left' n count inside within filled next same =
    let front = rw (length-take-le n xs inside) at (take-append-add (take n xs) (part ++ after) count) in
    rw (front, take-append-le count part after within, filled, append_assoc) (rw next at same)

-- Nothing is left: what is filled in is the whole.
pub fill_end : (filled : List ℕ) {left whole : List ℕ} → left ≡ [] → filled ++ left ≡ whole → filled ≡ whole
fill_end filled none same = sym (append-nil filled) ∙ (rw none at same)
