-- Values that take the place of a part of a list: what one more write adds, and what is lent from a place on. Assumes nothing.
use Prim.Native.Nat.{ℕ, suc, ◌+◌, ◌-◌, ◌≤◌, ◌<◌}
use native.Mathlib.Nat.{zero-add, add-zero, le_of_lt, le_refl}
use native.Mathlib.Numerals.{add-one}
use native.Mathlib.Omega.{arith}
use mathlib.Core.Path.{◌≡◌, refl, sym, ◌∙◌, ap}
use mathlib.Core.List.{List, [], ◌∷◌, ◌++◌, append-nil, append_assoc}
use lib.ListN.{length, get_or, set, take, drop, length-append, length-drop, take-append-drop, drop_of_length-le, get_or-append}
use lib.Seq.{length-take-le, get_or-take, get_or-drop, get_or-append-add, drop-drop, take_at, drop_at, drop-append-add, drop-cons, set_at, append_snoc, take-suc, take-length, take_all, take-suc-set, drop-set-lt}
use borrow.Author.Tests.{le-ltb, lt-ltb}
use Rattle.theory.specs.Listing.{replaced_at, put_front}

-- Nothing written changes nothing.
pub over_none : (xs : List ℕ) (at : ℕ) → xs ≡ replaced_at xs at []
over_none xs at = sym (rw (add-zero) (take-append-drop at xs))

module _ (xs : List ℕ) (at : ℕ) (vs : List ℕ) (fits : at + length vs ≤ length xs) where
  front_length : length (take at xs ++ vs) ≡ at + length vs
  front_length = omega (arith, fits, length-append (take at xs) vs, length-take-le at xs (omega (arith, fits)))

  whole : replaced_at xs at vs ≡ (take at xs ++ vs) ++ drop (at + length vs) xs
  whole = sym (append_assoc (take at xs) vs (drop (at + length vs) xs))

  -- The list up to their end,
  pub over_upto : take (at + length vs) (replaced_at xs at vs) ≡ take at xs ++ vs
  over_upto = ap (take (at + length vs)) whole ∙ take_at (take at xs ++ vs) (drop (at + length vs) xs) (at + length vs) front_length

  -- past it,
  pub over_past : drop (at + length vs) (replaced_at xs at vs) ≡ drop (at + length vs) xs
  over_past = ap (drop (at + length vs)) whole ∙ drop_at (take at xs ++ vs) (drop (at + length vs) xs) (at + length vs) front_length

  -- and its length.
  pub over_length : length (replaced_at xs at vs) ≡ length xs
  over_length =
      ap length whole
      ∙ length-append (take at xs ++ vs) (drop (at + length vs) xs)
      ∙ omega (arith, fits, front_length, length-drop (at + length vs) xs)

  front : length (take at xs) ≡ at
  front = length-take-le at xs (omega (arith, fits))

  -- Its words: one before the values,
  pub over_before : (i : ℕ) → i < at → get_or (replaced_at xs at vs) i 0 ≡ get_or xs i 0
  over_before i low =
      get_or-append (take at xs) (vs ++ drop (at + length vs) xs) 0 i (omega (arith, front)) ∙ get_or-take at xs i 0 low

  -- one of them,
  pub over_there : (r : ℕ) → r < length vs → get_or (replaced_at xs at vs) (at + r) 0 ≡ get_or vs r 0
  over_there r low =
      let here : at + r ≡ length (take at xs) + r = omega (arith, front) in
      ap (λ i. get_or (replaced_at xs at vs) i 0) here
      ∙ get_or-append-add (take at xs) (vs ++ drop (at + length vs) xs) r 0
      ∙ get_or-append vs (drop (at + length vs) xs) 0 r low

  -- and one after them.
  pub over_after : (i : ℕ) → at + length vs ≤ i → get_or (replaced_at xs at vs) i 0 ≡ get_or xs i 0
  over_after i high =
      let past = i - (at + length vs) in
      let here : i ≡ at + length vs + past = omega arith in
      ap (λ i. get_or (replaced_at xs at vs) i 0) here
      ∙ sym (get_or-drop (at + length vs) (replaced_at xs at vs) past 0)
      ∙ ap (λ ys. get_or ys past 0) over_past
      ∙ get_or-drop (at + length vs) xs past 0
      ∙ ap (λ i. get_or xs i 0) (sym here)

  -- More values after them.
  pub over_more : (ws : List ℕ) → replaced_at (replaced_at xs at vs) (at + length vs) ws ≡ replaced_at xs at (vs ++ ws)
  over_more ws =
      let front = take at xs ++ vs in
      let rest = drop (at + length vs) xs in
      let taken = take_at front rest (at + length vs) front_length in
      let past = rw front_length at (drop-append-add front rest (length ws)) in
      let left = past ∙ drop-drop (length ws) (at + length vs) xs in
      let all : at + length (vs ++ ws) ≡ at + length vs + length ws = omega (arith, length-append vs ws) in
      rw (whole, taken, left, all) (append_assoc (take at xs) vs _ ∙ ap (λ more. take at xs ++ more) (sym (append_assoc vs ws _)))

-- The first of some values written alone, and then the others after it.
pub over_set : (xs : List ℕ) (at v : ℕ) (vs : List ℕ)
    → at < length xs
    → replaced_at xs at (v ∷ vs) ≡ replaced_at (set xs at v) (suc at) vs
over_set xs at v vs there =
    let past : at + suc (length vs) ≡ suc at + length vs = omega arith in
    let front = take-suc-set xs at v there in
    let back = drop-set-lt (suc at + length vs) xs at v (omega arith) in
    sym (rw (front, back, past) (append_snoc (take at xs) v (vs ++ drop (suc at + length vs) xs)))

-- The part of a list from a place on, with values in its first words, stands after what comes before that place.
pub over_part : (xs : List ℕ) (at : ℕ) (vs : List ℕ) → take at xs ++ (vs ++ drop (length vs) (drop at xs)) ≡ replaced_at xs at vs
over_part xs at vs = ap (λ rest. take at xs ++ (vs ++ rest)) (drop-drop (length vs) at xs)

-- The part that is lent from a place on has the rest of the list.
pub lent_length : (xs : List ℕ) (at : ℕ) → length (take (length xs - at) (drop at xs)) ≡ length xs - at
lent_length xs at = length-take-le (length xs - at) (drop at xs) (rw length-drop (le_refl _))

-- It comes back with values in its first words: they are written over the list at that place.
pub over_lent : (xs part : List ℕ) (at : ℕ) (vs : List ℕ)
    → part ≡ vs ++ drop (length vs) (take (length xs - at) (drop at xs))
    → take at xs ++ (part ++ drop (length xs - at) (drop at xs)) ≡ replaced_at xs at vs
over_lent xs part at vs back =
    let all = take_all (length xs - at) (drop at xs) (rw length-drop (le_refl _)) in
    let none : drop (length xs - at) (drop at xs) ≡ [] = drop_of_length-le (drop at xs) {i = length xs - at} (rw length-drop (le_refl _)) in
    rw (none, append-nil, back, all) (over_part xs at vs)

-- A loop that lends the part after what it has written so far.
pub over_next : (xs room part so_far vs : List ℕ) (at here : ℕ)
    → at + length so_far ≤ length xs
    → here ≡ at + length so_far
    → room ≡ replaced_at xs at so_far
    → part ≡ vs ++ drop (length vs) (take (length room - here) (drop here room))
    → take here room ++ (part ++ drop (length room - here) (drop here room)) ≡ replaced_at xs at (so_far ++ vs)
over_next xs room part so_far vs at here fits place written back =
    over_lent room part here vs back
    ∙ ap (λ i. replaced_at room i vs) place
    ∙ ap (λ ys. replaced_at ys (at + length so_far) vs) written
    ∙ over_more xs at so_far fits vs

-- Values in the first words.
pub over_front : (xs vs : List ℕ) → replaced_at xs 0 vs ≡ vs ++ drop (length vs) xs
over_front xs vs = rw zero-add refl

-- Values that fit are put there,
pub put_fits : (vs xs : List ℕ) → length vs ≤ length xs → put_front vs xs ≡ vs ++ drop (length vs) xs
unfolding put_front
put_fits vs xs fits = rw (le-ltb (length xs) (length vs) fits) refl

-- and values that do not are not.
pub put_not : (vs xs : List ℕ) → length xs < length vs → put_front vs xs ≡ xs
unfolding put_front
put_not vs xs short = rw (lt-ltb (length xs) (length vs) short) refl

-- A list written over from its front: after i values it has those i and then its old ones from i on. One value more,
pub write_next : (written old : List ℕ) (i v : ℕ)
    → length written ≡ i
    → i < length old
    → set (written ++ drop i old) i v ≡ (written ++ (v ∷ [])) ++ drop (i + 1) old
write_next written old i v same there =
    rw (drop-cons old i 0 there, add-one i)
    (set_at written _ (drop (suc i) old) v i same ∙ sym (append_snoc written v (drop (suc i) old)))

-- the next one of those to be put,
pub copy_one : (values xs : List ℕ) (i : ℕ)
    → i < length values
    → i < length xs
    → set (take i values ++ drop i xs) i (get_or values i 0) ≡ take (i + 1) values ++ drop (i + 1) xs
copy_one values xs i inside free =
    rw (add-one i, take-suc values i 0 inside, ← add-one i)
    (write_next (take i values) xs i (get_or values i 0) (length-take-le i values (le_of_lt inside)) free)

-- and all of them.
pub copy_end : (values xs : List ℕ) → take (length values) values ++ drop (length values) xs ≡ values ++ drop (length values) xs
copy_end values xs = ap (λ front. front ++ drop (length values) xs) (take-length values)
