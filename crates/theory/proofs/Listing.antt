-- Lists made number by number: how long they are, where each value stands, and what a function makes of them. Assumes nothing.
use Prim.Native.Nat.{ℕ, zero, suc, ◌+◌, ◌-◌, ◌≤◌, ◌<◌}
use native.Mathlib.Nat.{eq-or-lt_of_le, le_refl}
use native.Mathlib.Numerals.{add-one}
use native.Mathlib.Decide.{le_ind, dec_lt}
use native.Mathlib.Omega.{arith}
use mathlib.Core.Path.{◌≡◌, refl, sym, ◌∙◌, ap}
use mathlib.Core.Logic.{◌⊎◌, inl, inr}
use mathlib.Core.List.{List, [], ◌∷◌, ◌++◌, append-nil, append_assoc, map, map-append}
use lib.ListN.{length, get_or, set, take, length-append, get_or-append}
use lib.Seq.{get_or-append-add, take-suc-set}
use Rattle.theory.specs.Listing.{values_from, joined_from}

-- There is a value for each number,
pub values_length : {X : Type 0} (f : ℕ → X) (from count : ℕ) → length (values_from f from count) ≡ count
unfolding values_from
values_length f from zero = refl
values_length f from (suc count) = ap suc (values_length f (suc from) count)

-- the one that f has there.
pub values_there : {X : Type 0} (none : X) (f : ℕ → X) (from count i : ℕ) → i < count → get_or (values_from f from count) i none ≡ f (from + i)
unfolding values_from
values_there none f from zero i inside = absurd (omega arith)
values_there none f from (suc count) zero inside = ap f (omega arith)
values_there none f from (suc count) (suc i) inside = values_there none f (suc from) count i (omega arith) ∙ ap f (omega arith)

pub values_at : (f : ℕ → ℕ) (from count i : ℕ) → i < count → get_or (values_from f from count) i 0 ≡ f (from + i)
values_at f = values_there 0 f

-- One value more.
pub values_next : {X : Type 0} (f : ℕ → X) (from count : ℕ) → values_from f from count ++ (f (from + count) ∷ []) ≡ values_from f from (count + 1)
unfolding values_from
values_next f from zero = let here : from + 0 ≡ from = omega arith in rw here refl
values_next f from (suc count) =
    let there : from + suc count ≡ suc from + count = omega arith in
    let all : suc count + 1 ≡ suc (count + 1) = omega arith in
    rw (there, all) (ap (λ more. f from ∷ more) (values_next f (suc from) count))

-- A function of each value: of those of one list,
pub values_map : {X Y : Type 0} (g : X → Y) (f : ℕ → X) (from count : ℕ) → map g (values_from f from count) ≡ values_from (λ n. g (f n)) from count
unfolding values_from
values_map g f from zero = refl
values_map g f from (suc count) = ap (λ more. g (f from) ∷ more) (values_map g f (suc from) count)

-- and of those of lists joined.
pub joined_map : {X Y : Type 0} (g : X → Y) (f : ℕ → List X) (from count : ℕ)
    → map g (joined_from f from count) ≡ joined_from (λ n. map g (f n)) from count
unfolding joined_from
joined_map g f from zero = refl
joined_map g f from (suc count) =
    map-append g (f from) (joined_from f (suc from) count) ∙ ap (λ more. map g (f from) ++ more) (joined_map g f (suc from) count)

module _ {X : Type 0} (f : ℕ → List X) where
  -- The first list, and those after it.
  pub joined_cons : (from count : ℕ) → joined_from f from (suc count) ≡ f from ++ joined_from f (suc from) count
  unfolding joined_from
  joined_cons from count = refl

  pub joined_nil : (from : ℕ) → joined_from f from 0 ≡ []
  unfolding joined_from
  joined_nil from = refl

  -- Lists joined in two parts are joined in one.
  pub joined_append : (from a b : ℕ) → joined_from f from a ++ joined_from f (from + a) b ≡ joined_from f from (a + b)
  unfolding joined_from
  joined_append from zero b =
      let here : from + 0 ≡ from = omega arith in
      let all : 0 + b ≡ b = omega arith in
      rw (here, all) refl
  joined_append from (suc a) b =
      let there : from + suc a ≡ suc from + a = omega arith in
      let all : suc a + b ≡ suc (a + b) = omega arith in
      rw (there, all) (append_assoc (f from) _ _ ∙ ap (λ more. f from ++ more) (joined_append (suc from) a b))

  joined_one : (k : ℕ) → joined_from f k 1 ≡ f k
  unfolding joined_from
  joined_one k = append-nil (f k)

  -- One list more.
  pub joined_next : (from count : ℕ) → joined_from f from count ++ f (from + count) ≡ joined_from f from (count + 1)
  joined_next from count =
      ap (λ one. joined_from f from count ++ one) (sym (joined_one (from + count))) ∙ joined_append from count 1

-- The lists start where those before them end: `start` says where, counted from anywhere.
module _ {X : Type 0} (f : ℕ → List X) (start : ℕ → ℕ) where
  abbrev Follows : ℕ → Type 0
  Follows from = (k : ℕ) → from ≤ k → start (suc k) ≡ start k + length (f k)

  later : (from : ℕ) → Follows from → Follows (suc from)
  later from follows k low = follows k (omega arith)

  -- All together are as long as from the first start to the last.
  pub joined_length : (from count : ℕ) → Follows from → start from + length (joined_from f from count) ≡ start (from + count)
  unfolding joined_from
  joined_length from zero follows = let here : from + 0 ≡ from = omega arith in rw here (omega arith)
  joined_length from (suc count) follows =
      let there : from + suc count ≡ suc from + count = omega arith in
      omega (
        arith,
        length-append (f from) (joined_from f (suc from) count),
        follows from (le_refl from),
        joined_length (suc from) count (later from follows),
        ap start there,
      )

  starts_grow : (from a b : ℕ) → Follows from → from ≤ a → a ≤ b → start a ≤ start b
  starts_grow from a b follows low high =
      le_ind (λ m. start a ≤ start m) (le_refl _) (λ m past ih. omega (arith, follows m (omega arith))) b high

  -- A value of one of the lists stands after all lists before it.
  pub joined_there : (none : X) (from count k p at : ℕ)
      → Follows from
      → from ≤ k
      → k < from + count
      → p < length (f k)
      → start from + at ≡ start k + p
      → get_or (joined_from f from count) at none ≡ get_or (f k) p none
  joined_there none from zero k p at follows low high inside same = absurd (omega arith)
  joined_there none from (suc count) k p at follows low high inside same =
      ap (λ ws. get_or ws at none) (joined_cons f from count) ∙ go (eq-or-lt_of_le low) (joined_there none (suc from) count k p)
    where
      more : List X
      more = joined_from f (suc from) count

      go : (from ≡ k) ⊎ (from < k)
          → ((at : ℕ)
          → Follows (suc from)
          → suc from ≤ k
          → k < suc from + count
          → p < length (f k)
          → start (suc from) + at ≡ start k + p
          → get_or more at none ≡ get_or (f k) p none)
          → get_or (f from ++ more) at none ≡ get_or (f k) p none
      go (inl here) rest =
          let place : at ≡ p = omega (arith, ap start here) in
          let few : at < length (f from) = omega (arith, ap (λ n. length (f n)) here) in
          get_or-append (f from) more none at few ∙ rw (place, here) refl
      go (inr less) rest =
          let next = follows from (le_refl from) in
          let grown = starts_grow from (suc from) k follows (omega arith) less in
          let left : ℕ = at - length (f from) in
          let whole : at ≡ length (f from) + left = omega (arith, next, grown) in
          ap (λ n. get_or (f from ++ more) n none) whole
          ∙ get_or-append-add (f from) more left none
          ∙ rest left (later from follows) less (omega arith) inside (omega (arith, next, grown))

  -- Every place in them is in one of the lists.
  pub record InOne (from count at : ℕ) : Type 0 where
    pub list : ℕ
    pub low : from ≤ list
    pub high : list < from + count
    pub place : ℕ
    pub inside : place < length (f list)
    pub same : start from + at ≡ start list + place

  pub located : (from count at : ℕ) → Follows from → start from + at < start (from + count) → InOne from count at
  located from zero at follows inside =
      let here : from + 0 ≡ from = omega arith in
      absurd (omega (arith, ap start here))
  located from (suc count) at follows inside = go (dec_lt at (length (f from))) (located (suc from) count)
    where
      go : Dec (at < length (f from))
          → ((at : ℕ) → Follows (suc from) → start (suc from) + at < start (suc from + count) → InOne (suc from) count at)
          → InOne from (suc count) at
      go (yes few) rest = record { list = from; low = le_refl from; high = omega arith; place = at; inside = few; same = refl }
      go (no past) rest =
          let there : from + suc count ≡ suc from + count = omega arith in
          let next = follows from (le_refl from) in
          let left : ℕ = at - length (f from) in
          let one = rest left (later from follows) (omega (arith, next, ap start there)) in
          record {
            list = one.list;
            low = omega (arith, one.low);
            high = omega (arith, one.high);
            place = one.place;
            inside = one.inside;
            same = omega (arith, next, one.same);
          }

pub joined_at : (f : ℕ → List ℕ) (start : ℕ → ℕ) (from count k p at : ℕ)
    → ((k : ℕ) → from ≤ k → start (suc k) ≡ start k + length (f k))
    → from ≤ k
    → k < from + count
    → p < length (f k)
    → start from + at ≡ start k + p
    → get_or (joined_from f from count) at 0 ≡ get_or (f k) p 0
joined_at f start = joined_there f start 0

-- Stretches of lists that follow on each other, joined, are all those lists joined: stretch k has the lists from `start k` on.
pub joined_stretches : (g : ℕ → List ℕ) (start count : ℕ → ℕ) (from n all : ℕ)
    → ((k : ℕ) → from ≤ k → start (suc k) ≡ start k + count k)
    → start from + all ≡ start (from + n)
    → joined_from (λ k. joined_from g (start k) (count k)) from n ≡ joined_from g (start from) all
unfolding joined_from
joined_stretches g start count from zero all follows same =
    let here : from + 0 ≡ from = omega arith in
    let none : all ≡ 0 = omega (arith, ap start here) in
    rw none refl
joined_stretches g start count from (suc n) all follows same =
    let there : from + suc n ≡ suc from + n = omega arith in
    let next = follows from (le_refl from) in
    let after : (k : ℕ) → suc from ≤ k → start (suc k) ≡ start k + count k = λ k low. follows k (omega arith) in
    let grown = le_ind (λ m. start (suc from) ≤ start m) (le_refl _) (λ m past ih. omega (arith, after m past)) (suc from + n) (omega arith) in
    let left : ℕ = all - count from in
    let whole : count from + left ≡ all = omega (arith, next, grown, ap start there) in
    let rest = joined_stretches g start count (suc from) n left after (omega (arith, next, grown, ap start there)) in
    rw (rest, next, joined_append g (start from) (count from) left, whole) refl

-- The values of a list's first ones are the first of its values,
pub take-map : (f : ℕ → ℕ) (i : ℕ) (xs : List ℕ) → take i (map f xs) ≡ map f (take i xs)
take-map f zero xs = refl
take-map f (suc i) [] = refl
take-map f (suc i) (x ∷ xs) = ap (λ more. f x ∷ more) (take-map f i xs)

-- a value stands where that which it is of stands,
pub map_at : (f : ℕ → ℕ) (xs : List ℕ) (i : ℕ) → i < length xs → get_or (map f xs) i 0 ≡ f (get_or xs i 0)
map_at f [] i inside = absurd (omega arith)
map_at f (x ∷ xs) zero inside = refl
map_at f (x ∷ xs) (suc i) inside = map_at f xs i (omega arith)

-- and the value of the next stands after those of the first ones.
pub map_next : (f : ℕ → ℕ) (xs : List ℕ) (i : ℕ) → i < length xs → map f (take (suc i) xs) ≡ map f (take i xs) ++ (f (get_or xs i 0) ∷ [])
map_next f [] i inside = absurd (omega arith)
map_next f (x ∷ xs) zero inside = refl
map_next f (x ∷ xs) (suc i) inside = ap (λ more. f x ∷ more) (map_next f xs i (omega arith))

-- Stored there, it goes on the values.
pub stored_next : (f : ℕ → ℕ) (room xs : List ℕ) (i v : ℕ)
    → i < length room
    → i < length xs
    → v ≡ f (get_or xs i 0)
    → take i room ≡ map f (take i xs)
    → take (i + 1) (set room i v) ≡ map f (take (i + 1) xs)
stored_next f room xs i v free inside value so_far =
    rw (add-one i)
    (take-suc-set room i v free
    ∙ ap (λ front. front ++ (v ∷ [])) so_far
    ∙ ap (λ one. map f (take i xs) ++ (one ∷ [])) value
    ∙ sym (map_next f xs i inside))
