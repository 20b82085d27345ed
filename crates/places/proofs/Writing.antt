-- The waiting places written word by word: as a log, and the release numbers after them. Assumes nothing.
use Prim.Native.Nat.{ℕ, suc, ◌+◌, ◌*◌, ◌≤◌, ◌<◌}
use native.Mathlib.Omega.{arith}
use mathlib.Core.Path.{◌≡◌, ◌∙◌, ap}
use mathlib.Core.List.{List, [], ◌∷◌, ◌++◌}
use lib.ListN.{length, set, drop, length-append}
use lib.Seq.{append_snoc}
use Rattle.theory.specs.Listing.{values_from, joined_from}
use Rattle.theory.proofs.Listing.{joined_length, joined_next, values_length, values_next}
use Rattle.theory.proofs.Overwriting.{write_next}
use Rattle.model.specs.Limits.{release_words}
use Rattle.model.specs.Sheet.{word}

-- The two words of a message that waits.
abbrev pub pair : List ℕ → List ℕ → ℕ → List ℕ
pair ticks streams i = word ticks i ∷ word streams i ∷ []

module _ (ticks streams : List ℕ) where
  -- So many messages have two words each.
  pub pairs_length : (count : ℕ) → length (joined_from (pair ticks streams) 0 count) ≡ release_words * count
  pairs_length count =
      let whole = joined_length (pair ticks streams) (λ k. release_words * k) 0 count (λ k low. omega arith) in
      omega arith

  -- One message more is written.
  pub pairs_next : (i : ℕ) (old : List ℕ) {log : List ℕ}
      → release_words * i + 2 ≤ length old
      → log ≡ joined_from (pair ticks streams) 0 i ++ drop (release_words * i) old
      → set (set log (release_words * i) (word ticks i)) (release_words * i + 1) (word streams i) ≡ joined_from (pair ticks streams) 0 (i + 1) ++ drop (release_words * (i + 1)) old
  pairs_next i old {log} fits so_far =
      let here : ℕ = release_words * i in
      let written : List ℕ = joined_from (pair ticks streams) 0 i in
      let long = pairs_length i in
      let one : List ℕ = written ++ (word ticks i ∷ []) in
      let first = write_next written old here (word ticks i) long (omega arith) in
      let second = write_next one old (here + 1) (word streams i) (omega (arith, length-append written (word ticks i ∷ []))) (omega arith) in
      let both = append_snoc written (word ticks i) (word streams i ∷ []) in
      let more : one ++ (word streams i ∷ []) ≡ joined_from (pair ticks streams) 0 (i + 1) =
      both ∙ ap (λ k. written ++ pair ticks streams k) (omega arith) ∙ joined_next (pair ticks streams) 0 i in
      let end : here + 1 + 1 ≡ release_words * (i + 1) = omega arith in
      ap (λ (xs : List ℕ). set (set xs here (word ticks i)) (here + 1) (word streams i)) so_far
      ∙ ap (λ (xs : List ℕ). set xs (here + 1) (word streams i)) first
      ∙ second
      ∙ ap (λ (xs : List ℕ). xs ++ drop (here + 1 + 1) old) more
      ∙ ap (λ (n : ℕ). joined_from (pair ticks streams) 0 (i + 1) ++ drop n old) end

-- One release number more is written.
pub numbers_next : (before i number : ℕ) (old : List ℕ) {places : List ℕ}
    → i < length old
    → number ≡ before + i
    → places ≡ values_from suc before i ++ drop i old
    → set places i (number + 1) ≡ values_from suc before (i + 1) ++ drop (i + 1) old
numbers_next before i number old {places} there so_many so_far =
    let next : number + 1 ≡ suc (before + i) = omega arith in
    ap (λ (xs : List ℕ). set xs i (number + 1)) so_far
    ∙ ap (λ n. set (values_from suc before i ++ drop i old) i n) next
    ∙ write_next (values_from suc before i) old i (suc (before + i)) (values_length suc before i) there
    ∙ ap (λ (xs : List ℕ). xs ++ drop (i + 1) old) (values_next suc before i)
