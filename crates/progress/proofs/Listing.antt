-- The begins of one turn, listed message by message: what is left of the list makes the whole, so that a loop can keep it.
-- Assumes nothing.
use Prim.Native.Nat.{ℕ, suc, ◌+◌, ◌*◌, ◌≤◌, ◌<◌}
use mathlib.Core.Path.{◌≡◌, sym, ap, ◌∙◌}
use mathlib.Core.List.{List, ◌∷◌}
use native.Mathlib.Numerals.{add-one}
use native.Mathlib.Omega.{arith}
use lib.ListN.{length, set, drop, drop_of_length-le, length-set}
use lib.Seq.{drop-cons}
use Rattle.theory.specs.Listing.{replaced_at}
use Rattle.theory.proofs.Overwriting.{over_none, over_set}
use Rattle.model.specs.Limits.{release_words}
use Rattle.model.specs.Sheet.{word}
use Rattle.model.specs.Trace.{begin_words}

module _ (ticks : ℕ) (numbers taken : List ℕ) (at : ℕ) where
  -- The message at place j is listed.
  pub list_next : (j begin : ℕ) (room : List ℕ) {whole : List ℕ}
      → j < length taken
      → at + release_words * j + 2 ≤ length room
      → replaced_at room (at + release_words * j) (begin_words ticks begin numbers (drop j taken)) ≡ whole
      → replaced_at (set (set room (at + release_words * j) (word numbers (word taken j))) (at + release_words * j + 1) begin) (at + release_words * (j + 1)) (begin_words ticks (begin + ticks) numbers (drop (j + 1) taken)) ≡ whole
  unfolding begin_words
  list_next j begin room {whole} inside fits rest =
      let here : ℕ = at + release_words * j in
      let one : List ℕ = set room here (word numbers (word taken j)) in
      let more = ap (λ xs. replaced_at room here (begin_words ticks begin numbers xs)) (drop-cons taken j 0 inside) in
      let others : List ℕ = begin_words ticks (begin + ticks) numbers (drop (suc j) taken) in
      let first = over_set room here (word numbers (word taken j)) (begin ∷ others) (omega arith) in
      let second = over_set one (suc here) begin others (omega (arith, length-set room here (word numbers (word taken j)))) in
      let end : at + release_words * (j + 1) ≡ suc (suc here) = omega arith in
      rw (end, add-one j, add-one here) (sym second ∙ sym first ∙ sym more ∙ rest)

  -- All are listed.
  pub list_done : (j begin : ℕ) {room whole : List ℕ}
      → length taken ≤ j
      → replaced_at room (at + release_words * j) (begin_words ticks begin numbers (drop j taken)) ≡ whole
      → room ≡ whole
  unfolding begin_words
  list_done j begin {room} done rest =
      over_none room (at + release_words * j)
      ∙ sym (ap (λ xs. replaced_at room (at + release_words * j) (begin_words ticks begin numbers xs)) (drop_of_length-le taken {i = j} done))
      ∙ rest
