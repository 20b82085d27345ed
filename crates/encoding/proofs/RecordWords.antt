-- The record as a table of words: it is written in four parts, and its words are read back as that record. Assumes nothing.
use Prim.Native.Nat.{ℕ, ◌+◌, ◌≤◌}
use native.Mathlib.Omega.{arith}
use mathlib.Core.Path.{◌≡◌, refl, sym, ◌∙◌, ap}
use mathlib.Core.List.{List, [], ◌∷◌, ◌++◌, append-nil, append_assoc}
use lib.ListN.{length, take, drop, length-append, drop_of_length-le}
use lib.Seq.{take_all, take_at, drop_at, drop-drop}
use Rattle.theory.specs.Listing.{replaced_at}
use Rattle.theory.proofs.Overwriting.{over_more, over_part}
use Rattle.model.specs.Limits.{max_waiting}
use Rattle.pieces.specs.declared.Checkpoint.{Checkpoint}
use Rattle.encoding.specs.Words.{checkpoint_header, ticks_place, streams_place, checkpoint_length, checkpoint_in, checkpoint_words}

-- A part of a table that comes back with values: they are written over the table there.
pub part_over : (room values : List ℕ) (at many : ℕ) {part : List ℕ}
    → length values ≡ many
    → part ≡ values
    → take at room ++ (part ++ drop many (drop at room)) ≡ replaced_at room at values
part_over room values at many {part} long back =
    ap (λ vs. take at room ++ (vs ++ drop many (drop at room))) back
    ∙ ap (λ n. take at room ++ (values ++ drop n (drop at room))) (sym long)
    ∙ over_part room at values

module _ (old : List ℕ) where
  -- One part more is written after those before it,
  part_next : (so_far part : List ℕ) (at : ℕ) {room next : List ℕ}
      → at ≡ length so_far
      → at ≤ length old
      → room ≡ replaced_at old 0 so_far
      → next ≡ replaced_at room at part
      → next ≡ replaced_at old 0 (so_far ++ part)
  part_next so_far part at {room} {next} here fits before written =
      let place : at ≡ 0 + length so_far = omega arith in
      written
      ∙ ap (λ xs. replaced_at xs at part) before
      ∙ ap (λ n. replaced_at (replaced_at old 0 so_far) n part) place
      ∙ over_more old 0 so_far (omega arith) part

  -- and all parts are.
  parts_all : (all : List ℕ) → length all ≡ length old → replaced_at old 0 all ≡ all
  parts_all all same =
      let none : drop (0 + length all) old ≡ [] = drop_of_length-le old {i = 0 + length all} (omega arith) in
      ap (λ rest. all ++ rest) none ∙ append-nil all

  -- Four parts that take all words.
  four_parts : (a b d e : List ℕ) (i j k : ℕ) {one two three four : List ℕ}
      → i ≡ length a
      → j ≡ i + length b
      → k ≡ j + length d
      → k + length e ≡ length old
      → one ≡ replaced_at old 0 a
      → two ≡ replaced_at one i b
      → three ≡ replaced_at two j d
      → four ≡ replaced_at three k e
      → four ≡ a ++ (b ++ (d ++ e))
  four_parts a b d e i j k {one} {two} {three} {four} first second third last w x y z =
      let ab : List ℕ = a ++ b in
      let abd : List ℕ = ab ++ d in
      let abde : List ℕ = abd ++ e in
      let la = length-append a b in
      let lb = length-append ab d in
      let lc = length-append abd e in
      let p : two ≡ replaced_at old 0 ab = part_next a b i first (omega arith) w x in
      let q : three ≡ replaced_at old 0 abd = part_next ab d j (omega arith) (omega arith) p y in
      let r : four ≡ replaced_at old 0 abde = part_next abd e k (omega arith) (omega arith) q z in
      r ∙ parts_all abde (omega arith) ∙ append_assoc ab d e ∙ append_assoc a b (d ++ e)

-- The record is written in four parts.
pub record-written : (c : Checkpoint) (old : List ℕ) {one two three four : List ℕ}
    → length c.numbers ≡ max_waiting
    → length c.ticks ≡ max_waiting
    → length c.streams ≡ max_waiting
    → length old ≡ checkpoint_length
    → one ≡ replaced_at old 0 (c.horizon ∷ c.bus.tick ∷ c.bus.node ∷ c.bus.turns ∷ c.releases ∷ c.waiting ∷ [])
    → two ≡ replaced_at one checkpoint_header c.numbers
    → three ≡ replaced_at two ticks_place c.ticks
    → four ≡ replaced_at three streams_place c.streams
    → four ≡ checkpoint_words c
unfolding checkpoint_words
record-written c old numbers ticks streams full w x y z =
    four_parts old (c.horizon ∷ c.bus.tick ∷ c.bus.node ∷ c.bus.turns ∷ c.releases ∷ c.waiting ∷ []) c.numbers c.ticks c.streams
    checkpoint_header ticks_place streams_place refl (omega arith) (omega arith) (omega arith) w x y z

-- A record's words are read back as that record.
pub record_kept : (c : Checkpoint)
    → length c.numbers ≡ max_waiting
    → length c.ticks ≡ max_waiting
    → length c.streams ≡ max_waiting
    → checkpoint_in (checkpoint_words c) ≡ c
unfolding checkpoint_words checkpoint_in
record_kept c numbers ticks streams =
    let words : List ℕ = checkpoint_words c in
    let first : drop checkpoint_header words ≡ c.numbers ++ (c.ticks ++ c.streams) = refl in
    let second : drop ticks_place words ≡ c.ticks ++ c.streams =
    sym (drop-drop max_waiting checkpoint_header words) ∙ ap (drop max_waiting) first ∙ drop_at c.numbers (c.ticks ++ c.streams) max_waiting numbers in
    let third : drop streams_place words ≡ c.streams =
    sym (drop-drop max_waiting ticks_place words) ∙ ap (drop max_waiting) second ∙ drop_at c.ticks c.streams max_waiting ticks in
    let a : take max_waiting (drop checkpoint_header words) ≡ c.numbers = ap (take max_waiting) first ∙ take_at c.numbers (c.ticks ++ c.streams) max_waiting numbers in
    let b : take max_waiting (drop ticks_place words) ≡ c.ticks = ap (take max_waiting) second ∙ take_at c.ticks c.streams max_waiting ticks in
    let d : take max_waiting (drop streams_place words) ≡ c.streams = ap (take max_waiting) third ∙ take_all max_waiting c.streams (omega arith) in
    λ i. record { horizon = c.horizon; bus = c.bus; releases = c.releases; waiting = c.waiting; numbers = a i; ticks = b i; streams = d i }
