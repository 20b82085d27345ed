-- The words of some bytes, one more at a time. Assumes nothing.
use Prim.Native.Nat.{ℕ, zero, suc, ◌+◌, ◌*◌, ◌/◌, ◌%◌, ◌≤◌, ◌<◌, zero-le}
use native.Mathlib.Nat.{add-zero, zero-add, suc-add, add-suc}
use native.Mathlib.Decide.{dec_le, dec_lt, ℕ_discrete}
use native.Mathlib.Numerals.{add-one}
use native.Mathlib.Omega.{arith}
use mathlib.Core.Path.{◌≡◌, refl, sym, ◌∙◌, ap}
use mathlib.Core.Bool.{or-true}
use mathlib.Core.List.{List, [], ◌∷◌, ◌++◌}
use lib.ListN.{length, take, drop, get_or}
use lib.Seq.{take_all, take_at, length-take-le}
use Rattle.std.proofs.lemmas.List.{drop-drop, get_or-take, get_or-drop}
use borrow.Author.Tests.{eq-eqb, ne_eqb, lt-ltb, le-ltb}
use Rattle.std.specs.Int.{w32, from_le_bytes}
use Rattle.std.specs.Simd.{first_chunks}
use Rattle.model.specs.Limits.{longest_sheet}
use Rattle.model.specs.Sheet.{Valid}
use Rattle.model.proofs.Sheet.ValidSheet.{valid_fits}
use Rattle.model.proofs.Sheet.NodeSums.{sheet_longest}
use Rattle.input.specs.Input.{word_bytes, read_bytes, word_at, words_from, all_words, loaded, Loaded}

-- As many words as asked for.
pub words_length : (bytes : List ℕ) (i count : ℕ) → length (words_from bytes i count) ≡ count
unfolding words_from
words_length bytes i zero = refl
words_length bytes i (suc count) = ap suc (words_length bytes (suc i) count)

words_next : (bytes : List ℕ) (i count : ℕ) → words_from bytes i (suc count) ≡ words_from bytes i count ++ (word_at bytes (i + count) ∷ [])
unfolding words_from
words_next bytes i zero = rw add-zero refl
words_next bytes i (suc count) =
    rw (add-suc i count, ← suc-add i count) (ap (λ l. word_at bytes i ∷ l) (words_next bytes (suc i) count))

-- One word more at the end.
pub words_more : (bytes : List ℕ) (i : ℕ) → words_from bytes 0 (i + 1) ≡ words_from bytes 0 i ++ (word_at bytes i ∷ [])
words_more bytes i = rw (add-one i) (words_next bytes 0 i ∙ ap (λ k. words_from bytes 0 i ++ (word_at bytes k ∷ [])) (zero-add i))

-- The chunks of four bytes are the words' bytes,
chunk_at : (bytes : List ℕ) (count i : ℕ) (other : List ℕ) → i < count → get_or (first_chunks 4 count bytes) i other ≡ take 4 (drop (4 * i) bytes)
chunk_at bytes zero i other inside = absurd (omega arith)
chunk_at bytes (suc count) zero other inside = refl
chunk_at bytes (suc count) (suc i) other inside =
    let there : 4 + 4 * i ≡ 4 * suc i = omega arith in
    chunk_at (drop 4 bytes) count i other (omega arith) ∙ ap (take 4) (drop-drop (4 * i) 4 bytes ∙ ap (λ n. drop n bytes) there)

chunk_byte : (bytes : List ℕ) (count i j : ℕ) (other : List ℕ)
    → i < count
    → j < 4
    → get_or (get_or (first_chunks 4 count bytes) i other) j 0 ≡ get_or bytes (4 * i + j) 0
chunk_byte bytes count i j other inside few =
    rw (chunk_at bytes count i other inside, get_or-take 4 (drop (4 * i) bytes) j 0 few, get_or-drop) refl

-- so that a chunk read with its lowest byte first is a word.
pub chunk_word : (bytes : List ℕ) (count i : ℕ) (other : List ℕ)
    → i < count
    → from_le_bytes w32 (get_or (first_chunks 4 count bytes) i other) ≡ word_at bytes i
chunk_word bytes count i other inside =
    let byte = λ (j : ℕ) (few : j < 4). chunk_byte bytes count i j other inside few in
    let low = rw add-zero at (byte 0 (omega arith)) in
    omega (arith, low, byte 1 (omega arith), byte 2 (omega arith), byte 3 (omega arith))

-- An input that is no whole number of words, or too long, has no words.
pub uneven : (most : ℕ) (bytes : List ℕ) → (length bytes % word_bytes ≡ 0 → ⊥) → loaded most bytes ≡ []
unfolding loaded
uneven most bytes h = rw (ne_eqb (length bytes % word_bytes) 0 h) refl

pub too_long : (most : ℕ) (bytes : List ℕ) → word_bytes * most < length bytes → loaded most bytes ≡ []
unfolding loaded
too_long most bytes long = rw (lt-ltb (word_bytes * most) (length bytes) long, or-true) refl

-- Any other has all its words.
pub whole : (most : ℕ) (bytes : List ℕ) → length bytes % word_bytes ≡ 0 → length bytes ≤ word_bytes * most → loaded most bytes ≡ all_words bytes
unfolding loaded
whole most bytes even short =
    rw (eq-eqb (length bytes % word_bytes) 0 even, le-ltb (word_bytes * most) (length bytes) short) refl

-- What is read of an input is enough: the words are those of the whole input.
pub read_enough : (most : ℕ) (bytes : List ℕ) → loaded most (take (read_bytes most) bytes) ≡ loaded most bytes
read_enough most bytes = go (dec_le (length bytes) (read_bytes most))
  where
    go : Dec (length bytes ≤ read_bytes most) → loaded most (take (read_bytes most) bytes) ≡ loaded most bytes
    go (yes short) = rw (take_all (read_bytes most) bytes short) refl
    go (no long) =
        let cut : length (take (read_bytes most) bytes) ≡ read_bytes most = length-take-le (read_bytes most) bytes (omega arith) in
        too_long most (take (read_bytes most) bytes) (omega arith) ∙ sym (too_long most bytes (omega arith))

-- The front of a table that was loaded is the words.
pub loaded_front : {most count : ℕ} {bytes before after : List ℕ} → Loaded most bytes before after count → take count after ≡ loaded most bytes
loaded_front {most} {count} {bytes} {before} {after} l =
    ap (take count) l.words ∙ take_at (loaded most bytes) (drop count before) count (sym l.counted)

-- No more words than there may be.
pub loaded_most : (most : ℕ) (bytes : List ℕ) → length (loaded most bytes) ≤ most
loaded_most most bytes = go (dec_lt (word_bytes * most) (length bytes)) (ℕ_discrete (length bytes % word_bytes) 0)
  where
    go : Dec (word_bytes * most < length bytes) → Dec (length bytes % word_bytes ≡ 0) → length (loaded most bytes) ≤ most
    go (yes long) whole? = rw (too_long most bytes long) zero-le
    go (no short) (no odd) = rw (uneven most bytes odd) zero-le
    go (no short) (yes even) = rw (whole most bytes even (omega arith), words_length) (omega arith)

-- A valid sheet has all its words: none is longer than the longest.
pub valid_whole : (bytes : List ℕ) → length bytes % word_bytes ≡ 0 → Valid (all_words bytes) → loaded longest_sheet bytes ≡ all_words bytes
valid_whole bytes even valid =
    let short = sheet_longest (all_words bytes) (valid_fits (all_words bytes) valid) in
    whole longest_sheet bytes even (omega (arith, short, words_length bytes 0 (length bytes / word_bytes)))
