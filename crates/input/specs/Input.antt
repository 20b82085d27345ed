-- What the programs make of the bytes that they read: "little-endian words". Rules 8.1, 8.2 and 8.4. Assumes nothing.
use Rattle.std.specs.Prelude.{ℕ, zero, suc, ◌+◌, ◌*◌, ◌/◌, ◌%◌, ◌≤◌, ◌≡◌, cond, not, ◌||◌, List, [], ◌∷◌, ◌++◌, length, get_or, take, drop, eqb, ltb}

-- Bytes of a word.
abbrev pub word_bytes : ℕ
word_bytes = 4

-- The bytes that are read of an input that may have so many words: one more than it may have, so that a longer one is seen as such.
abbrev pub read_bytes : ℕ → ℕ
read_bytes most = suc (word_bytes * most)

-- Word i of some bytes, its lowest byte first.
abbrev pub word_at : List ℕ → ℕ → ℕ
word_at bytes i =
    get_or bytes (word_bytes * i) 0 + 256 * get_or bytes (word_bytes * i + 1) 0 + 65_536 * get_or bytes (word_bytes * i + 2) 0
    + 16_777_216 * get_or bytes (word_bytes * i + 3) 0

-- The words from word i on, `count` of them.
unfoldable pub words_from : List ℕ → ℕ → ℕ → List ℕ
words_from bytes i zero = []
words_from bytes i (suc count) = word_at bytes i ∷ words_from bytes (suc i) count

-- All whole words of some bytes.
abbrev pub all_words : List ℕ → List ℕ
all_words bytes = words_from bytes 0 (length bytes / word_bytes)

-- The words of an input that may have so many: none for "an input not a multiple of four bytes, or over the length". (A sheet
-- with no words is refusal 1, as document 01 asks for such an input.)
unfoldable pub loaded : ℕ → List ℕ → List ℕ
loaded most bytes =
    cond (not (eqb (length bytes % word_bytes) 0) || ltb (word_bytes * most) (length bytes)) [] (all_words bytes)

-- The words of an input stand at the front of a table, `count` of them, and the rest of it is as it was. (What `within` says follows;
-- it is what lending the front asks for.)
pub record Loaded (most : ℕ) (bytes before after : List ℕ) (count : ℕ) : Type 0 where
  pub counted : count ≡ length (loaded most bytes)
  pub words : after ≡ loaded most bytes ++ drop count before
  pub within : (count ≤ length after) × (count ≡ length (take count after))
