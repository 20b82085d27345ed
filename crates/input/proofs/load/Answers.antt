-- `input::load` meets its contract: the tests that led to each exit say which words the input has, and each turn stores one more.
-- Assumes nothing.
use Prim.Native.Nat.{ℕ, zero-le, ◌%◌, ◌/◌, ◌≤◌, ◌+◌}
use native.Mathlib.Omega.{arith}
use mathlib.Core.Path.{◌≡◌, refl, sym, ap, ◌∙◌}
use mathlib.Core.List.{List, [], ◌∷◌, ◌++◌}
use lib.ListN.{length, drop, set, get_or}
use lib.Seq.{length-take-le}
use Rattle.theory.proofs.Overwriting.{write_next}
use Rattle.std.proofs.lemmas.Bool.Decides.{nat_tests}
use Rattle.std.specs.Int.{w32, from_le_bytes}
use Rattle.input.specs.Input.{word_bytes, word_at, words_from, loaded, Loaded}
use Rattle.input.proofs.Words.{words_length, words_more, chunk_word, uneven, too_long, whole}
use Rattle.input.proofs.load.Goals as goal
use Rattle.input.proofs.load.Goals.{then-not-is_empty-via-then-not-is_empty, then-not-is_empty-via-else-not-is_empty+then-words-chunks}

-- An input with no words leaves the table as it is.
none : (words bytes : List ℕ) → loaded (length words) bytes ≡ [] → Loaded (length words) bytes words words 0
none words bytes e = record { counted = rw e refl; words = rw e refl; within = (zero-le, refl) }

pub returns-then-not-is_empty : goal.returns-then-not-is_empty
returns-then-not-is_empty c =
    let bytes = c.args.bytes.now in
    let words = c.args.words.now in
    let no_words : loaded (length words) bytes ≡ [] = elim c.then-not-is_empty.branch [
      | then-not-is_empty-via-then-not-is_empty w ↦ uneven (length words) bytes (grind (arith, nat_tests))
      | then-not-is_empty-via-else-not-is_empty+then-words-chunks w ↦ too_long (length words) bytes (grind (arith, nat_tests))
    ] in
    none words bytes no_words

pub loop-i-init : goal.loop-i-init
unfolding words_from
loop-i-init c = refl

pub loop-i-preserved : goal.loop-i-preserved
loop-i-preserved c =
    let bytes = c.args.bytes.now in
    let old = c.args.words.now in
    let i = c.loop-i.i in
    let before = words_from bytes 0 i in
    let word : c.from_le_bytes.result ≡ word_at bytes i =
    c.from_le_bytes.ensures
    ∙ ap (λ (chunks : List (List ℕ)). from_le_bytes w32 (get_or chunks i [])) c.as_chunks.ensures.front
    ∙ chunk_word bytes _ i [] (omega arith)
    in
    ap (λ l. set l i c.from_le_bytes.result) c.loop-i.invariant
    ∙ write_next before old i c.from_le_bytes.result (words_length bytes 0 i) (omega arith)
    ∙ ap (λ l. l ++ drop (i + 1) old) (ap (λ w. before ++ (w ∷ [])) word ∙ sym (words_more bytes i))

pub returns : goal.returns
returns c =
    let bytes = c.args.bytes.now in
    let words = c.args.words.now in
    let stored = c.loop-i.words in
    let count = length c.as_chunks.result.0.now in
    let even : length bytes % word_bytes ≡ 0 = grind (arith, nat_tests) in
    let all = whole (length words) bytes even (omega arith) in
    let done : c.loop-i.i ≡ length bytes / word_bytes = omega arith in
    let room : count ≤ length stored = omega arith in
    record {
      counted = rw (all, words_length bytes 0 (length bytes / word_bytes)) c.as_chunks.ensures.front_len;
      words = rw all (rw (c.as_chunks.ensures.front_len, ← done) c.loop-i.invariant);
      within = (room, sym (length-take-le count stored room));
    }
