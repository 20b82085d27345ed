-- Reading and writing put to use, with the numbers of a sheet like A: what a weaker promise would not give. Assumes nothing.
use Prim.Native.Nat.{ℕ, ◌≤◌}
use mathlib.Core.Path.{◌≡◌, refl, sym, ◌∙◌, ap}
use mathlib.Core.List.{List, [], ◌∷◌}
use lib.ListN.{length, take}
use Rattle.theory.specs.Sum.{sum, up_to}
use Rattle.theory.specs.Listing.{values_from, joined_from}
use Rattle.model.specs.declared.Answer.{Answer}
use Rattle.model.specs.Refusal.{success, refuse, refuse_if, ◌or_else◌, first_of, outside}
use Rattle.model.specs.Sheet.{cycle, ticks_outside, counts_outside, times_outside, row_wrong, row_refusal, stream_refusal, body_refusal, header_refusal, sheet_refusal}
use Rattle.model.specs.Answers.{room_refusal}
use Rattle.model.proofs.Sheet.ValidSheet.{valid_fits}
use Rattle.tables.specs.Tables.{Tables, lent_tables}
use Rattle.tables.specs.Writing.{row_of, stream_words_of, written, cycle_of, table_row_refusal, table_stream_refusal, table_body_refusal, contents_refusal, lengths_differ, tables_refusal, write_answer, ReadsBack, WrittenAgain}
use Rattle.tables.proofs.WriteAgain.{written_again}

-- Document 01's sheet A with shorter deadlines in node 1, and with jitters; and its tables.
abbrev A : List ℕ
A = 2 ∷ 5 ∷ 1 ∷ 9 ∷ 2 ∷ 1 ∷ 15 ∷ 1 ∷ 2 ∷ 40 ∷ 39 ∷ 7 ∷ 60 ∷ 58 ∷ 8 ∷ 30 ∷ 30 ∷ 29 ∷ []

abbrev tables_a : Tables
tables_a = lent_tables 5 1 (2 ∷ 1 ∷ []) (1 ∷ 2 ∷ []) (40 ∷ 60 ∷ 30 ∷ []) (39 ∷ 58 ∷ 30 ∷ []) (7 ∷ 8 ∷ 29 ∷ [])

-- Whatever reads back as tables has all words of the sheet that they make:
pub all_words : (t : Tables) (words c : ℕ) (room : List ℕ) → ReadsBack t words c room → take words room ≡ written t
all_words t words c room back =
    sym (written_again (take words room) (valid_fits (take words room) back.valid)) ∙ ap written back.same

-- of that sheet these, and C.
pub record WordsOfA (room : List ℕ) (c : ℕ) : Type 0 where
  pub words : take 18 room ≡ A
  pub full_cycle : c ≡ 17

pub read_back_a : (room : List ℕ) (c : ℕ) → ReadsBack tables_a 18 c room → WordsOfA room c
unfolding sum up_to values_from joined_from cycle row_of stream_words_of written
read_back_a room c back =
    let words = all_words tables_a 18 c room back in
    record { words = words; full_cycle = sym back.same_cycle ∙ ap cycle words }

-- Its tables, written again: its eighteen words, and its C.
pub record AgainA (a : Answer) (after : List ℕ) : Type 0 where
  pub answer : a ≡ success 18 17
  pub words : take 18 after ≡ A

pub again_a : (room after : List ℕ) (a : Answer) → 18 ≤ length room → WrittenAgain tables_a room a after → AgainA a after
unfolding
    sum up_to values_from joined_from cycle refuse_if ◌or_else◌ first_of outside
    ticks_outside counts_outside times_outside row_wrong row_refusal stream_refusal body_refusal header_refusal sheet_refusal
again_a room after a enough again =
    let both = again A refl refl enough in
    record { answer = both.0; words = both.1 }

-- The order of the refusals, where two and more apply, and the room to the word.
pub record InOrder : Type 0 where
  pub nodes_before_ticks : write_answer (lent_tables 0 1 [] (1 ∷ []) [] [] []) 0 ≡ refuse 2 0 0
  pub ticks_before_length : write_answer (lent_tables 5 0 (17 ∷ []) [] [] [] []) 0 ≡ refuse 3 0 0
  pub length_before_row : write_answer (lent_tables 5 1 (17 ∷ []) [] [] [] []) 0 ≡ refuse 4 0 0
  pub row_before_streams : write_answer (lent_tables 5 1 (1 ∷ 17 ∷ []) (1 ∷ 1 ∷ []) [] [] []) 0 ≡ refuse 4 2 0
  pub lengths_before_stream : write_answer (lent_tables 5 1 (1 ∷ []) (1 ∷ []) (10 ∷ []) (11 ∷ 1 ∷ []) (0 ∷ [])) 0 ≡ refuse 4 0 0
  pub jitters_before_stream : write_answer (lent_tables 5 1 (1 ∷ []) (1 ∷ []) (10 ∷ []) (11 ∷ []) []) 0 ≡ refuse 4 0 0
  pub stream_before_room : write_answer (lent_tables 5 1 (1 ∷ 2 ∷ []) (1 ∷ 1 ∷ []) (10 ∷ 10 ∷ 10 ∷ []) (10 ∷ 10 ∷ 11 ∷ []) (0 ∷ 0 ∷ 0 ∷ [])) 0 ≡ refuse 5 2 2
  pub jitter_before_room : write_answer (lent_tables 5 1 (1 ∷ 2 ∷ []) (1 ∷ 1 ∷ []) (10 ∷ 10 ∷ 10 ∷ []) (10 ∷ 10 ∷ 10 ∷ []) (0 ∷ 9 ∷ 10 ∷ [])) 0 ≡ refuse 5 2 2
  pub room_last : write_answer (lent_tables 5 1 (1 ∷ []) (1 ∷ []) (10 ∷ []) (10 ∷ []) (9 ∷ [])) 8 ≡ refuse 6 0 0
  pub exact_room : write_answer (lent_tables 5 1 (1 ∷ []) (1 ∷ []) (10 ∷ []) (10 ∷ []) (9 ∷ [])) 9 ≡ success 9 6

pub in_order : InOrder
unfolding
    sum up_to joined_from refuse_if ◌or_else◌ first_of outside ticks_outside counts_outside times_outside room_refusal
    row_of stream_words_of written cycle_of table_row_refusal table_stream_refusal table_body_refusal contents_refusal lengths_differ tables_refusal write_answer
in_order =
    record {
      nodes_before_ticks = refl;
      ticks_before_length = refl;
      length_before_row = refl;
      row_before_streams = refl;
      lengths_before_stream = refl;
      jitters_before_stream = refl;
      stream_before_room = refl;
      jitter_before_room = refl;
      room_last = refl;
      exact_room = refl;
    }
