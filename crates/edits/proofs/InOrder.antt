-- The edit put to use with the numbers of document 01's sheet A: which refusal comes first, the words set, and what they change.
-- Assumes nothing.
use mathlib.Core.Path.{◌≡◌, refl}
use mathlib.Core.List.{[], ◌∷◌}
use Rattle.theory.specs.Sum.{sum, up_to}
use Rattle.model.specs.Refusal.{success, refuse, refuse_if, ◌or_else◌, first_of, outside}
use Rattle.model.specs.Sheet.{cycle, ticks_outside, counts_outside, times_outside, row_wrong, row_refusal, stream_refusal, body_refusal, header_refusal, sheet_refusal}
use Rattle.model.specs.Analysis.{streams_from, outranks, above, most_releases, interference, wait_for, search, verdict, verdict_with}
use Rattle.model.specs.Answers.{unknown_refusal, verdict_answer, one_stream_answer}
use Rattle.model.specs.Bench.{sheet_a}
use Rattle.edits.specs.Edit.{edit_of, other_node_refusal, new_words_refusal, edit_answer, edit_sheet}

-- The order of the refusals, where two and more apply, and their places; 13 also where our node is none of the sheet; the words set; and a
-- wait of ours that changes with them.
pub record InOrder : Type 0 where
  pub old_sheet_first : edit_answer (sheet_a 40 40 61) (edit_of 1 3 1 0 0 0) ≡ refuse 5 1 2
  pub not_mended : edit_answer (sheet_a 40 40 61) (edit_of 1 1 2 60 60 0) ≡ refuse 5 1 2
  pub unknown_before_other : edit_answer (sheet_a 40 40 60) (edit_of 2 1 3 40 40 0) ≡ refuse 8 1 3
  pub unknown_node : edit_answer (sheet_a 40 40 60) (edit_of 3 3 1 0 0 0) ≡ refuse 8 3 1
  pub node_zero : edit_answer (sheet_a 40 40 60) (edit_of 0 0 1 40 40 0) ≡ refuse 8 0 1
  pub other_before_words : edit_answer (sheet_a 40 40 60) (edit_of 2 1 2 0 0 0) ≡ refuse 13 1 2
  pub ours_is_none : edit_answer (sheet_a 40 40 60) (edit_of 3 2 1 40 40 0) ≡ refuse 13 2 1
  pub bad_period : edit_answer (sheet_a 40 40 60) (edit_of 1 1 2 0 0 0) ≡ refuse 5 1 2
  pub bad_deadline : edit_answer (sheet_a 40 40 60) (edit_of 1 1 2 50 51 0) ≡ refuse 5 1 2
  pub bad_jitter : edit_answer (sheet_a 40 40 60) (edit_of 2 2 1 50 50 50) ≡ refuse 5 2 1
  pub at_edges : edit_answer (sheet_a 40 40 60) (edit_of 2 2 1 50 50 49) ≡ success 0 0
  pub first_set : edit_sheet (sheet_a 40 40 60) (edit_of 1 1 1 33 32 3) ≡ 2 ∷ 5 ∷ 1 ∷ 9 ∷ 2 ∷ 1 ∷ 15 ∷ 1 ∷ 2 ∷ 33 ∷ 32 ∷ 3 ∷ 60 ∷ 60 ∷ 0 ∷ 30 ∷ 30 ∷ 0 ∷ []
  pub last_set : edit_sheet (sheet_a 40 40 60) (edit_of 2 2 1 50 45 3) ≡ 2 ∷ 5 ∷ 1 ∷ 9 ∷ 2 ∷ 1 ∷ 15 ∷ 1 ∷ 2 ∷ 40 ∷ 40 ∷ 0 ∷ 60 ∷ 60 ∷ 0 ∷ 50 ∷ 45 ∷ 3 ∷ []
  pub refused_kept : edit_sheet (sheet_a 40 40 60) (edit_of 1 1 2 50 51 0) ≡ sheet_a 40 40 60
  pub own_before : one_stream_answer (sheet_a 40 40 60) 1 2 ≡ success 33 2
  pub own_after : one_stream_answer (edit_sheet (sheet_a 40 40 60) (edit_of 1 1 1 33 33 0)) 1 2 ≡ success 50 3

pub in_order : InOrder
unfolding
    sum up_to refuse_if ◌or_else◌ first_of outside cycle ticks_outside counts_outside times_outside row_wrong row_refusal stream_refusal body_refusal header_refusal sheet_refusal
    streams_from outranks above most_releases interference wait_for search verdict verdict_with unknown_refusal verdict_answer one_stream_answer
    sheet_a other_node_refusal new_words_refusal edit_answer edit_sheet
in_order =
    record {
      old_sheet_first = refl;
      not_mended = refl;
      unknown_before_other = refl;
      unknown_node = refl;
      node_zero = refl;
      other_before_words = refl;
      ours_is_none = refl;
      bad_period = refl;
      bad_deadline = refl;
      bad_jitter = refl;
      at_edges = refl;
      first_set = refl;
      last_set = refl;
      refused_kept = refl;
      own_before = refl;
      own_after = refl;
    }
