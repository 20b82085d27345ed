-- Independence and kept answers put to use, with the numbers of document 01's sheet A: what a weaker promise would not give. Assumes nothing.
use Prim.Native.Nat.{ℕ, zero, suc, ◌≤◌}
use native.Mathlib.Nat.{suc-ne-zero}
use native.Mathlib.Omega.{arith}
use mathlib.Core.Path.{◌≡◌, refl}
use mathlib.Core.List.{List, [], ◌∷◌}
use Rattle.theory.specs.Sum.{sum, up_to}
use Rattle.model.specs.Refusal.{success, refuse, refuse_if, ◌or_else◌, first_of, outside}
use Rattle.model.specs.Sheet.{budget, cycle, ticks_outside, counts_outside, times_outside, row_wrong, row_refusal, stream_refusal, body_refusal, header_refusal, sheet_refusal, Valid}
use Rattle.model.specs.Analysis.{streams_from, outranks, above, most_releases, interference, wait_for, search, verdict, verdict_with}
use Rattle.model.specs.Answers.{unknown_refusal, verdict_answer, one_stream_answer}
use Rattle.model.specs.Bench.{sheet_a}
use Rattle.edits.specs.Alike.{Alike, SameAnswers}
use Rattle.edits.specs.Edit.{OthersKept}
use Rattle.edits.proofs.Independence.{independence}

-- What sheet A, with deadline 38 for both streams of node 1, answers on them: a wait at J, a late stream, and no third one.
pub record AsOnA (t : List ℕ) : Type 0 where
  pub listed : one_stream_answer t 1 1 ≡ success 16 1
  pub late : one_stream_answer t 1 2 ≡ refuse 7 1 2
  pub no_third : one_stream_answer t 1 3 ≡ refuse 8 1 3

abbrev pub A : List ℕ
A = sheet_a 40 38 38

-- Its own answers, and that on node 2's stream.
pub on_a : AsOnA A × (one_stream_answer A 2 1 ≡ success 16 1)
unfolding
    sum up_to refuse_if ◌or_else◌ first_of outside cycle ticks_outside counts_outside times_outside row_wrong row_refusal stream_refusal body_refusal header_refusal sheet_refusal
    streams_from outranks above most_releases interference wait_for search verdict verdict_with unknown_refusal verdict_answer one_stream_answer sheet_a
on_a = (record { listed = refl; late = refl; no_third = refl }, refl)

pub valid_a_lem : Valid A
unfolding
    sum up_to refuse_if ◌or_else◌ first_of outside ticks_outside counts_outside times_outside row_wrong row_refusal stream_refusal body_refusal header_refusal sheet_refusal sheet_a
valid_a_lem = refl

-- Same answers are these.
as_a : (t : List ℕ) → SameAnswers A t 1 → AsOnA t
as_a t same =
    record {
      listed = rw (← same 1) on_a.0.listed;
      late = rw (← same 2) on_a.0.late;
      no_third = rw (← same 3) on_a.0.no_third;
    }

-- Every valid sheet that is alike for node 1 gives them, whatever node 2 has;
pub alike_a : (t : List ℕ) → Valid t → Alike A t 1 → AsOnA t
alike_a t valid alike = as_a t (independence A t 1 valid_a_lem valid alike)

-- so does the sheet after node 2's party has edited it, whatever it set.
pub kept_a : (after : List ℕ) → OthersKept A after 2 → AsOnA after
kept_a after kept = as_a after (kept 1 (λ e. suc-ne-zero 0 (omega (arith, e))))

-- Two such sheets: with three other streams in node 2 in place of its one, and with none.
abbrev pub crowded : List ℕ
crowded = 2 ∷ 5 ∷ 1 ∷ 9 ∷ 2 ∷ 1 ∷ 15 ∷ 3 ∷ 2 ∷ 40 ∷ 38 ∷ 0 ∷ 60 ∷ 38 ∷ 0 ∷ 7 ∷ 7 ∷ 6 ∷ 8 ∷ 1 ∷ 0 ∷ 9 ∷ 9 ∷ 0 ∷ []

abbrev pub empty : List ℕ
empty = 2 ∷ 5 ∷ 1 ∷ 9 ∷ 2 ∷ 1 ∷ 15 ∷ 0 ∷ 2 ∷ 40 ∷ 38 ∷ 0 ∷ 60 ∷ 38 ∷ 0 ∷ []

two_budgets : (t : List ℕ) → budget A 1 ≡ budget t 1 → budget A 2 ≡ budget t 2 → (i : ℕ) → 1 ≤ i → i ≤ 2 → budget A i ≡ budget t i
two_budgets t one two zero low high = absurd (omega arith)
two_budgets t one two (suc zero) low high = one
two_budgets t one two (suc (suc zero)) low high = two
two_budgets t one two (suc (suc (suc i))) low high = absurd (omega arith)

pub with_crowded : Valid crowded × Alike A crowded 1
unfolding
    sum up_to refuse_if ◌or_else◌ first_of outside ticks_outside counts_outside times_outside row_wrong row_refusal stream_refusal body_refusal header_refusal sheet_refusal
    streams_from sheet_a
with_crowded = (refl, record { same_nodes = refl; same_message = refl; same_slot = refl; same_budgets = two_budgets crowded refl refl; same_streams = refl })

pub with_empty : Valid empty × Alike A empty 1
unfolding
    sum up_to refuse_if ◌or_else◌ first_of outside ticks_outside counts_outside times_outside row_wrong row_refusal stream_refusal body_refusal header_refusal sheet_refusal
    streams_from sheet_a
with_empty = (refl, record { same_nodes = refl; same_message = refl; same_slot = refl; same_budgets = two_budgets empty refl refl; same_streams = refl })

-- A sheet whose node 1 has no streams, so that node 2's body stands elsewhere than on A: its stream waits as there.
abbrev pub moved : List ℕ
moved = 2 ∷ 5 ∷ 1 ∷ 9 ∷ 0 ∷ 1 ∷ 9 ∷ 1 ∷ 2 ∷ 30 ∷ 30 ∷ 0 ∷ []

pub with_moved : Valid moved × Alike A moved 2
unfolding
    sum up_to refuse_if ◌or_else◌ first_of outside ticks_outside counts_outside times_outside row_wrong row_refusal stream_refusal body_refusal header_refusal sheet_refusal
    streams_from sheet_a
with_moved = (refl, record { same_nodes = refl; same_message = refl; same_slot = refl; same_budgets = two_budgets moved refl refl; same_streams = refl })
