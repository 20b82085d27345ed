-- "Find the budgets" with numbers: what the definitions answer on two lines, and what request Five, whoever keeps it, says there.
-- Assumes nothing.
use Prim.Native.Nat.{ℕ, zero, suc, ◌≤◌}
use native.Mathlib.Nat.{le_refl}
use native.Mathlib.Omega.{arith}
use mathlib.Core.Path.{◌≡◌, refl, ap}
use mathlib.Core.List.{List, [], ◌∷◌}
use lib.ListN.{replicate}
use Rattle.theory.specs.Sum.{sum, up_to}
use Rattle.theory.specs.Listing.{values_from, joined_from}
use Rattle.model.specs.declared.Answer.{Answer}
use Rattle.model.specs.Refusal.{success, refuse, refuse_if, ◌or_else◌, first_of, outside}
use Rattle.model.specs.Sheet.{cycle, ticks_outside, counts_outside, times_outside, row_wrong, row_refusal, stream_refusal, body_refusal, header_refusal, sheet_refusal, total_streams, Valid}
use Rattle.model.specs.Analysis.{streams_from, outranks, above, most_releases, interference, wait_for, search, verdict, verdict_with}
use Rattle.model.specs.Answers.{room_refusal, late_refusal, node_late_with, buffer_after, admit_answer}
use Rattle.model.specs.Bench.{sheet_a, sheet_jitter}
use Rattle.rounds.specs.Rounds.{budget_in, own_row, Admits, first_row, raised, full_refusal, stuck_refusal, goes_on, rounds, last_row}
use Rattle.rounds.specs.Answer.{find_answer, find_buffer}
use Rattle.rounds.specs.Least.{OneToSixteen, LeastBudgets}
use Rattle.rounds.proofs.Promise.{least_budgets, own_admits}

-- "Sheet A".
unfoldable pub A : List ℕ
A = sheet_a 40 40 60

-- A controller of four streams, the third with the deadline `due`, a burner of two and a recorder of two; its budgets are 2, 1 and 4.
unfoldable pub line : ℕ → List ℕ
line due =
    3 ∷ 5 ∷ 1 ∷ 12 ∷ 4 ∷ 2 ∷ 24 ∷ 2 ∷ 1 ∷ 30 ∷ 2 ∷ 4 ∷ 200 ∷ 59 ∷ 0 ∷ 500 ∷ 69 ∷ 0 ∷ 1000 ∷ due ∷ 0 ∷ 400 ∷ 69 ∷ 0 ∷ 250 ∷ 39 ∷ 0 ∷ 1000 ∷ 49 ∷ 0
    ∷ 1000 ∷ 1000 ∷ 0 ∷ 10_000 ∷ 10_000 ∷ 0 ∷ []

-- What is answered and written.
pub record Cases : Type 0 where
  -- "For sheet A: row 1, 1 and the numbers 0, 2, 12", the fourteen words past n as 0, and the room past sixteen as it was
  pub answer_a : find_answer A 17 ≡ success 2 12
  pub row_a : find_buffer A (replicate 17 9) ≡ (1 ∷ 1 ∷ 0 ∷ 0 ∷ 0 ∷ 0 ∷ 0 ∷ 0 ∷ 0 ∷ 0 ∷ 0 ∷ 0 ∷ 0 ∷ 0 ∷ 0 ∷ 0 ∷ 9 ∷ [])
  -- refused 7 with its own budgets; 2, 2 and 1 make it run
  pub refused : admit_answer (line 49) 8 ≡ refuse 7 1 2
  pub answer_line : find_answer (line 49) 16 ≡ success 5 28
  pub row_line : find_buffer (line 49) (replicate 16 9) ≡ (2 ∷ 2 ∷ 1 ∷ 0 ∷ 0 ∷ 0 ∷ 0 ∷ 0 ∷ 0 ∷ 0 ∷ 0 ∷ 0 ∷ 0 ∷ 0 ∷ 0 ∷ 0 ∷ [])
  -- the sheet is read before the room, and 6 comes before 11, whatever n is; no row works
  pub unread : find_answer [] 0 ≡ refuse 1 0 0
  pub stuck : find_answer (line 19) 16 ≡ refuse 11 1 0
  pub short : find_answer (line 19) 15 ≡ refuse 6 0 0
  -- the rounds judge with jitter: with the second stream's own to the tick, and with that of the one above it
  pub with_jitter : find_answer (sheet_jitter 0 31) 16 ≡ success 2 12
  pub raised_by_jitter : find_answer (sheet_jitter 0 32) 16 ≡ success 3 17
  pub stuck_by_jitter : find_answer (sheet_jitter 0 34) 16 ≡ refuse 11 1 0
  pub jitter_above : find_answer (sheet_jitter 16 20) 16 ≡ success 2 12
  pub stuck_by_above : find_answer (sheet_jitter 17 20) 16 ≡ refuse 11 1 0

pub cases : Cases
unfolding
    A line sheet_a sheet_jitter sum up_to values_from joined_from
    refuse_if ◌or_else◌ first_of outside
    cycle ticks_outside counts_outside times_outside row_wrong row_refusal stream_refusal body_refusal header_refusal sheet_refusal
    streams_from outranks above most_releases interference wait_for search verdict verdict_with
    room_refusal late_refusal node_late_with buffer_after admit_answer
    first_row raised full_refusal stuck_refusal goes_on rounds last_row find_answer find_buffer
cases =
    record {
      answer_a = refl;
      row_a = refl;
      refused = refl;
      answer_line = refl;
      row_line = refl;
      unread = refl;
      stuck = refl;
      short = refl;
      with_jitter = refl;
      raised_by_jitter = refl;
      stuck_by_jitter = refl;
      jitter_above = refl;
      stuck_by_above = refl;
    }

-- Both sheets are valid, and what else computes of them.
record Facts : Type 0 where
  valid_a : Valid A
  ones_a : Admits A (1 ∷ 1 ∷ [])
  own_a : (admit_answer A (total_streams A)).number ≡ 0
  valid_line : Valid (line 19)
  valid_own : Valid (line 49)
  eight : total_streams (line 49) ≤ 8

facts : Facts
unfolding
    A line sheet_a sum up_to values_from joined_from
    refuse_if ◌or_else◌ first_of outside
    cycle ticks_outside counts_outside times_outside row_wrong row_refusal stream_refusal body_refusal header_refusal sheet_refusal
    streams_from outranks above most_releases interference wait_for search verdict verdict_with
    room_refusal late_refusal node_late_with buffer_after admit_answer
facts = record { valid_a = refl; ones_a = refl; own_a = refl; valid_line = refl; valid_own = refl; eight = le_refl 8 }

-- A number from 1 to n is one of them.
one_or_two : (P : ℕ → Type 0) (k : ℕ) → P 1 → P 2 → 1 ≤ k → k ≤ 2 → P k
one_or_two P zero first second one inside = absurd (omega arith)
one_or_two P (suc zero) first second one inside = first
one_or_two P (suc (suc zero)) first second one inside = second
one_or_two P (suc (suc (suc k))) first second one inside = absurd (omega arith)

module _ (answer : Answer) (words : List ℕ) where
  -- On sheet A whatever keeps request Five finds the row 1, 1: it admits the sheet, so that one is found, and none is less.
  pub least_a : LeastBudgets A answer words → (answer.number ≡ 0) × ((budget_in words 1 ≡ 1) × (budget_in words 2 ≡ 1))
  unfolding A sheet_a
  least_a five =
      let ones : OneToSixteen A (1 ∷ 1 ∷ []) = λ k one inside. one_or_two (λ i. (1 ≤ budget_in (1 ∷ 1 ∷ []) i) × (budget_in (1 ∷ 1 ∷ []) i ≤ 16)) k (omega arith, omega arith) (omega arith, omega arith) one inside in
      let found = five.complete (1 ∷ 1 ∷ []) ones facts.ones_a in
      let most = five.least found (1 ∷ 1 ∷ []) ones facts.ones_a in
      let range = five.range found in (
        found,
        (
          omega (arith, most 1 (omega arith) (omega arith), (range 1 (omega arith) (omega arith)).0),
          omega (arith, most 2 (omega arith) (omega arith), (range 2 (omega arith) (omega arith)).0),
        ),
      )

  -- It needs no more than sheet A has, admits it, and is of 1 to 16.
  pub own_a_lem : LeastBudgets A answer words → Admits A words × ((budget_in words 2 ≤ 2) × (budget_in words 1 ≤ 16))
  unfolding A sheet_a
  own_a_lem five =
      let own = five.own facts.own_a in
      (five.admits own.0, (own.1 2 (omega arith) (omega arith), (five.range own.0 1 (omega arith) (omega arith)).1))

  -- Where no row works it says so.
  pub none_line : LeastBudgets (line 19) answer words → answer.number ≡ 11
  none_line five =
      let room : List ℕ = replicate 16 9 in
      let ours = least_budgets (line 19) room facts.valid_line (omega arith) in
      five.none.1 (ours.none.0 (ap (λ (a : Answer). a.number) cases.stuck))

-- The line's own row, 2, 1 and 4, does not admit it: admit refuses it.
pub own_line : Admits (line 49) (own_row (line 49)) → ⊥
own_line admits =
    let taken = (own_admits (line 49) 8 facts.valid_own facts.eight).1 admits in
    omega (arith, taken, ap (λ (a : Answer). a.number) cases.refused)
