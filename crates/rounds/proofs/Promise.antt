-- What request Five says holds of what is answered and written; and admit's own test is that of the sheet's own row. Assumes nothing.
use Prim.Native.Nat.{ℕ, pred, ◌+◌, ◌≤◌, ◌<◌}
use native.Mathlib.Nat.{le_refl}
use native.Mathlib.Decide.{ℕ_discrete}
use native.Mathlib.Omega.{arith}
use mathlib.Core.Path.{◌≡◌, refl, sym, ap, ap₂, ◌∙◌}
use mathlib.Core.Logic.{◌↔◌}
use mathlib.Core.List.{List}
use lib.ListN.{length, get_or-append}
use borrow.Author.Tests.{le-ltb}
use Rattle.theory.proofs.Sums.{sum_to_same}
use Rattle.model.specs.declared.Answer.{Answer}
use Rattle.model.specs.Limits.{max_nodes}
use Rattle.model.specs.Refusal.{success, refuse, ◌or_else◌, first_of}
use Rattle.model.specs.Sheet.{word, nodes, budget, budgets_up_to, message_ticks, slot_ticks, cycle, cycle_ticks, total_streams, sheet_refusal, Valid}
use Rattle.model.specs.Answers.{room_refusal, node_late_refusal, node_late_with, admit_answer}
use Rattle.model.proofs.Sheet.Refusals.{or_else_on, or_else_stop, or_else_both, or_else_none, refuse_if_not, first_none, first_all}
use Rattle.model.proofs.Sheet.ValidSheet.{SheetFits, valid_fits}
use Rattle.model.proofs.Answers.Buffer.{buffer_written}
use Rattle.rounds.specs.Rounds.{budget_in, row_sum, row_cycle, late_with, Admits, first_row, raised_budget, raised, own_row, stuck_refusal, max_rounds, last_row}
use Rattle.rounds.specs.Answer.{find_answer, find_buffer}
use Rattle.rounds.specs.Least.{OneToSixteen, LeastBudgets}
use Rattle.rounds.proofs.Rows.{row_in, row_sixteen}
use Rattle.rounds.proofs.Settling.{rounds_keep}
use Rattle.rounds.proofs.Least.{last_range, last_under, last_admits, stuck_none, stuck_eleven}

-- Two rows with the same budgets for the nodes of the sheet.
abbrev SameBudgets : List ℕ → List ℕ → List ℕ → Type 0
SameBudgets s row other = (k : ℕ) → 1 ≤ k → k ≤ nodes s → budget_in row k ≡ budget_in other k

-- One admits the sheet where the other does.
alike_admits : (s row other : List ℕ) → SameBudgets s row other → Admits s row → Admits s other
alike_admits s row other same admits =
    let sums : row_sum s row ≡ row_sum s other = sum_to_same (budget_in row) (budget_in other) (nodes s) same in
    let cycles : row_cycle s row ≡ row_cycle s other = ap (λ n. cycle_ticks n (message_ticks s) (nodes s) (slot_ticks s)) sums in
    first_all (late_with s other) 1 (nodes s)
    (λ k low high.
    let here : budget_in row k ≡ budget_in other k = same k low (omega arith) in
    ap (λ (a : Answer). a.number) (sym (ap₂ (λ C m. node_late_with s C m k) cycles here))
    ∙ first_none (late_with s row) 1 (nodes s) admits k low high)

-- The last row has sixteen words.
last_length : (s : List ℕ) → nodes s ≤ max_nodes → length (last_row s) ≡ max_nodes
unfolding last_row first_row raised
last_length s few =
    rounds_keep s few (λ row. length row ≡ max_nodes) (λ row on e. row_sixteen s (raised_budget s row)) max_rounds (first_row s) (row_sixteen s (λ k. 1))

-- A row that has the sheet's own budgets makes the test that admit makes.
own_late : (s row : List ℕ) (k : ℕ)
    → ((i : ℕ) → 1 ≤ i → i ≤ nodes s → budget_in row i ≡ budget s i)
    → 1 ≤ k
    → k ≤ nodes s
    → late_with s row k ≡ node_late_refusal s k
unfolding cycle
own_late s row k same one inside =
    let sums : row_sum s row ≡ budgets_up_to s (nodes s) = sum_to_same (budget_in row) (budget s) (nodes s) same in
    ap₂ (λ n m. node_late_with s (cycle_ticks n (message_ticks s) (nodes s) (slot_ticks s)) m k) sums (same k one inside)

-- So the sheet's own row admits the sheet exactly where admit does.
pub own_admits : (s : List ℕ) (room : ℕ) → Valid s → total_streams s ≤ room → ((admit_answer s room).number ≡ 0) ↔ Admits s (own_row s)
unfolding admit_answer room_refusal
own_admits s room valid enough =
    let late = first_of (node_late_refusal s) 1 (nodes s) in
    let rooms = room_refusal (total_streams s) room in
    let passes : rooms.number ≡ 0 = ap (λ (a : Answer). a.number) (refuse_if_not (refuse 6 0 0) (le-ltb room (total_streams s) enough)) in (
      λ taken. first_all (late_with s (own_row s)) 1 (nodes s) (λ k low high. number_of k low high ∙ first_none (node_late_refusal s) 1 (nodes s) (or_else_both late _ (or_else_both rooms _ (or_else_both (sheet_refusal s) _ taken).1).1).0 k low high),
      λ admits.
          or_else_none (sheet_refusal s) _ valid
          (or_else_none rooms _ passes
          (or_else_none late (success (total_streams s) (cycle s)) (first_all (node_late_refusal s) 1 (nodes s) (λ k low high. sym (number_of k low high) ∙ first_none (late_with s (own_row s)) 1 (nodes s) admits k low high)) refl)),
    )
  where
    few : nodes s ≤ max_nodes
    few = (valid_fits s valid).header.nodes_to

    number_of : (k : ℕ) → 1 ≤ k → k < 1 + nodes s → (late_with s (own_row s) k).number ≡ (node_late_refusal s k).number
    number_of k low high = ap (λ (a : Answer). a.number) (own_late s (own_row s) k (row_in s (budget s) few) low (omega arith))

module _ (s room : List ℕ) (valid : Valid s) (enough : max_nodes ≤ length room) where
  fits : SheetFits s
  fits = valid_fits s valid

  -- With room enough the answer is refusal 11, or success.
  answers : find_answer s (length room) ≡ stuck_refusal s (last_row s) or_else success (row_sum s (last_row s)) (row_cycle s (last_row s))
  unfolding find_answer room_refusal
  answers =
      or_else_on (sheet_refusal s) _ valid
      ∙ or_else_on (room_refusal max_nodes (length room)) _
      (ap (λ (a : Answer). a.number) (refuse_if_not (refuse 6 0 0) (le-ltb (length room) max_nodes enough)))

  -- A success leaves the row in the first words.
  row_written : (find_answer s (length room)).number ≡ 0 → SameBudgets s (last_row s) (find_buffer s room)
  unfolding find_buffer
  row_written passes k one inside =
      let few = fits.header.nodes_to in
      let place : pred k < length (last_row s) = omega (arith, last_length s few, few) in
      sym
      (ap (λ ws. word ws (pred k)) (sym (buffer_written (find_answer s (length room)) (last_row s) room passes))
      ∙ get_or-append (last_row s) _ 0 (pred k) place)

  pub least_budgets : LeastBudgets s (find_answer s (length room)) (find_buffer s room)
  least_budgets = go (ℕ_discrete (stuck_refusal s (last_row s)).number 0)
    where
      own_range : OneToSixteen s (own_row s)
      own_range k one inside = let r = fits.rows k one inside in rw (row_in s (budget s) fits.header.nodes_to k one inside) (r.budget_from, r.budget_to)

      go : Dec ((stuck_refusal s (last_row s)).number ≡ 0) → LeastBudgets s (find_answer s (length room)) (find_buffer s room)
      go (yes none) =
          let zero : (find_answer s (length room)).number ≡ 0 = ap (λ (a : Answer). a.number) (answers ∙ or_else_on (stuck_refusal s (last_row s)) _ none) in
          let same = row_written zero in
          let admits = alike_admits s (last_row s) (find_buffer s room) same (last_admits s fits none) in
          let range : OneToSixteen s (find_buffer s room) = λ k one inside. rw (← same k one inside) (last_range s fits k one inside) in
          record {
            range = λ e. range;
            admits = λ e. admits;
            least = λ e row within does k one inside. rw (← same k one inside) (last_under s fits row within does k one inside);
            complete = λ row within does. omega (arith, zero);
            none = (λ e. absurd (omega arith), λ nothing. absurd (nothing (find_buffer s room) range admits));
            own = λ taken. (
              zero,
              λ k one inside. rw (← row_in s (budget s) fits.header.nodes_to k one inside, ← same k one inside) (last_under s fits (own_row s) own_range ((own_admits s (total_streams s) valid (le_refl _)).0 taken) k one inside),
            );
          }
      go (no refuses) =
          let eleven : (find_answer s (length room)).number ≡ 11 = ap (λ (a : Answer). a.number) (answers ∙ or_else_stop (stuck_refusal s (last_row s)) _ refuses) ∙ stuck_eleven s fits refuses in
          record {
            range = λ e. absurd (omega arith);
            admits = λ e. absurd (omega arith);
            least = λ e. absurd (omega arith);
            complete = λ row within does. absurd (stuck_none s fits refuses row within does);
            none = (λ e. stuck_none s fits refuses, λ nothing. eleven);
            own = λ taken. absurd (stuck_none s fits refuses (own_row s) own_range ((own_admits s (total_streams s) valid (le_refl _)).0 taken));
          }
