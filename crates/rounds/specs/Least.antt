-- What holds of the budgets that are found. Rule 3.7. Assumes nothing.
use Rattle.std.specs.Prelude.{ℕ, ◌≤◌, ◌≡◌, ◌↔◌, List}
use Rattle.model.specs.declared.Answer.{Answer}
use Rattle.model.specs.Limits.{max_budget}
use Rattle.model.specs.Sheet.{nodes, budget, total_streams}
use Rattle.model.specs.Answers.{admit_answer}
use Rattle.rounds.specs.Rounds.{budget_in, Admits}

-- A row has "budgets from 1 to 16" for the nodes of the sheet.
abbrev pub OneToSixteen : List ℕ → List ℕ → Type 0
OneToSixteen s row = (k : ℕ) → 1 ≤ k → k ≤ nodes s → (1 ≤ budget_in row k) × (budget_in row k ≤ max_budget)

-- No node has less in the second row.
abbrev pub AtMost : List ℕ → List ℕ → List ℕ → Type 0
AtMost s row other = (k : ℕ) → 1 ≤ k → k ≤ nodes s → budget_in row k ≤ budget_in other k

-- What request Five says of a valid sheet, the answer, and the words of the buffer afterwards.
pub record LeastBudgets (s : List ℕ) (answer : Answer) (words : List ℕ) : Type 0 where
  -- "the row found admits it", and is itself one of 1 to 16
  pub range : answer.number ≡ 0 → OneToSixteen s words
  pub admits : answer.number ≡ 0 → Admits s words
  -- "and no node has less in any other row that does"
  pub least : answer.number ≡ 0 → (row : List ℕ) → OneToSixteen s row → Admits s row → AtMost s words row
  -- "If any budgets from 1 to 16 admit the sheet", one is found
  pub complete : (row : List ℕ) → OneToSixteen s row → Admits s row → answer.number ≡ 0
  -- 11 "exactly if no row works"
  pub none : (answer.number ≡ 11) ↔ ((row : List ℕ) → OneToSixteen s row → Admits s row → ⊥)
  -- a sheet that admit takes with its own budgets needs no more of any
  pub own : (admit_answer s (total_streams s)).number ≡ 0 → (answer.number ≡ 0) × ((k : ℕ) → 1 ≤ k → k ≤ nodes s → budget_in words k ≤ budget s k)
