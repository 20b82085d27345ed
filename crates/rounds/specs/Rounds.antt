-- "Find the budgets": rows of budgets, whether a row admits a sheet, and the rounds. Rules 3.5 and 3.6. Assumes nothing.
use Rattle.std.specs.Prelude.{ℕ, zero, suc, pred, ◌+◌, ◌-◌, ◌*◌, ◌≡◌, Bool, true, false, cond, ◌&&◌, not, List, ltb, leb, eqb}
use Rattle.theory.specs.Sum.{sum_to}
use Rattle.theory.specs.Listing.{values_from}
use Rattle.model.specs.declared.Answer.{Answer}
use Rattle.model.specs.Limits.{max_nodes, max_budget}
use Rattle.model.specs.Refusal.{refuse, refuse_if, first_of}
use Rattle.model.specs.Sheet.{word, nodes, budget, message_ticks, slot_ticks, cycle_ticks}
use Rattle.model.specs.Answers.{node_late_with}

-- The budget of node k in a "row": one word a node, in node order.
abbrev pub budget_in : List ℕ → ℕ → ℕ
budget_in row k = word row (pred k)

-- "the row's sum", over the nodes of the sheet.
abbrev pub row_sum : List ℕ → List ℕ → ℕ
row_sum s row = sum_to (budget_in row) (nodes s)

-- "its C": the full cycle with the row's budgets.
abbrev pub row_cycle : List ℕ → List ℕ → ℕ
row_cycle s row = cycle_ticks (row_sum s row) (message_ticks s) (nodes s) (slot_ticks s)

-- Refusal 7 of node k's streams with the row's budgets and its C: the late test that admit makes with the sheet's own.
abbrev pub late_with : List ℕ → List ℕ → ℕ → Answer
late_with s row k = node_late_with s (row_cycle s row) (budget_in row k) k

-- A row "admits the sheet": with it and its C no stream is late.
abbrev pub Admits : List ℕ → List ℕ → Type 0
Admits s row = (first_of (late_with s row) 1 (nodes s)).number ≡ 0

-- Node k is one "with a late stream".
abbrev pub has_late : List ℕ → List ℕ → ℕ → Bool
has_late s row k = not (eqb (late_with s row k).number 0)

-- A row of sixteen words: a budget for each node of the sheet, "those past n as 0".
abbrev pub row_of : List ℕ → (ℕ → ℕ) → List ℕ
row_of s budgets = values_from (λ k. cond (ltb (nodes s) k) 0 (budgets k)) 1 max_nodes

-- The sheet's own budgets as a row.
abbrev pub own_row : List ℕ → List ℕ
own_row s = row_of s (budget s)

-- "start with budget 1 everywhere".
unfoldable pub first_row : List ℕ → List ℕ
first_row s = row_of s (λ k. 1)

-- The budget of node k after a round: "give one more to every node with a late stream".
abbrev pub raised_budget : List ℕ → List ℕ → ℕ → ℕ
raised_budget s row k = cond (has_late s row k) (suc (budget_in row k)) (budget_in row k)

-- The row after a round, "judged by" the row before it.
unfoldable pub raised : List ℕ → List ℕ → List ℕ
raised s row = row_of s (raised_budget s row)

-- Refusal 11 of one node: it has a late stream, and its "budget is already 16".
unfoldable pub full_refusal : List ℕ → List ℕ → ℕ → Answer
full_refusal s row k = refuse_if (has_late s row k && leb max_budget (budget_in row k)) (refuse 11 k 0)

-- Refusal 11 in a round: "the first late node whose budget is already 16".
unfoldable pub stuck_refusal : List ℕ → List ℕ → Answer
stuck_refusal s row = first_of (full_refusal s row) 1 (nodes s)

-- A round is to come: some stream is late, and no late node has 16 already.
unfoldable pub goes_on : List ℕ → List ℕ → Bool
goes_on s row = not (eqb (first_of (late_with s row) 1 (nodes s)).number 0) && eqb (stuck_refusal s row).number 0

-- The row after so many rounds at most, "until none is late" or "the earliest round that has one".
unfoldable pub rounds : List ℕ → ℕ → List ℕ → List ℕ
rounds s zero row = row
rounds s (suc more) row =
    elim (goes_on s row) [
      | true ↦ rounds s more (raised s row)
      | false ↦ row
    ]

-- Each round raises a budget, so that these are enough: sixteen nodes, from 1 to 16, and one round that raises none.
abbrev pub max_rounds : ℕ
max_rounds = max_nodes * (max_budget - 1) + 1

-- The row in which the rounds end.
unfoldable pub last_row : List ℕ → List ℕ
last_row s = rounds s max_rounds (first_row s)
