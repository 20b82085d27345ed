-- The two numbers of a success. Assumes nothing.
use Rattle.model.specs.declared.Answer.{Answer}
use Rattle.model.specs.Refusal.{success}
use Rattle.budgets.specs.declared.LeastRow.{LeastRow}

-- "the row's sum" and "its C".
abbrev pub row_numbers : LeastRow → Answer
row_numbers found = success found.sum found.cycle
