-- The rounds as a loop runs them: the rounds from the present row on end where all of them do. Assumes nothing.
use Prim.Native.Nat.{ℕ, zero, suc, ◌+◌, ◌*◌, ◌≤◌, ◌<◌}
use native.Mathlib.Omega.{arith}
use mathlib.Core.Path.{◌≡◌, refl, sym, ◌∙◌}
use mathlib.Core.Bool.{true, false}
use mathlib.Core.List.{List}
use Rattle.theory.proofs.Sums.{sum_to_most}
use Rattle.model.specs.Limits.{max_nodes, max_budget}
use Rattle.model.specs.Sheet.{nodes}
use Rattle.rounds.specs.Rounds.{budget_in, row_sum, first_row, raised_budget, raised, goes_on, rounds, max_rounds, last_row}
use Rattle.rows.specs.Row.{Row}
use Rattle.rounds.proofs.Rows.{row_sixteen, row_past}
use Rattle.rounds.proofs.Settling.{raised_range, raised_more, first_range, first_enough}

module _ (s row : List ℕ) where
  -- With no round left the row stays,
  rounds_none : rounds s 0 row ≡ row
  unfolding rounds
  rounds_none = refl

  -- with one it is raised where one is to come,
  rounds_on : (more : ℕ) → goes_on s row ≡ true → rounds s (suc more) row ≡ rounds s more (raised s row)
  unfolding rounds
  rounds_on more on = rw (on, rounds) refl

  -- and stays where none is.
  rounds_off : (more : ℕ) → goes_on s row ≡ false → rounds s (suc more) row ≡ row
  unfolding rounds
  rounds_off more off = rw (off, rounds) refl

-- The rounds have come to this row: from it on they end where all of them do, and enough are left.
pub record Running (s row : List ℕ) : Type 0 where
  pub shape : Row s row
  pub more : ℕ
  pub same : rounds s more row ≡ last_row s
  pub enough : nodes s * max_budget < row_sum s row + more

module _ (s : List ℕ) (few : nodes s ≤ max_nodes) where
  -- Before the first round all are left.
  pub running_first : Running s (first_row s)
  unfolding last_row first_row
  running_first =
      record {
        shape = record { sixteen = row_sixteen s (λ k. 1); range = first_range s few; past = row_past s (λ k. 1) };
        more = max_rounds;
        same = refl;
        enough = first_enough s few;
      }

  module _ (row : List ℕ) where
    -- The sum of the row does not pass 16 a node.
    pub sum_most : Running s row → row_sum s row ≤ nodes s * max_budget
    sum_most p = sum_to_most (budget_in row) max_budget (nodes s) (λ k one inside. (p.shape.range k one inside).1)

    raised_shape : goes_on s row ≡ true → Running s row → Row s (raised s row)
    unfolding raised
    raised_shape on p =
        record {
          sixteen = row_sixteen s (raised_budget s row);
          range = raised_range s few row on p.shape.range;
          past = row_past s (raised_budget s row);
        }

    -- A round is run,
    pub running_on : goes_on s row ≡ true → Running s row → Running s (raised s row)
    running_on on p = go p.more p.same p.enough
      where
        go : (more : ℕ) → rounds s more row ≡ last_row s → nodes s * max_budget < row_sum s row + more → Running s (raised s row)
        go zero same enough = absurd (omega (arith, sum_most p))
        go (suc more) same enough =
            record {
              shape = raised_shape on p;
              more = more;
              same = sym (rounds_on s row more on) ∙ same;
              enough = omega (arith, raised_more s few row on);
            }

    -- or none is to come: this row is the last.
    pub running_over : goes_on s row ≡ false → Running s row → row ≡ last_row s
    running_over off p = go p.more p.same
      where
        go : (more : ℕ) → rounds s more row ≡ last_row s → row ≡ last_row s
        go zero same = sym (rounds_none s row) ∙ same
        go (suc more) same = sym (rounds_off s row more off) ∙ same
