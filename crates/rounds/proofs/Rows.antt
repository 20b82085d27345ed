-- Rows of budgets: what stands in the first and in a raised one, and that a row at or under another has no larger sum and no longer
-- cycle. Assumes nothing.
use Prim.Native.Nat.{ℕ, zero, suc, pred, ◌+◌, ◌≤◌, ◌<◌}
use native.Mathlib.Nat.{eq-or-lt_of_le, mul-le-mul_right}
use native.Mathlib.Decide.{dec_lt}
use native.Mathlib.Omega.{arith}
use mathlib.Core.Path.{◌≡◌, refl, sym, ap, ◌∙◌}
use mathlib.Core.Bool.{Bool, true, false, cond}
use mathlib.Core.Logic.{⊎_elim, by_cases}
use mathlib.Core.List.{List}
use lib.ListN.{length, set, length-set, replicate, get_or-eq_default}
use lib.Seq.{ext_get_or, get_or-set_same, get_or-set_other}
use lib.Dec.{ltb}
use borrow.Author.Tests.{lt-ltb, le-ltb, ltb-true, ltb-false}
use Rattle.theory.specs.Listing.{values_from}
use Rattle.theory.proofs.Sums.{sum_to_mono}
use Rattle.theory.proofs.Listing.{values_length, values_at}
use Rattle.model.specs.Limits.{max_nodes}
use Rattle.model.specs.Sheet.{word, nodes, message_ticks}
use Rattle.rounds.specs.Rounds.{budget_in, row_sum, row_cycle, row_of, has_late, raised_budget, raised}
use Rattle.rounds.specs.Least.{AtMost}

-- Every word of a row of zeros is 0, past its end too.
pub zero_word : (n p : ℕ) → word (replicate n 0) p ≡ 0
zero_word zero p = refl
zero_word (suc n) zero = refl
zero_word (suc n) (suc p) = zero_word n p

-- A row that is being made word by word: the first i are done, and the others are as they were.
pub record Making (done left : ℕ → ℕ) (i : ℕ) (row : List ℕ) : Type 0 where
  pub sixteen : length row ≡ max_nodes
  pub before : (p : ℕ) → p < i → word row p ≡ done p
  pub after : (p : ℕ) → i ≤ p → word row p ≡ left p

module _ {done left : ℕ → ℕ} {i : ℕ} {row : List ℕ} (making : Making done left i row) where
  -- The next word is written.
  pub made_word : (v : ℕ) → i < max_nodes → v ≡ done i → Making done left (i + 1) (set row i v)
  made_word v inside e =
      record {
        sixteen = length-set row i v ∙ making.sixteen;
        before = λ p below. ⊎_elim
            (λ same. rw same (get_or-set_same row i v 0 (rw making.sixteen inside) ∙ e))
            (λ less. get_or-set_other row i p v 0 (λ same. omega arith) ∙ making.before p less)
            (eq-or-lt_of_le (le_of_lt_succ p below));
        after = λ p above. get_or-set_other row i p v 0 (λ same. omega arith) ∙ making.after p (omega arith);
      }
    where
      le_of_lt_succ : (p : ℕ) → p < i + 1 → p ≤ i
      le_of_lt_succ p below = omega arith

-- After the last node the row is made.
pub made_row : (f left : ℕ → ℕ) (n : ℕ) (row : List ℕ)
    → Making (λ p. f (1 + p)) left n row
    → ((p : ℕ) → n ≤ p → left p ≡ 0)
    → row ≡ values_from (λ k. cond (ltb n k) 0 (f k)) 1 max_nodes
made_row f left n row making past =
    ext_get_or 0 row (values_from (λ k. cond (ltb n k) 0 (f k)) 1 max_nodes) (making.sixteen ∙ sym (values_length _ 1 max_nodes))
    (λ p inside. word_made p ∙ sym (values_at (λ k. cond (ltb n k) 0 (f k)) 1 max_nodes p (rw making.sixteen at inside)))
  where
    word_made : (p : ℕ) → word row p ≡ cond (ltb n (1 + p)) 0 (f (1 + p))
    word_made p = go (ltb n (1 + p)) refl
      where
        go : (b : Bool) → ltb n (1 + p) ≡ b → word row p ≡ cond b 0 (f (1 + p))
        go true e = making.after p (omega (arith, ltb-true n (1 + p) e)) ∙ past p (omega (arith, ltb-true n (1 + p) e))
        go false e = making.before p (omega (arith, ltb-false n (1 + p) e))

module _ (s : List ℕ) (budgets : ℕ → ℕ) where
  -- The budget of a node in a row that is made so,
  pub row_in : nodes s ≤ max_nodes → (k : ℕ) → 1 ≤ k → k ≤ nodes s → budget_in (row_of s budgets) k ≡ budgets k
  row_in few k one inside =
      let here : 1 + pred k ≡ k = omega arith in
      values_at (λ i. cond (ltb (nodes s) i) 0 (budgets i)) 1 max_nodes (pred k) (omega arith)
      ∙ ap (λ i. cond (ltb (nodes s) i) 0 (budgets i)) here
      ∙ (rw (le-ltb (nodes s) k inside) refl)

  -- its length,
  pub row_sixteen : length (row_of s budgets) ≡ max_nodes
  row_sixteen = values_length _ 1 max_nodes

  -- and its words past the last node.
  pub row_past : (p : ℕ) → nodes s ≤ p → word (row_of s budgets) p ≡ 0
  row_past p past =
      by_cases
      (dec_lt p max_nodes)
      (λ inside.
      values_at (λ i. cond (ltb (nodes s) i) 0 (budgets i)) 1 max_nodes p inside
      ∙ ap (λ b. cond b 0 (budgets (1 + p))) (lt-ltb (nodes s) (1 + p) (omega arith)))
      (λ outside.
      let end : length (row_of s budgets) ≤ p = rw row_sixteen (omega arith) in
      get_or-eq_default (row_of s budgets) 0 end)

-- In a raised row each budget is raised or as it was.
pub raised_in : (s row : List ℕ) → nodes s ≤ max_nodes → (k : ℕ) → 1 ≤ k → k ≤ nodes s → budget_in (raised s row) k ≡ raised_budget s row k
unfolding raised
raised_in s row few = row_in s (raised_budget s row) few

-- A budget that is raised or as it was keeps what holds of both.
pub raised_either : (s row : List ℕ) (k : ℕ) (P : ℕ → Type 0)
    → (has_late s row k ≡ true → P (suc (budget_in row k)))
    → P (budget_in row k)
    → P (raised_budget s row k)
raised_either s row k P late fine = go (has_late s row k) refl
  where
    go : (b : Bool) → has_late s row k ≡ b → P (cond b (suc (budget_in row k)) (budget_in row k))
    go true e = late e
    go false e = fine

module _ (s row other : List ℕ) (under : AtMost s row other) where
  -- A row at or under another has no larger sum,
  sum_under : row_sum s row ≤ row_sum s other
  sum_under = sum_to_mono (budget_in row) (budget_in other) (nodes s) under

  -- and no longer cycle.
  pub cycle_under : row_cycle s row ≤ row_cycle s other
  cycle_under = omega (arith, mul-le-mul_right (message_ticks s) sum_under)
