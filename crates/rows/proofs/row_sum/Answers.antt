-- `rows::row_sum` meets its contract: the words of the nodes, added up, are the definition's sum. Assumes nothing.
use Prim.Native.Nat.{zero, suc, ℕ, ◌≤◌, ◌<◌, ◌^◌}
use mathlib.Core.Path.{◌≡◌, sym, ap, ◌∙◌}
use mathlib.Core.List.{List}
use native.Mathlib.Numerals.{add-one}
use native.Mathlib.Omega.{arith}
use lib.ListN.{length, take}
use Rattle.std.proofs.Common.{rules}
use Rattle.std.specs.List.{sum}
use Rattle.std.proofs.lemmas.List.{length-take-le}
use Rattle.std.proofs.lemmas.List.Sums.{sum_by_more}
use Rattle.theory.specs.Sum.{sum_to}
use Rattle.theory.proofs.Sums.{sum_to_none, sum_to_next, sum_to_most}
use Rattle.model.specs.Limits.{max_budget}
use Rattle.model.specs.Sheet.{nodes}
use Rattle.model.proofs.Sheet.ValidSheet.{valid_fits}
use Rattle.rounds.specs.Rounds.{budget_in, row_sum}
use Rattle.rows.proofs.row_sum.Goals as goal
use Rattle.rows.proofs.row_sum.Goals.{After-wide-n}

-- The first n words are the budgets of nodes 1 to n.
sum_of_first : (row : List ℕ) (n : ℕ) → n ≤ length row → sum (take n row) ≡ sum_to (budget_in row) n
sum_of_first row zero inside = sym (sum_to_none (budget_in row))
sum_of_first row (suc n) inside =
    let here = sum_by_more (λ x. x) row n 0 (omega arith) in
    let so_far = sum_of_first row n (omega arith) in
    let next = sum_to_next (budget_in row) n in
    rw (add-one n) at here ∙ omega (arith, so_far, next)

-- A node has a word in the row.
few : (c : After-wide-n) → c.wide-n.result ≤ length c.args.row
few c = omega (arith, c.word_at.ensures, (valid_fits c.args.sheet.now c.requires.0).header.nodes_to, c.requires.1.sixteen)

-- The words that are added are those of the nodes.
added : (c : After-wide-n) → sum (take c.wide-n.result c.args.row) ≡ row_sum c.args.sheet.now c.args.row
added c =
    sum_of_first c.args.row c.wide-n.result (few c)
    ∙ ap (sum_to (budget_in c.args.row)) (omega (arith, c.word_at.ensures, c.wide-n.ensures))

pub slice_bounds-row-end : goal.slice_bounds-row-end
slice_bounds-row-end c = few c

pub slice_bounds-iter-end : goal.slice_bounds-iter-end
slice_bounds-iter-end c = sym (length-take-le _ c.args.row (few (goal.at.slice_bounds-iter-end c).After-wide-n))

pub returns : goal.returns
returns c =
    let total : c.sum.result ≡ sum (take c.wide-n.result c.args.row) = search rules in
    total ∙ added (goal.at.returns c).After-wide-n

pub sum-requires-clause-fits : goal.sum-requires-clause-fits
sum-requires-clause-fits c =
    let s = c.args.sheet.now in
    let h = (valid_fits s c.requires.0).header in
    let all = added (goal.at.sum-requires-clause-fits c).After-wide-n in
    let most = sum_to_most (budget_in c.args.row) max_budget (nodes s) (λ k one inside. (c.requires.1.range k one inside).1) in
    let fits : sum (take c.wide-n.result c.args.row) < 2 ^ 32 = omega (arith, h.nodes_to) in
    search rules
