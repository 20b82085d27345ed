-- `rows::first_row` meets its contract: the words of the nodes are 1, and the others 0. Assumes nothing.
use Prim.Native.Nat.{ℕ, ◌≤◌, ◌-◌}
use mathlib.Core.Path.{◌≡◌, refl, sym, ap, ◌∙◌}
use native.Mathlib.Omega.{arith}
use mathlib.Core.List.{◌++◌}
use lib.ListN.{drop, replicate, length-append, get_or-append}
use Rattle.std.proofs.lemmas.List.{length-take-le, drop-replicate, length-replicate, get_or-replicate, get_or-append_right}
use Rattle.model.specs.Sheet.{nodes}
use Rattle.model.proofs.Sheet.ValidSheet.{valid_fits}
use Rattle.rounds.specs.Rounds.{first_row}
use Rattle.rounds.proofs.Rows.{Making, made_row, zero_word}
use Rattle.rows.proofs.first_row.Goals as goal
use Rattle.rows.proofs.first_row.Goals.{After-wide-n}

-- A node has a word in the row.
few : (c : After-wide-n) → c.wide-n.result ≤ 16
few c = omega (arith, c.word_at.ensures, (valid_fits c.args.sheet.now c.requires).header.nodes_to)

-- The first n words of sixteen are 1, and the others 0.
first_ones : (k n : ℕ) → n ≡ k → n ≤ 16 → Making (λ p. 1) (λ p. 0) k (replicate n 1 ++ drop n (replicate 16 0))
first_ones k n same inside =
    let rest = drop-replicate {X = ℕ} n 16 0 in
    let ones = length-replicate {A = ℕ} n 1 in
    rw (← same, rest)
    (record {
      sixteen = simp (length-append, length-replicate) (omega arith);
      before = λ p below. get_or-append (replicate n 1) _ 0 p (rw ones below) ∙ get_or-replicate n p 1 0 below;
      after = λ p above. get_or-append_right (replicate n 1) (replicate (16 - n) 0) n p 0 ones above ∙ zero_word (16 - n) (p - n);
    })

pub slice_bounds-row-end : goal.slice_bounds-row-end
slice_bounds-row-end c = few c

pub slice_bounds-fill-end : goal.slice_bounds-fill-end
slice_bounds-fill-end c = sym (length-take-le _ (replicate 16 0) (few (goal.at.slice_bounds-fill-end c).After-wide-n))

pub returns : goal.returns
unfolding first_row
returns c =
    let n = c.wide-n.result in
    let here = few (goal.at.returns c).After-wide-n in
    let e : n ≡ nodes c.args.sheet.now = omega (arith, c.word_at.ensures, c.wide-n.ensures) in
    let filled = c.fill.ensures.after (λ y e. e) ∙ ap (λ m. replicate m 1) (length-take-le n (replicate 16 0) here) in
    rw filled (made_row (λ k. 1) (λ p. 0) (nodes c.args.sheet.now) _ (first_ones _ n e here) (λ p past. refl))
