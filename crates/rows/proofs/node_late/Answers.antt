-- `rows::node_late` meets its contract: what is left of the row of checks equals the whole. Assumes nothing.
use Prim.Native.Nat.{ℕ, pred, ◌+◌, ◌≤◌}
use mathlib.Core.Path.{◌≡◌, refl, sym, ap, ◌∙◌}
use mathlib.Core.Bool.{false, not}
use mathlib.Core.List.{List}
use lib.Dec.{eqb}
use native.Mathlib.Nat.{suc-ne-zero}
use native.Mathlib.Omega.{arith}
use borrow.Author.Tests.{eq-eqb, ne_eqb}
use Rattle.model.specs.declared.Answer.{Answer}
use Rattle.model.specs.Answers.{node_late_with}
use Rattle.model.specs.Sheet.{stream_count}
use Rattle.model.proofs.Sheet.Refusals.{rest, rest_start, rest_on, rest_stop, rest_end}
use Rattle.model.proofs.Answers.ListedWaits.{late_refused, listed_accepted}
use Rattle.rows.proofs.node_late.Invariants.{late_at}
use Rattle.rows.proofs.node_late.Goals as goal
use Rattle.rows.proofs.node_late.Goals.{In_default}

pub loop-j-init : goal.loop-j-init
unfolding node_late_with
loop-j-init c =
    let a = c.args in
    rest_start (late_at a.sheet.now a.cycle a.budget a.k) (stream_count a.sheet.now a.k)

-- A stream that is not late leaves the rest after it the whole still.
goes_on : (c : In_default) → rest (late_at c.args.sheet.now c.args.cycle c.args.budget c.args.k) c.loop-j.j (stream_count c.args.sheet.now c.args.k)
    ≡ node_late_with c.args.sheet.now c.args.cycle c.args.budget c.args.k
goes_on c =
    let a = c.args in
    let l = c.loop-j in
    let done : pred l.j + 1 ≡ l.j = omega (arith, l.auto.j) in
    let found = sym c.verdict_with.ensures ∙ c.in_default.is in
    let passes = listed_accepted a.k l.j found ∙ ap (late_at a.sheet.now a.cycle a.budget a.k) (sym done) in
    rw done at (rest_on (late_at a.sheet.now a.cycle a.budget a.k) (pred l.j) _ (omega (arith, c.loop-j-test.true, c.stream_count-j-end.ensures)) passes refl l.invariant)

-- Where none is left, none is late.
none_late : (s : List ℕ) (C m k i : ℕ)
    → stream_count s k ≤ i
    → rest (late_at s C m k) i (stream_count s k) ≡ node_late_with s C m k
    → false ≡ not (eqb (node_late_with s C m k).number 0)
none_late s C m k i last passed =
    let passes = rest_end (late_at s C m k) i _ last passed in
    sym (ap not (eq-eqb (node_late_with s C m k).number 0 (sym (ap (λ (x : Answer). x.number) passes))))

pub returns-in-Late : goal.returns-in-Late
returns-in-Late c =
    let a = c.args in
    let l = c.loop-j in
    let next : l.j ≡ pred l.j + 1 = omega (arith, l.auto.j) in
    let late = late_refused a.k l.j (sym c.verdict_with.ensures ∙ c.in-Late.is) ∙ ap (late_at a.sheet.now a.cycle a.budget a.k) next in
    let refuses = rest_stop (late_at a.sheet.now a.cycle a.budget a.k) (pred l.j) _ (omega (arith, c.loop-j-test.true, c.stream_count-j-end.ensures)) late (suc-ne-zero 6) l.invariant in
    sym (ap not (ne_eqb (node_late_with a.sheet.now a.cycle a.budget a.k).number 0 (λ e. suc-ne-zero 6 (ap (λ (x : Answer). x.number) refuses ∙ e))))

pub loop-j-preserved : goal.loop-j-preserved
loop-j-preserved c =
    let next : c.loop-j.j ≡ pred (c.loop-j.j + 1) = omega arith in
    rw next at (goes_on (goal.at.loop-j-preserved c).In_default)

pub returns-in_default : goal.returns-in_default
returns-in_default c =
    let a = c.args in
    none_late a.sheet.now a.cycle a.budget a.k c.loop-j.j (omega (arith, c.stream_count-j-end.ensures)) (goes_on (goal.at.returns-in_default c).In_default)

pub returns : goal.returns
returns c =
    let a = c.args in
    none_late a.sheet.now a.cycle a.budget a.k (pred c.loop-j.j) (omega (arith, c.loop-j-test.false, c.stream_count-j-end.ensures)) c.loop-j.invariant
