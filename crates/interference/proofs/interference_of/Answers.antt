-- `interference::interference_of` meets its contract: the sum so far is that over the streams so far. Assumes nothing.
use mathlib.Core.Path.{sym, ap₂, ◌∙◌}
use native.Mathlib.Omega.{arith}
use borrow.Author.Rules.{rules}
use lib.ListN.{length, length-append}
use Rattle.std.proofs.lemmas.Slice.Zip.{zip_turn}
use Rattle.theory.proofs.Sums.{sum_to_none, sum_to_more}
use Rattle.model.specs.Analysis.{most_releases}
use Rattle.interference.specs.Periods.{releases_by}
use Rattle.interference.proofs.Periods.{next_entry}
use Rattle.interference.proofs.interference_of.Goals as goal

pub loop-period-init : goal.loop-period-init
loop-period-init c = let a = c.args in (sym (sum_to_none (releases_by a.periods.now a.jitters.now a.w)), omega arith)

pub loop-period-preserved : goal.loop-period-preserved
loop-period-preserved c =
    let a = c.args in
    let l = c.loop-period in
    let turn = zip_turn a.periods.now a.jitters.now l.yielded c.into_iter-period-iterator.result _ c.next.new.self _ (search rules) (search rules) l.yielded_by _ c.in-Some.is c.next.ensures.steps in
    let i = length l.yielded in
    let same = ap₂ (λ p q. most_releases p q a.w) (turn.2 0 ∙ sym (next_entry a.periods.now i)) (turn.3 0 ∙ sym (next_entry a.jitters.now i)) in
    let term = c.long-sum.ensures.0 ∙ c.most_releases.ensures ∙ same in
    let next = sum_to_more (releases_by a.periods.now a.jitters.now a.w) i l.invariant.0 term in
    simp length-append (next, omega (arith, c.long-sum.ensures.1, l.invariant.1))
