-- `rows::run_round` meets its contract: the row of checks that is left equals the whole, the nodes up to the present one are judged, and the
-- copy is raised up to there. Assumes nothing.
use Prim.Native.Nat.{ℕ, suc, pred, ◌<◌, ◌+◌}
use mathlib.Core.Path.{◌≡◌, refl, sym, ap, ap₂, ◌∙◌}
use mathlib.Core.List.{List}
use mathlib.Core.Bool.{Bool, true, false, cond, ◌&&◌, not}
use native.Mathlib.Nat.{suc-ne-zero}
use native.Mathlib.Omega.{arith}
use lib.Dec.{eqb, leb}
use mir.Val.{bool_byte}
use Rattle.std.proofs.lemmas.Bool.Decides.{nat_tests}
use Rattle.model.specs.Limits.{max_nodes, max_budget}
use Rattle.model.specs.Refusal.{refuse, accepted}
use Rattle.model.specs.Sheet.{word, nodes}
use Rattle.model.specs.Answers.{node_late_with}
use Rattle.model.proofs.Sheet.Refusals.{rest_start, rest_on, rest_stop, rest_end, refuse_if_not, refuse_if_so}
use Rattle.model.proofs.Sheet.ValidSheet.{valid_fits}
use Rattle.rounds.specs.Rounds.{budget_in, has_late, raised_budget, raised, full_refusal, stuck_refusal, goes_on}
use Rattle.rounds.proofs.Rows.{made_word, made_row}
use Rattle.rows.proofs.Ranges.{row_shares}
use Rattle.rows.proofs.Judging.{judged_none, judged_next, judged_all, late_goes_on, stuck_stops}
use Rattle.rows.proofs.run_round.Goals as goal
use Rattle.rows.proofs.run_round.Goals.{After-wide-place, After-node_late-here, After-loop-i}

-- The node is one of the sheet, and has a word in the row.
inside : (c : After-wide-place) → (c.loop-i.i < nodes c.args.sheet.now) × (c.loop-i.i < max_nodes)
inside c =
    let s = c.args.sheet.now in
    let node : c.loop-i.i < nodes s = omega (arith, c.word_at-i-end.ensures, c.loop-i-test.true) in
    (node, omega (arith, (valid_fits s c.requires.0).header.nodes_to))

-- The word read is its budget.
read : (row : List ℕ) (i : ℕ) {place : ℕ} → place ≡ i → word row place ≡ budget_in row (i + 1)
read row i {place} here = let e : place ≡ pred (i + 1) = omega arith in ap (word row) e

-- The node is judged by the row that was handed over, and its C.
judged : (c : After-node_late-here) → c.node_late-here.result ≡ has_late c.args.sheet.now c.args.row (c.loop-i.i + 1)
judged c =
    let s = c.args.sheet.now in
    let k = c.loop-i.i + 1 in
    c.node_late-here.ensures
    ∙ ap₂ (λ C m. not (eqb (node_late_with s C m k).number 0)) c.row_cycle-cycle.ensures (read c.args.row c.loop-i.i c.wide-place.ensures.0)

-- One more where it is late.
one_more : (b : Bool) (m : ℕ) {more : ℕ} → more ≡ bool_byte b → m + more ≡ cond b (suc m) m
one_more true m e = omega arith
one_more false m e = omega arith

pub loop-i-init : goal.loop-i-init
unfolding stuck_refusal
loop-i-init c =
    let a = c.args in
    let s = a.sheet.now in
    record {
      passed = rest_start (full_refusal s a.row) (nodes s);
      judged = judged_none s a.row;
      raised = record {
        sixteen = rw c.requires.2 c.requires.1.sixteen;
        before = λ p below. absurd (omega arith);
        after = λ p above. ap (λ ws. word ws p) c.requires.2;
      };
    }

pub loop-i-preserved : goal.loop-i-preserved
unfolding full_refusal
loop-i-preserved c =
    let a = c.args in
    let l = c.loop-i in
    let s = a.sheet.now in
    let at = goal.at.loop-i-preserved c in
    let node = inside at.After-wide-place in
    let here = judged at.After-node_late-here in
    let budget = read a.row l.i c.wide-place.ensures.0 in
    let tested : (c.node_late-here.result && leb max_budget (word a.row c.wide-place.result)) ≡ false = grind (arith, nat_tests) in
    let passes = refuse_if_not (refuse 11 (l.i + 1) 0) (rw (here, budget) at tested) in
    let place : c.wide-place.result ≡ l.i = c.wide-place.ensures.0 in
    let node_after : l.i + 1 ≡ 1 + l.i = omega arith in
    let more = one_more _ _ c.from.ensures ∙ ap₂ (λ b m. cond b (suc m) m) here budget ∙ ap (raised_budget s a.row) node_after in
    record {
      passed = rest_on (full_refusal s a.row) l.i _ node.0 (sym passes) refl l.invariant.passed;
      judged = rw here (judged_next s a.row l.i l.late node.0 l.invariant.judged);
      raised = rw place (made_word l.invariant.raised _ node.1 (rw place at more));
    }

pub node_late-here-requires : goal.node_late-here-requires
node_late-here-requires c =
    let a = c.args in
    let p = c.requires in
    let s = a.sheet.now in
    let i = c.loop-i.i in
    let node = (inside (goal.at.node_late-here-requires c).After-wide-place).0 in (
      p.0,
      omega arith,
      omega arith,
      rw (c.row_cycle-cycle.ensures, read a.row i c.wide-place.ensures.0) (row_shares s a.row (valid_fits s p.0) p.1.range (i + 1) (omega arith) (omega arith)),
    )

pub bounds-next-place : goal.bounds-next-place
bounds-next-place c = omega (arith, c.wide-place.ensures.0, c.loop-i.invariant.raised.sixteen, (inside (goal.at.bounds-next-place c).After-wide-place).1)

pub returns-then-full : goal.returns-then-full
unfolding full_refusal
returns-then-full c =
    let a = c.args in
    let l = c.loop-i in
    let s = a.sheet.now in
    let at = goal.at.returns-then-full c in
    let late : c.node_late-here.result ≡ true = cc in
    let tested : (c.node_late-here.result && leb max_budget (word a.row c.wide-place.result)) ≡ true = grind (arith, nat_tests) in
    let full = refuse_if_so (refuse 11 (l.i + 1) 0) (rw (judged at.After-node_late-here, read a.row l.i c.wide-place.ensures.0) at tested) in
    let stuck = rest_stop (full_refusal s a.row) l.i _ (inside at.After-wide-place).0 (sym full) (suc-ne-zero 10) l.invariant.passed in
    record {
      stuck = stuck;
      late = stuck_stops s a.row (l.i + 1) stuck;
      row = λ z. absurd (omega arith);
    }

-- Where all nodes are judged, none is stuck, and the row is raised.
all_judged : (c : After-loop-i) → (accepted ≡ stuck_refusal c.args.sheet.now c.args.row)
    × (c.loop-i.late ≡ goes_on c.args.sheet.now c.args.row)
    × (c.loop-i.next ≡ raised c.args.sheet.now c.args.row)
unfolding raised
all_judged c =
    let a = c.args in
    let l = c.loop-i in
    let s = a.sheet.now in
    let last : l.i ≡ nodes s = omega (arith, c.loop-i-test.false, l.auto.i-end, c.word_at-i-end.ensures) in
    let none = rest_end (full_refusal s a.row) l.i _ (omega arith) l.invariant.passed in (
      none,
      late_goes_on s a.row l.late (judged_all s a.row l.late (rw last at l.invariant.judged)) none,
      made_row (raised_budget s a.row) (word a.row) (nodes s) l.next (rw last at l.invariant.raised) c.requires.1.past,
    )

pub returns-then-late : goal.returns-then-late
returns-then-late c =
    let all = all_judged (goal.at.returns-then-late c).After-loop-i in
    record {
      stuck = all.0;
      late = sym c.if-late.true ∙ all.1;
      row = λ z. all.2;
    }

pub returns-else-late : goal.returns-else-late
returns-else-late c =
    let all = all_judged (goal.at.returns-else-late c).After-loop-i in
    record {
      stuck = all.0;
      late = sym c.if-late.false ∙ all.1;
      row = λ z. all.2;
    }
