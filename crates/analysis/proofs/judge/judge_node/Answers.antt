-- `analysis::judge::judge_node` meets its contract: what is left of the row of checks equals the whole, and so do the waits listed and those
-- that are left.
-- Assumes nothing.
use Prim.Native.Nat.{◌<◌, ◌+◌}
use mathlib.Core.Path.{◌≡◌, refl, sym, ap, ◌∙◌}
use native.Mathlib.Nat.{suc-ne-zero}
use native.Mathlib.Omega.{arith}
use lib.ListN.{length, take, length-set}
use Rattle.model.specs.Refusal.{first_of}
use Rattle.model.specs.Answers.{node_late_with}
use Rattle.model.proofs.Sheet.Refusals.{rest_start, rest_on, rest_stop, rest_end}
use Rattle.theory.proofs.Filling.{fill_one, fill_end}
use Rattle.model.proofs.Answers.ListedWaits.{late_refused, listed_accepted, late_at, waits_all, waits_next, waits_none}
use Rattle.analysis.proofs.judge.judge_node.Goals as goal
use Rattle.analysis.proofs.judge.judge_node.Lts as lts
use Rattle.analysis.proofs.judge.judge_node.Tie as tie
use Rattle.analysis.proofs.judge.judge_node.Reads as reads

-- A place for the wait is there.
free : (c : lts.After-wide tie.the-claims reads.Pre reads.Post goal.the-invariant-loop-i goal.the-decreases-loop-i tie.handed_clauses) → c.wide.result < length c.loop-i.waits
free c =
    let l = c.loop-i in
    omega (arith, c.wide.ensures.0, l.invariant.0, c.loop-i-test.true, c.stream_count-count.ensures, c.requires.4)

pub loop-i-init : goal.loop-i-init
unfolding node_late_with
loop-i-init c =
    let a = c.args in
    let row = late_at a.sheet.now a.k in (
      refl,
      rest_start row _ ∙ ap (first_of row 1) c.stream_count-count.ensures,
      waits_all a.sheet.now a.k c.stream_count-count.result,
    )

pub returns-in-Late : goal.returns-in-Late
returns-in-Late c =
    let a = c.args in
    let l = c.loop-i in
    let late = sym c.verdict_on.ensures ∙ c.in-Late.is in record {
      answer = rest_stop (late_at a.sheet.now a.k) l.i _ c.loop-i-test.true (late_refused a.k (l.i + 1) late) (suc-ne-zero 6) l.invariant.1;
      buffer = tt;
    }

pub loop-i-preserved : goal.loop-i-preserved
loop-i-preserved c =
    let a = c.args in
    let l = c.loop-i in
    let inside = c.loop-i-test.true in
    let found = sym c.verdict_on.ensures ∙ c.in-Listed.is in
    let i = c.wide.ensures.0 in (
      simp length-set l.invariant.0,
      rest_on (late_at a.sheet.now a.k) l.i _ inside (listed_accepted a.k (l.i + 1) found) refl l.invariant.1,
      rw i (fill_one l.waits l.i _ (rw i at (free c.before)) (waits_next a.sheet.now a.k l.i _ inside found) l.invariant.2),
    )

pub returns : goal.returns
returns c =
    let a = c.args in
    let l = c.loop-i in
    let count = c.stream_count-count.ensures in
    let done : l.i ≡ c.stream_count-count.result = omega arith in
    let filled = fill_end (take l.i l.waits) (waits_none a.sheet.now a.k l.i _ c.loop-i-test.false) l.invariant.2 in
    record {
      answer = rest_end (late_at a.sheet.now a.k) l.i _ c.loop-i-test.false l.invariant.1;
      buffer = rw (done ∙ count, count) at filled;
    }
