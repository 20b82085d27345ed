-- `analysis::judge::judge_sheet` meets its contract: a late stream is the answer, and nothing is written; or success, and the waits that were
-- listed are those written. Assumes nothing.
use Prim.Native.Nat.{◌≤◌}
use mathlib.Core.Path.{◌≡◌, refl, sym, ap, ap₂, ◌∙◌}
use native.Mathlib.Omega.{arith}
use mathlib.Core.List.{◌++◌}
use lib.ListN.{length, take, drop}
use lib.Seq.{length-take-le}
use Rattle.std.proofs.Common.{rules}
use Rattle.theory.proofs.Overwriting.{put_fits}
use Rattle.std.specs.Prelude.{Err}
use Rattle.model.specs.Refusal.{success, ◌or_else◌, first_of}
use Rattle.refusals.specs.Numbers.{numbers}
use Rattle.model.specs.Answers.{node_late_refusal, listed_waits}
use Rattle.model.proofs.Sheet.ValidSheet.{valid_fits}
use Rattle.model.proofs.Sheet.NodeSums.{total_most}
use Rattle.model.proofs.Answers.Buffer.{buffer_kept, buffer_written}
use Rattle.refusals.proofs.Chains.{refuses, stops, goes_on}
use Rattle.analysis.proofs.judge.judge_sheet.Goals as goal

pub judge_nodes-requires : goal.judge_nodes-requires
judge_nodes-requires c =
    let s = c.args.sheet.now in
    let p = c.requires in
    (p.0, c.word_at.ensures, c.cycle_of-cycle.ensures, total_most s (valid_fits s p.0))

pub returns-in_err-judge_nodes : goal.returns-in_err-judge_nodes
returns-in_err-judge_nodes c =
    let a = c.args in
    let p = c.requires in
    let refusal = c.in_err-judge_nodes.field-0.0 in
    let same : c.from_residual.result ≡ Err refusal = search rules in
    let late = stops refusal (success a.total c.cycle_of-cycle.result) c.in_err-judge_nodes.ensures.answer in
    let kept = buffer_kept (numbers refusal) (listed_waits a.sheet.now) a.room.now (refuses refusal) in
    record {
      answer = rw same (late ∙ ap₂ ◌or_else◌ (ap (first_of (node_late_refusal a.sheet.now) 1) c.word_at.ensures) (ap₂ success p.1 c.cycle_of-cycle.ensures));
      buffer = rw same kept;
    }

pub overflow_cast-result : goal.overflow_cast-result
overflow_cast-result c =
    let s = c.args.sheet.now in
    let p = c.requires in
    omega (arith, p.1, total_most s (valid_fits s p.0))

pub slice_bounds-waits-end : goal.slice_bounds-waits-end
slice_bounds-waits-end c = omega (arith, c.requires.1, total_most c.args.sheet.now (valid_fits c.args.sheet.now c.requires.0), c.judge_nodes.auto.waits)

pub slice_bounds-put-end : goal.slice_bounds-put-end
slice_bounds-put-end c =
    sym (length-take-le c.args.total c.judge_nodes.new.waits
    (omega (arith, c.requires.1, total_most c.args.sheet.now (valid_fits c.args.sheet.now c.requires.0), c.judge_nodes.auto.waits)))

pub returns : goal.returns
returns c =
    let a = c.args in
    let p = c.requires in
    let waits = c.judge_nodes.new.waits in
    let room = a.room.now in
    let enough : a.total ≤ length waits = omega (arith, p.1, total_most a.sheet.now (valid_fits a.sheet.now p.0), c.judge_nodes.auto.waits) in
    let listed : take a.total waits ≡ listed_waits a.sheet.now = ap (λ n. take n waits) p.1 ∙ c.in_ok-judge_nodes.ensures.buffer in
    let fits : length (take a.total waits) ≤ length room = omega (arith, length-take-le a.total waits enough, p.2) in
    let none = c.in_ok-judge_nodes.ensures.answer ∙ ap (first_of (node_late_refusal a.sheet.now) 1) c.word_at.ensures in
    record {
      answer = goes_on none (ap₂ success p.1 c.cycle_of-cycle.ensures);
      buffer =
          c.put.ensures
          ∙ put_fits (take a.total waits) room fits
          ∙ ap (λ v. v ++ drop (length v) room) listed
          ∙ buffer_written (success a.total c.cycle_of-cycle.result) (listed_waits a.sheet.now) room refl;
    }
