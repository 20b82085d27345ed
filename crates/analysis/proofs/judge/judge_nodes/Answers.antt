-- `analysis::judge::judge_nodes` meets its contract: what is left of the row of checks equals the whole, and so do the waits listed and those
-- that are left. The waits of the next node go into the part of the buffer that is lent from `at` on.
-- Assumes nothing.
use Prim.Native.Nat.{◌≤◌, ◌-◌, ◌+◌}
use mathlib.Core.Path.{◌≡◌, refl, sym, ◌∙◌}
use native.Mathlib.Omega.{arith}
use lib.ListN.{length, take}
use Rattle.model.specs.Sheet.{nodes, stream_count}
use Rattle.model.specs.Answers.{node_late_refusal}
use Rattle.model.proofs.Sheet.Refusals.{rest_start, rest_end}
use Rattle.refusals.proofs.Chains.{rest_stops, rest_goes_on}
use Rattle.std.proofs.Common.{rules}
use Rattle.theory.proofs.Filling.{fill_part, fill_end}
use Rattle.theory.proofs.Overwriting.{lent_length}
use Rattle.theory.proofs.Sums.{sum_to_none}
use Rattle.model.proofs.Sheet.NodeSums.{streams_next, streams_room}
use Rattle.model.proofs.Answers.ListedWaits.{nodes_all, nodes_next, nodes_none}
use borrow.Rule.Slice.PartMut.{same_len_mid}
use Rattle.analysis.proofs.judge.judge_nodes.Goals as goal
use Rattle.analysis.proofs.judge.judge_nodes.Lts as lts
use Rattle.analysis.proofs.judge.judge_nodes.Tie as tie
use Rattle.analysis.proofs.judge.judge_nodes.Reads as reads

-- The buffer has a word for each stream of the next node.
free : (c : lts.In-loop tie.the-claims reads.Pre reads.Post goal.the-invariant-loop-i goal.the-decreases-loop-i tie.handed_clauses)
    → c.loop-i.at + stream_count c.args.sheet.now (c.loop-i.i + 1)
    ≤ length c.loop-i.waits
free c =
    let p = c.requires in
    let l = c.loop-i in
    omega (arith, streams_room c.args.sheet.now l.i (omega (arith, p.1, c.loop-i-test.true)), l.invariant.0, l.invariant.1, p.3)

pub loop-i-init : goal.loop-i-init
loop-i-init c =
    let s = c.args.sheet.now in
    (refl, sym (sum_to_none (stream_count s)), rest_start (node_late_refusal s) _, nodes_all s _)

pub offset_bounds-waits-at : goal.offset_bounds-waits-at
offset_bounds-waits-at c = omega (arith, free c.before, c.loop-i.invariant.0, c.well_formed)

pub slice_bounds-judge_node-start : goal.slice_bounds-judge_node-start
slice_bounds-judge_node-start c = omega (arith, free c.before)

pub slice_bounds-judge_node-count : goal.slice_bounds-judge_node-count
slice_bounds-judge_node-count c = omega (arith, free c.before)

pub judge_node-requires : goal.judge_node-requires
judge_node-requires c =
    let p = c.requires in
    let l = c.loop-i in (
      p.0,
      omega arith,
      omega (arith, p.1, c.loop-i-test.true),
      p.2,
      omega (arith, lent_length l.waits l.at, free c.before.before),
    )

pub returns-in_err-judge_node : goal.returns-in_err-judge_node
returns-in_err-judge_node c =
    let l = c.loop-i in
    let s = c.args.sheet.now in
    let stop = rest_stops (node_late_refusal s) l.i _ _ c.loop-i-test.true c.in_err-judge_node.ensures.answer l.invariant.2 in record {
      answer = grind (rules, stop);
      buffer = grind rules;
    }

pub overflow_add-at : goal.overflow_add-at
overflow_add-at c =
    let here = c.wide-at.ensures.0 ∙ c.stream_count.ensures in
    omega (arith, here, free c.before.before.before.before.before.before.before.before.before, c.loop-i.invariant.0, c.well_formed)

pub loop-i-preserved : goal.loop-i-preserved
loop-i-preserved c =
    let s = c.args.sheet.now in
    let l = c.loop-i in
    let inside = c.loop-i-test.true in
    let here = c.wide-at.ensures.0 ∙ c.stream_count.ensures in
    let room = free c.before.before.before.before.before.before.before.before.before in (
      same_len_mid l.at (length l.waits - l.at) l.waits c.judge_node.new.waits c.judge_node.auto.waits ∙ l.invariant.0,
      streams_next s l.i l.invariant.1 here,
      rest_goes_on (node_late_refusal s) l.i _ inside c.in_ok-judge_node.ensures.answer l.invariant.2,
      rw here
          (fill_part l.waits c.judge_node.new.waits _ _ l.at _
          (omega (arith, room))
          (omega (arith, room, lent_length l.waits l.at, c.judge_node.auto.waits))
          c.in_ok-judge_node.ensures.buffer
          (nodes_next s l.i _ inside)
          l.invariant.3),
    )

pub returns : goal.returns
returns c =
    let s = c.args.sheet.now in
    let l = c.loop-i in
    let n = c.requires.1 in
    let done : l.i ≡ nodes s = omega (arith, n, c.loop-i-test.false) in
    let filled = fill_end (take l.at l.waits) (nodes_none s l.i _ c.loop-i-test.false) l.invariant.3 in record {
      answer = rest_end (node_late_refusal s) l.i _ c.loop-i-test.false l.invariant.2;
      buffer = rw (l.invariant.1, done, n) at filled;
    }
