-- `limits::list_nodes` meets its contract: the limits of the nodes passed stand in the table's front, the rest is as it was. Those of the
-- next node go into the part of the table that is lent from `at` on.
-- Assumes nothing.
use Prim.Native.Nat.{ℕ, pred, ◌≤◌, ◌-◌, ◌+◌}
use mathlib.Core.Path.{◌≡◌, refl, sym, ◌∙◌}
use native.Mathlib.Omega.{arith}
use borrow.Rule.Slice.PartMut.{put_mid, same_len_mid}
use lib.ListN.{length}
use Rattle.theory.proofs.Overwriting.{lent_length}
use Rattle.theory.proofs.Sums.{sum_to_none}
use Rattle.model.specs.Sheet.{nodes, stream_count}
use Rattle.model.proofs.Sheet.ValidSheet.{valid_fits}
use Rattle.model.proofs.Sheet.NodeSums.{streams_next, streams_room}
use Rattle.limits.proofs.Filled.{limit_at, nodes_none, nodes_filled, nodes_next}
use Rattle.limits.proofs.list_nodes.Goals as goal
use Rattle.limits.proofs.list_nodes.Goals.{In-loop-k, After-wide-at}

-- The node is the one after those passed.
one_more : (k : ℕ) → 1 ≤ k → pred k + 1 ≡ k
one_more k from = omega arith

-- The table has a word for each stream of the node.
free : (c : In-loop-k) → c.loop-k.at + stream_count c.args.sheet.now c.loop-k.k ≤ length c.loop-k.limits
free c =
    let p = c.requires in
    let l = c.loop-k in
    let room = streams_room c.args.sheet.now (pred l.k) (omega (arith, p.1, c.loop-k-test.true, l.auto.k)) in
    omega (arith, rw (one_more l.k l.auto.k) at room, l.invariant.long, l.invariant.at, p.3)

-- The limits of its streams stand in the table after those of the nodes passed.
filled : (c : After-wide-at) → c.loop-k.at ≤ length c.loop-k.limits
    → put_mid c.loop-k.at (length c.loop-k.limits - c.loop-k.at) c.loop-k.limits c.list_node.new.limits
    ≡ nodes_filled c.args.sheet.now (limit_at c.args.sheet.now) c.args.limits.now c.loop-k.k
filled c there =
    let a = c.args in
    let s = a.sheet.now in
    let l = c.loop-k in
    let next = one_more l.k l.auto.k in
    rw next at (nodes_next s (limit_at s) a.limits.now l.limits c.list_node.new.limits (pred l.k) l.at
    (omega (arith, there, l.invariant.long, l.invariant.at))
    l.invariant.at
    (rw next c.list_node.ensures)
    l.invariant.filled)

pub loop-k-init : goal.loop-k-init
loop-k-init c =
    let a = c.args in
    let s = a.sheet.now in
    record { long = refl; at = sym (sum_to_none (stream_count s)); filled = nodes_none s (limit_at s) a.limits.now }

pub offset_bounds-limits-at : goal.offset_bounds-limits-at
offset_bounds-limits-at c = omega (arith, free (goal.at.offset_bounds-limits-at c).In-loop-k, c.loop-k.invariant.long, c.well_formed)

pub slice_bounds-list_node-start : goal.slice_bounds-list_node-start
slice_bounds-list_node-start c = omega (arith, free (goal.at.slice_bounds-list_node-start c).In-loop-k)

pub slice_bounds-list_node-count : goal.slice_bounds-list_node-count
slice_bounds-list_node-count c = omega (arith, free (goal.at.slice_bounds-list_node-count c).In-loop-k)

pub list_node-requires : goal.list_node-requires
list_node-requires c =
    let p = c.requires in
    let l = c.loop-k in (
      p.0,
      omega (arith, l.auto),
      omega (arith, p.1, c.loop-k-test.true),
      p.2,
      omega (arith, lent_length l.limits l.at, free (goal.at.list_node-requires c).In-loop-k),
    )

pub overflow_add-at : goal.overflow_add-at
overflow_add-at c =
    let here = c.wide-at.ensures.0 ∙ c.stream_count.ensures in
    omega (arith, here, free (goal.at.overflow_add-at c).In-loop-k, c.loop-k.invariant.long, c.well_formed)

pub loop-k-preserved : goal.loop-k-preserved
loop-k-preserved c =
    let s = c.args.sheet.now in
    let l = c.loop-k in
    let here = goal.at.loop-k-preserved c in
    let next = one_more l.k l.auto.k in
    let now : pred (l.k + 1) ≡ l.k = omega arith in
    record {
      long = same_len_mid l.at (length l.limits - l.at) l.limits c.list_node.new.limits c.list_node.auto.limits ∙ l.invariant.long;
      at = rw (now, ← next) (streams_next s (pred l.k) l.invariant.at (rw next (c.wide-at.ensures.0 ∙ c.stream_count.ensures)));
      filled = rw now (filled here.After-wide-at (omega (arith, free here.In-loop-k)));
    }

pub returns-2 : goal.returns-2
returns-2 c =
    let here = goal.at.returns-2 c in
    let last : c.loop-k.k ≡ nodes c.args.sheet.now = omega (arith, c.requires.1, c.loop-k-test.true) in
    rw last at (filled here.After-wide-at (omega (arith, free here.In-loop-k)))

-- A sheet has a node.
pub returns : goal.returns
returns c =
    let some = (valid_fits c.args.sheet.now c.requires.0).header.nodes_from in
    absurd (omega (arith, c.requires.1, c.loop-k-test.false, c.loop-k.auto.k-end))
