-- `listing::put_nodes` meets its contract: the lines of the nodes before this turn's are put, and `from` counts their streams.
-- Assumes nothing.
use native.Mathlib.Omega.{arith}
use mathlib.Core.Path.{refl, sym, ◌∙◌}
use borrow.Author.Rules.{rules}
use Rattle.theory.proofs.Sums.{sum_to_none}
use Rattle.model.specs.Sheet.{stream_count}
use Rattle.model.proofs.Sheet.NodeSums.{streams_next}
use Rattle.texts.specs.Text.{node_lines}
use Rattle.listing.proofs.Lines.{adds_no_line, adds_next_line}
use Rattle.listing.proofs.put_nodes.Goals as goal

pub loop-k-init : goal.loop-k-init
loop-k-init c = record {
  from_streams = sym (sum_to_none (stream_count c.args.sheet.now));
  from_small = search rules;
  lines = adds_no_line _;
}

pub loop-k-preserved : goal.loop-k-preserved
loop-k-preserved c =
    let loop = c.loop-k in
    let sheet = c.args.sheet.now in
    let lines = node_lines sheet c.args.waits.now in
    record {
      from_streams = streams_next sheet loop.k loop.invariant.from_streams (c.wide-from.ensures.0 ∙ c.stream_count.ensures);
      from_small = omega arith;
      lines = adds_next_line lines loop.k refl loop.invariant.lines c.put_node.ensures;
    }
