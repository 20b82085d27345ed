-- `queue::look_at` meets its contract: past the tests the release is one of the node's, and due. Assumes nothing.
use native.Mathlib.Omega.{arith}
use mathlib.Core.Path.{◌≡◌, refl, sym, ap, ◌∙◌}
use mathlib.Core.Bool.{Bool, true, false, cond}
use mathlib.Core.List.{List}
use lib.Dec.{leb}
use lib.ListN.{take}
use borrow.Author.Tests.{le-leb}
use Prim.Native.Nat.{ℕ}
use Rattle.model.specs.Protocol.{release_tick, release_stream}
use Rattle.model.proofs.Protocol.Queue.{of_node_reading, of_node_below, of_node-above_lem}
use Rattle.ordering.specs.Ordering.{OwnRelease}
use Rattle.queue.proofs.look_at.Goals as goal
use Rattle.queue.proofs.look_at.Lts as lts
use Rattle.queue.proofs.look_at.Tie as tie
use Rattle.queue.proofs.look_at.Reads as reads

-- one of another node's is passed, due or not
either : (b : Bool) (xs : List ℕ) → xs ≡ cond b xs xs
either true xs = refl
either false xs = refl

-- the stream is one of the node's
own : (c : lts.Else2 tie.the-claims reads.Pre reads.Post tie.handed_clauses) → OwnRelease c.args.sheet.now c.args.log.now c.args.streams.node c.args.at
own c =
    let pre = c.requires in
    let read = c.wide-stream.ensures.0 in
    record {
      in_log = pre.streams_value.1;
      above = omega (arith, c.if-stream-streams.false, ap (λ r. r.before) pre.streams_value.0, read);
      up_to = omega (arith, c.if-streams-stream.false, ap (λ r. r.last) pre.streams_value.0, read);
    }

pub returns-then-stream-streams : goal.returns-then-stream-streams
returns-then-stream-streams c =
    let a = c.args in
    let pre = c.requires in
    let other = of_node_below a.sheet.now a.streams.node (release_stream a.log.now a.at) (omega (arith, c.if-stream-streams.true, ap (λ r. r.before) pre.streams_value.0, c.wide-stream.ensures.0)) in
    (pre.count_le_most.0, rw other (either (leb (release_tick a.log.now a.at) a.tick) (take a.count a.found.now)))

pub returns-then-streams-stream : goal.returns-then-streams-stream
returns-then-streams-stream c =
    let a = c.args in
    let pre = c.requires in
    let other = of_node-above_lem a.sheet.now a.streams.node (release_stream a.log.now a.at) (omega (arith, c.if-streams-stream.true, ap (λ r. r.last) pre.streams_value.0, c.wide-stream.ensures.0)) in
    (pre.count_le_most.0, rw other (either (leb (release_tick a.log.now a.at) a.tick) (take a.count a.found.now)))

pub returns : goal.returns
returns c =
    let a = c.before.before.before.before.before.before.before.before.before.before.before.before.before.before.before.before.before.args in
    let put = c.put_among.ensures in
    let placed = c.place_among-place.ensures in
    let listed = own c.before.before.before.before.before.before.before.before in
    let mine = (of_node_reading a.sheet.now a.streams.node (release_stream a.log.now a.at)).1 (listed.above, listed.up_to) in
    let due = le-leb (release_tick a.log.now a.at) a.tick c.if-tick-log.false in
    (put.0, put.1 ∙ rw (due, mine) (ap (take a.most) (sym placed.1)))
