-- The line of a node: what node k sees of the turns of a replay. Its own turns serve its queue, and the other nodes' turns leave
-- its words. Assumes nothing.
use Prim.Native.Nat.{ℕ, suc, ◌*◌, ◌≤◌, ◌<◌}
use mathlib.Core.Path.{◌≡◌, sym, subst, ◌∙◌}
use mathlib.Core.Bool.{true}
use mathlib.Core.List.{List}
use native.Mathlib.Omega.{arith}
use native.Mathlib.Nat.{mul-le-mul_right, mul-lt-mul_of_pos_right}
use lib.Dec.{eqb}
use lib.ListN.{length, get_or-replicate}
use borrow.Author.Tests.{eqb-true, eqb-false}
use Rattle.model.specs.Limits.{not_begun}
use Rattle.model.specs.Sheet.{word, message_ticks, budget}
use Rattle.model.specs.Protocol.{releases, release_tick, release_stream, of_node, queued_before, waiting, turn, start, state_at, start_of, node_of}
use Rattle.model.proofs.Protocol.Queue.{node_once, queue_total}
use Rattle.model.proofs.Protocol.Waiting.{waiting_true, waiting_holds}
use Rattle.model.proofs.Protocol.Turn.{Placed, serve_taken, serve_kept, serve_places, serve_begun, serve_in_order, serve_ahead, serve-emptied}
use Rattle.model.proofs.Protocol.Clock.{taken_in, next_start, begins_length, node_range}
use Rattle.model.proofs.Demand.Accepted.{Replay, begins_early}
use Rattle.theory.proofs.Tests.{fails}
use Rattle.theory.proofs.Line.{Line, Waiting, Took, Serves, IsServed}

-- The line of node k, over so many turns of the protocol.
abbrev pub line_of : List ℕ → List ℕ → ℕ → ℕ → Line
line_of s log k turns =
    record {
      releases = releases log;
      tick = release_tick log;
      own = λ i. of_node s k (release_stream log i);
      before = queued_before s log k;
      budget = budget s k;
      message_ticks = message_ticks s;
      turns = turns;
      start = start_of s log;
      own_turn = λ t. eqb (node_of s log t) k;
      word = λ t i. word (state_at s log t).begins i;
      not_begun = not_begun;
    }

module _ {s log : List ℕ} {horizon turns : ℕ} (r : Replay s log horizon turns) where
  module _ (t : ℕ) (h : t < turns) where
    -- The node whose turn it is, and its line.
    abbrev node : ℕ
    node = node_of s log t

    abbrev line : Line
    line = line_of s log node turns

    -- A release in the node's queue when its turn starts, by the words before it or after it.
    to_waiting : (u i : ℕ)
        → i < releases log
        → waiting s log node (start_of s log t) (state_at s log u).begins i ≡ true
        → Waiting line (start_of s log t) u i
    to_waiting u i n w =
        let v = waiting_true s log node (start_of s log t) (state_at s log u).begins i w in
        record { in_log = n; own = v.own; released = v.released; unbegun = v.unbegun }

    from_waiting : (u i : ℕ)
        → Waiting line (start_of s log t) u i
        → waiting s log node (start_of s log t) (state_at s log u).begins i ≡ true
    from_waiting u i w =
        waiting_holds s log node (start_of s log t) (state_at s log u).begins i
        (record { released = w.released; own = w.own; unbegun = w.unbegun })

    words : releases log ≤ length (state_at s log t).begins
    words = omega (arith, begins_length s log t)

    takes : (p i : ℕ)
        → p < taken_in s log t
        → Placed s log node (start_of s log t) (state_at s log t).begins (state_at s log (suc t)).begins p i
        → Took line t p i
    takes p i b v =
        let m : p * message_ticks s ≤ taken_in s log t * message_ticks s = mul-le-mul_right (message_ticks s) (omega arith) in
        record {
          waited = to_waiting t i v.in_log v.waited;
          begun = λ x. omega (arith, begins_early r t h, v.at);
          word = v.at;
        }

    differs : (p i : ℕ)
        → Took line t p i
        → word (state_at s log t).begins i ≡ word (state_at s log (suc t)).begins i
        → ⊥
    differs p i m e = m.begun (sym e ∙ m.waited.unbegun)

    -- A turn serves the queue of its node.
    serves_queue : Serves line t
    unfolding state_at turn
    serves_queue =
        let begins = (state_at s log t).begins in
        let tick = start_of s log t in
        let m = budget s node in
        record {
          taken = taken_in s log t;
          in_budget = serve_taken s log node tick m begins;
          each_place = λ p b. let w = serve_places s log node tick m begins words p b in (w.0, takes p w.0 b w.1);
          only_taken = λ i n w b. let g = serve_begun s log node tick m begins words i (λ e. b (sym e ∙ w)) in
              (g.0, g.1, takes g.0 i g.1 g.2);
          in_order = λ p q a b l x y.
              let c : p * message_ticks s < q * message_ticks s = mul-lt-mul_of_pos_right l r.fits.header.message_from in
              serve_in_order s log node tick m begins words a b (differs p a x) (differs q b y) (omega (arith, x.word, y.word));
          first_ones = λ p a b x w.
              serve_ahead s log node tick m begins words (begins_early r t h)
              a b (differs p a x) w.in_log (from_waiting (suc t) b w);
          none_left = λ f i w.
              serve-emptied s log node tick m begins words (begins_early r t h) f i w.in_log (from_waiting (suc t) i w);
        }

  -- A release that does not wait at a turn's start keeps its word.
  turn_kept : (t i : ℕ)
      → (waiting s log (node_of s log t) (start_of s log t) (state_at s log t).begins i ≡ true → ⊥)
      → word (state_at s log (suc t)).begins i ≡ word (state_at s log t).begins i
  unfolding state_at turn
  turn_kept t i out =
      serve_kept s log (node_of s log t) (start_of s log t) (budget s (node_of s log t)) (state_at s log t).begins i
      (λ l. fails (waiting s log (node_of s log t) (start_of s log t) (state_at s log t).begins i) out)

  -- What has begun keeps its word.
  kept : (t i : ℕ)
      → (word (state_at s log t).begins i ≡ not_begun → ⊥)
      → word (state_at s log (suc t)).begins i ≡ word (state_at s log t).begins i
  kept t i b =
      turn_kept t i
      (λ w. b (waiting_true s log (node_of s log t) (start_of s log t) (state_at s log t).begins i w).unbegun)

  -- Another node's turn leaves the words of the node's releases: they are not in that node's queue.
  left_alone : (k t i : ℕ)
      → 1 ≤ k
      → (node_of s log t ≡ k → ⊥)
      → of_node s k (release_stream log i) ≡ true
      → word (state_at s log (suc t)).begins i ≡ word (state_at s log t).begins i
  left_alone k t i from other own =
      turn_kept t i
      (λ w.
      let v = waiting_true s log (node_of s log t) (start_of s log t) (state_at s log t).begins i w in
      let n = node_range s log r.fits.header.nodes_from t in
      other (node_once s k (node_of s log t) (release_stream log i) from n.0 own v.own))

  -- The line of a node is served.
  pub line_served : (k : ℕ) → 1 ≤ k → IsServed (line_of s log k turns)
  unfolding state_at start
  line_served k from =
      record {
        order = queue_total s log k;
        at_first = λ i h. get_or-replicate (releases log) i not_begun 0 h;
        kept = λ t i h n. kept t i;
        clock = λ t h. omega (arith, next_start s log t);
        own_turn = λ t h o.
            subst (λ (n : ℕ). Serves (line_of s log n turns) t) (eqb-true (node_of s log t) k o) (serves_queue t h);
        other_turn = λ t i h o n. left_alone k t i from (eqb-false (node_of s log t) k o);
      }
