-- How far apart the turns of a node are: at most a full cycle, as a turn takes at most its node's budget of messages and its protocol
-- slot. What is kept from turn to turn: its start, and the most that the turns from it up to node k's next one can take, stay
-- within the cycles since the window of node k opened. Assumes nothing.
use Prim.Native.Nat.{ℕ, zero, suc, pred, ◌+◌, ◌*◌, ◌≤◌, ◌<◌}
use mathlib.Core.Path.{◌≡◌, refl, ap}
use mathlib.Core.Logic.{◌⊎◌, inl, inr}
use mathlib.Core.Bool.{cond}
use mathlib.Core.List.{List}
use Rattle.theory.specs.Sum.{up_to, sum_to}
use Rattle.theory.proofs.Sums.{sum_plus, sum-scale, sum_const, up_to-length_lem, sum_to_none, sum_to_next, sum_to_grows}
use native.Mathlib.Omega.{arith}
use native.Mathlib.Nat.{le_refl}
use native.Mathlib.Decide.{dec_lt, le_ind}
use lib.Dec.{ltb}
use borrow.Author.Tests.{eqb-true, eqb-false, eq-eqb, ne_eqb, lt-ltb, le-ltb}
use Rattle.model.specs.Sheet.{nodes, message_ticks, slot_ticks, budget, cycle}
use Rattle.model.specs.Protocol.{next_node, start, state_at, start_of, node_of}
use Rattle.model.specs.Demand.{NextTurn}
use Rattle.model.proofs.Sheet.ValidSheet.{SheetFits}
use Rattle.model.proofs.Protocol.Clock.{after_node, turn_most, next_node_lem, node_range}
use Rattle.theory.proofs.Window.{Since, at_first, opens, own_turn, other_turn}
use Rattle.theory.proofs.BusyWindow.{Near}
use Rattle.model.proofs.Demand.NodeLine.{line_of}

-- The most ticks of a turn of node k.
abbrev pub turn_ticks : List ℕ → ℕ → ℕ
turn_ticks s k = budget s k * message_ticks s + slot_ticks s

-- The most ticks of one turn of each node up to node k.
abbrev ticks_up_to : List ℕ → ℕ → ℕ
ticks_up_to s k = sum_to (turn_ticks s) k

-- The most ticks of one turn of each node before node k.
abbrev ticks_before : List ℕ → ℕ → ℕ
ticks_before s k = ticks_up_to s (pred k)

-- A cycle where a round that has come to node n is past node k: so much later comes its next turn.
past : List ℕ → ℕ → ℕ → ℕ
past s k n = cond (ltb k n) (cycle s) 0

module _ (s : List ℕ) where
  -- Turns of all nodes, each as long as can be, are a full cycle.
  ticks_all : ticks_up_to s (nodes s) ≡ cycle s
  unfolding cycle
  ticks_all =
      omega (
        arith,
        sum_plus (λ k. budget s k * message_ticks s) (λ k. slot_ticks s) (up_to (nodes s)),
        sum-scale (budget s) (message_ticks s) (up_to (nodes s)),
        sum_const (slot_ticks s) (up_to (nodes s)),
        ap (λ (n : ℕ). n * slot_ticks s) (up_to-length_lem (nodes s)),
      )

  -- The turns before a node's and its own are part of a cycle.
  ticks_in_cycle : (k : ℕ) → 1 ≤ k → k ≤ nodes s → ticks_before s k + turn_ticks s k ≤ cycle s
  ticks_in_cycle zero from up_to = elim from [ ]
  ticks_in_cycle (suc k) from up_to = omega (arith, sum_to_next (turn_ticks s) k, sum_to_grows (turn_ticks s) (suc k) (nodes s) up_to, ticks_all)

  -- A cycle has room for a turn of each node.
  pub turn_in_cycle : (k : ℕ) → 1 ≤ k → k ≤ nodes s → turn_ticks s k ≤ cycle s
  turn_in_cycle k from up_to = omega (arith, ticks_in_cycle k from up_to)

  -- What `past` is.
  past_so : (k n : ℕ) → k < n → past s k n ≡ cycle s
  unfolding past
  past_so k n h = rw (lt-ltb k n h)

  past_not : (k n : ℕ) → n ≤ k → past s k n ≡ 0
  unfolding past
  past_not k n h = rw (le-ltb k n h)

  -- After another node's turn a round is past node k only if it was so before.
  past_other : (k n : ℕ) → (n ≡ k → ⊥) → past s k (suc n) ≡ past s k n
  past_other k n other = go (dec_lt k n)
    where
      go : Dec (k < n) → past s k (suc n) ≡ past s k n
      go (yes h) = omega (arith, past_so k n h, past_so k (suc n) (omega arith))
      go (no h) = omega (arith, past_not k n (omega arith), past_not k (suc n) (omega arith))

  -- From the turn of node n to the next: the round is longer by that turn, or it is over and another begins.
  next_turn : (k n : ℕ)
      → 1 ≤ k
      → k ≤ nodes s
      → 1 ≤ n
      → n ≤ nodes s
      → ticks_before s n + turn_ticks s n + past s k (next_node s n) ≡ ticks_before s (next_node s n) + past s k (suc n)
  next_turn k zero from up_to low high = elim low [ ]
  next_turn k (suc n) from up_to low high = go (after_node s (suc n) high)
    where
      go : {next : ℕ}
          → ((suc n ≡ nodes s) × (next ≡ 1)) ⊎ ((suc n < nodes s) × (next ≡ suc (suc n)))
          → ticks_up_to s n + turn_ticks s (suc n) + past s k next ≡ ticks_before s next + past s k (suc (suc n))
      go (inl (last, e)) =
          let all : ticks_up_to s (suc n) ≡ cycle s = rw last ticks_all in
          rw e (omega (arith, sum_to_next (turn_ticks s) n, sum_to_none (turn_ticks s), past_not k 1 from, past_so k (suc (suc n)) (omega arith)))
      go (inr (more, e)) = rw e (omega (arith, sum_to_next (turn_ticks s) n))

module _ {s : List ℕ} (fits : SheetFits s) (log : List ℕ) where
  module _ (k : ℕ) (from : 1 ≤ k) (up_to : k ≤ nodes s) where
    -- The clock from a turn to the next.
    step : (t : ℕ)
        → start_of s log (suc t) + past s k (node_of s log (suc t)) + ticks_before s (node_of s log t)
        ≤ start_of s log t + past s k (suc (node_of s log t)) + ticks_before s (node_of s log (suc t))
    unfolding state_at
    step t =
        let n = node_range s log fits.header.nodes_from t in
        let e = next_turn s k (node_of s log t) from up_to n.0 n.1 in
        rw (next_node_lem s log t) (omega (arith, turn_most s log (state_at s log t)))

    -- From a turn of node k to the next one.
    own_step : (t : ℕ)
        → node_of s log t ≡ k
        → start_of s log (suc t) + past s k (node_of s log (suc t)) + ticks_before s k
        ≤ start_of s log t + cycle s + ticks_before s (node_of s log (suc t))
    own_step t e = omega (arith, rw e at (step t), past_so s k (suc k) (omega arith))

    -- In a window with d own turns, the next one starts before d + 1 cycles are over, even if all turns up to it are full.
    next_own : {turns lo d t : ℕ}
        → Since (line_of s log k turns) lo d t
        → start_of s log t + past s k (node_of s log t) + ticks_before s k
        < lo + suc d * cycle s + ticks_before s (node_of s log t)
    unfolding state_at start
    next_own at_first =
        omega (arith, sum_to_none (turn_ticks s), past_not s k 1 from, ticks_in_cycle s k from up_to, fits.header.slot_from)
    next_own (opens {t} o) = omega (arith, own_step t (eqb-true (node_of s log t) k o))
    next_own (own_turn {t = t} o w) =
        let e = eqb-true (node_of s log t) k o in
        omega (arith, own_step t e, rw e at (next_own w))
    next_own (other_turn {t = t} o w) =
        omega (arith, step t, past_other s k (node_of s log t) (eqb-false (node_of s log t) k o), next_own w)

    -- Whenever since a tick there were d own turns before turn t, that turn starts within d + 1 cycles.
    pub near_cycles : (turns : ℕ) → Near (line_of s log k turns) (λ d. d * cycle s)
    near_cycles turns lo d t h w = go (dec_lt k (node_of s log t)) (node_range s log fits.header.nodes_from t)
      where
        go : Dec (k < node_of s log t)
            → (1 ≤ node_of s log t) × (node_of s log t ≤ nodes s)
            → start_of s log t < lo + suc d * cycle s
        go (yes l) n =
            omega (arith, next_own w, past_so s k (node_of s log t) l, ticks_in_cycle s (node_of s log t) n.0 n.1)
        go (no l) n = omega (arith, next_own w, sum_to_grows (turn_ticks s) (pred (node_of s log t)) (pred k) (omega arith))

  -- Between two turns of a node, one the next after the other, there is a window with no own turn.
  since_turn : {a b : ℕ} → NextTurn s log a b → Since (line_of s log (node_of s log a) b) (suc (start_of s log a)) 0 b
  since_turn {a} {b} next =
      le_ind
      (λ m. m ≤ b → Since (line_of s log (node_of s log a) b) (suc (start_of s log a)) 0 m)
      (λ h. opens (eq-eqb (node_of s log a) (node_of s log a) refl))
      (λ m l ih h. other_turn (ne_eqb (node_of s log m) (node_of s log a) (next.none_between m l h)) (ih (omega arith)))
      b
      next.ordered
      (le_refl b)

  -- Two turns of a node, one the next after the other, start at most a full cycle apart.
  pub turns_apart : {a b : ℕ} → NextTurn s log a b → start_of s log b ≤ start_of s log a + cycle s
  turns_apart {a} {b} next =
      let n = node_range s log fits.header.nodes_from a in
      omega (arith, near_cycles (node_of s log a) n.0 n.1 b (suc (start_of s log a)) 0 b (le_refl b) (since_turn next))
