-- The clock of the bus: how far one turn moves it, and what holds before every turn of the protocol. Assumes nothing.
use Prim.Native.Nat.{ℕ, zero, suc, ◌+◌, ◌*◌, ◌≤◌, ◌<◌}
use mathlib.Core.Path.{◌≡◌, refl, ap, ◌∙◌}
use mathlib.Core.Logic.{◌⊎◌, inl, inr}
use mathlib.Core.List.{List}
use native.Mathlib.Nat.{mul-le-mul, mul-le-mul_right, le_refl}
use native.Mathlib.Numerals.{add-one}
use native.Mathlib.Decide.{ℕ_discrete, le_ind}
use native.Mathlib.Omega.{arith}
use lib.ListN.{length, length-replicate}
use borrow.Author.Tests.{eq-eqb, ne_eqb}
use Rattle.model.specs.Limits.{max_budget, max_slot_ticks, not_begun}
use Rattle.model.specs.Sheet.{nodes, message_ticks, slot_ticks, budget}
use Rattle.model.specs.Protocol.{releases, serve, serve_turn, next_node, next_bus, State, turn, start, state_at, start_of, node_of}
use Rattle.model.proofs.Protocol.Turn.{serve-length, serve_taken}

-- How many messages turn i takes.
abbrev pub taken_in : List ℕ → List ℕ → ℕ → ℕ
taken_in s log i = (serve_turn s log (state_at s log i).bus (state_at s log i).begins).taken

-- After the last node comes node 1, and after any other the one with the next number.
pub after_node : (s : List ℕ) (k : ℕ)
    → k ≤ nodes s
    → ((k ≡ nodes s) × (next_node s k ≡ 1)) ⊎ ((k < nodes s) × (next_node s k ≡ suc k))
unfolding next_node
after_node s k up_to = go (ℕ_discrete k (nodes s))
  where
    go : Dec (k ≡ nodes s) → ((k ≡ nodes s) × (next_node s k ≡ 1)) ⊎ ((k < nodes s) × (next_node s k ≡ suc k))
    go (yes last) = inl (last, rw (eq-eqb k (nodes s) last))
    go (no other) = inr (omega arith, rw (ne_eqb k (nodes s) other, add-one))

-- The node after one on the sheet is on the sheet.
pub next_range : (s : List ℕ) (k : ℕ) → 1 ≤ k → k ≤ nodes s → (1 ≤ next_node s k) × (next_node s k ≤ nodes s)
next_range s k from up_to = go (after_node s k up_to)
  where
    go : {next : ℕ} → ((k ≡ nodes s) × (next ≡ 1)) ⊎ ((k < nodes s) × (next ≡ suc k)) → (1 ≤ next) × (next ≤ nodes s)
    go (inl last) = omega arith
    go (inr more) = omega arith

module _ (s log : List ℕ) where
  -- A turn moves the clock by its protocol slot at least.
  pub turn_least : (st : State) → st.bus.tick + slot_ticks s ≤ (turn s log st).bus.tick
  unfolding turn next_bus
  turn_least st = omega arith

  -- A turn moves the clock by its budget of messages and its protocol slot at most.
  pub turn_most : (st : State)
      → (turn s log st).bus.tick ≤ st.bus.tick + budget s st.bus.node * message_ticks s + slot_ticks s
  unfolding turn next_bus
  turn_most st =
      let m : ℕ = budget s st.bus.node in
      let taken : ℕ = (serve_turn s log st.bus st.begins).taken in
      let within = serve_taken s log st.bus.node st.bus.tick m st.begins in
      let messages : taken * message_ticks s ≤ m * message_ticks s = mul-le-mul_right (message_ticks s) (omega arith) in
      omega arith

  -- The protocol goes from turn to turn.
  pub next_state : (i : ℕ) → state_at s log (suc i) ≡ turn s log (state_at s log i)
  unfolding state_at
  next_state i = refl

  -- The words after turn i are those that it leaves.
  pub next_begins : (i : ℕ)
      → (state_at s log (suc i)).begins
      ≡ (serve s log (node_of s log i) (start_of s log i) (budget s (node_of s log i)) (state_at s log i).begins).begins
  unfolding state_at turn
  next_begins i = refl

  -- The next turn starts after the messages taken and the protocol slot.
  pub next_start : (i : ℕ) → start_of s log (suc i) ≡ start_of s log i + taken_in s log i * message_ticks s + slot_ticks s
  unfolding state_at turn next_bus
  next_start i = refl

  -- The next turn is the next node's.
  pub next_node_lem : (i : ℕ) → node_of s log (suc i) ≡ next_node s (node_of s log i)
  unfolding state_at turn next_bus
  next_node_lem i = refl

  -- Turn i has i turns before it.
  pub turns_counted_lem : (i : ℕ) → (state_at s log i).bus.turns ≡ i
  unfolding state_at start turn next_bus
  turns_counted_lem zero = refl
  turns_counted_lem (suc i) = omega (arith, turns_counted_lem i)

  -- There is one begin word for each release.
  pub begins_length : (i : ℕ) → length (state_at s log i).begins ≡ releases log
  unfolding state_at start
  begins_length zero = length-replicate (releases log) not_begun
  begins_length (suc i) =
      ap length (next_begins i)
      ∙ serve-length s log (node_of s log i) (start_of s log i) (budget s (node_of s log i)) (state_at s log i).begins
      ∙ begins_length i

  -- The node of a turn is one on the sheet.
  pub node_range : 1 ≤ nodes s → (i : ℕ) → (1 ≤ node_of s log i) × (node_of s log i ≤ nodes s)
  unfolding state_at start
  node_range some zero = omega arith
  node_range some (suc i) = rw (next_node_lem i) (next_range s (node_of s log i) (node_range some i).0 (node_range some i).1)

  -- Where budgets, messages and protocol slots are in range, the next turn starts within the longest turn that there can be.
  pub turn_longest : 1 ≤ nodes s
      → message_ticks s ≤ max_slot_ticks
      → slot_ticks s ≤ max_slot_ticks
      → ((k : ℕ) → 1 ≤ k → k ≤ nodes s → budget s k ≤ max_budget)
      → (i : ℕ)
      → start_of s log (suc i) ≤ start_of s log i + (max_budget * max_slot_ticks + max_slot_ticks)
  unfolding state_at
  turn_longest some message slots budgets i =
      let r = node_range some i in
      let messages = mul-le-mul (budgets (node_of s log i) r.0 r.1) message in
      omega (arith, turn_most (state_at s log i))

  -- A later turn starts no earlier.
  pub starts_grow : (a b : ℕ) → a ≤ b → start_of s log a ≤ start_of s log b
  starts_grow a b h =
      le_ind (λ m. start_of s log a ≤ start_of s log m) (le_refl (start_of s log a)) (λ m from ih. omega (arith, next_start m)) b h

  module _ (slot : 1 ≤ slot_ticks s) where
    -- Each turn takes a tick at least.
    pub start_at_least : (i : ℕ) → i ≤ start_of s log i
    start_at_least zero = omega arith
    start_at_least (suc i) = omega (arith, next_start i, start_at_least i)
