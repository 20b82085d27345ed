-- One turn, message by message: what is left of the writing equals the whole, so that a loop can keep it. Assumes nothing.
use Prim.Native.Nat.{ℕ, ◌+◌, ◌*◌, ◌≤◌, ◌<◌}
use mathlib.Core.Path.{◌≡◌, refl, sym, ap, ◌∙◌}
use mathlib.Core.List.{List}
use native.Mathlib.Numerals.{add-one}
use native.Mathlib.Omega.{arith}
use lib.ListN.{length, set, drop, drop_of_length-le}
use lib.Seq.{drop-cons}
use Rattle.theory.proofs.Places.{at_word}
use Rattle.theory.proofs.FirstOnes.{taking, taken_waits}
use Rattle.model.specs.declared.Bus.{Bus}
use Rattle.model.specs.Limits.{max_time, max_budget}
use Rattle.model.specs.Sheet.{word, message_ticks, slot_ticks, budget}
use Rattle.model.specs.Protocol.{releases, queue_of, taken_by, begins_from, serve, serve_turn, next_node, next_bus}
use Rattle.model.proofs.Sheet.ValidSheet.{valid_fits}
use Rattle.model.proofs.Protocol.Turn.{serve_taken}
use Rattle.model.proofs.Protocol.Clock.{next_range}
use Rattle.queue.specs.Queue.{ValidNode}
use Rattle.turns.specs.Turns.{AllBelow}

module _ (ticks : ℕ) (taken : List ℕ) where
  -- The message at place j begins.
  pub begins_next : (j begin : ℕ) (room : List ℕ) {whole : List ℕ}
      → j < length taken
      → begins_from ticks begin (drop j taken) room ≡ whole
      → begins_from ticks (begin + ticks) (drop (j + 1) taken) (set room (word taken j) begin) ≡ whole
  unfolding begins_from
  begins_next j begin room inside rest =
      rw (add-one j) (sym (ap (λ xs. begins_from ticks begin xs room) (drop-cons taken j 0 inside)) ∙ rest)

  -- All have begun.
  pub begins_done : (j begin : ℕ) {room whole : List ℕ}
      → length taken ≤ j
      → begins_from ticks begin (drop j taken) room ≡ whole
      → room ≡ whole
  unfolding begins_from
  begins_done j begin {room} done rest =
      sym (ap (λ xs. begins_from ticks begin xs room) (drop_of_length-le taken {i = j} done)) ∙ rest

-- Those that a turn takes are releases of the log.
pub taken_below : (s log : List ℕ) (k tick m : ℕ) (room : List ℕ) {bound : ℕ}
    → releases log ≤ bound
    → AllBelow bound (taken_by s log k tick m room)
taken_below s log k tick m room fits p inside =
    let w = taken_waits (taking m (queue_of s log k tick room)) (at_word (taken_by s log k tick m room) p inside) in
    omega (arith, w.0)

-- What a turn does, by those that it takes.
pub served_by : (s log : List ℕ) (bus : Bus) (room : List ℕ) {taken : List ℕ}
    → taken ≡ taken_by s log bus.node bus.tick (budget s bus.node) room
    → (length taken ≡ (serve_turn s log bus room).taken)
    × (begins_from (message_ticks s) bus.tick taken room ≡ (serve_turn s log bus room).begins)
unfolding serve
served_by s log bus room same = (ap length same, ap (λ xs. begins_from (message_ticks s) bus.tick xs room) same)

-- A budget is sixteen at most,
pub few_sent : (s : List ℕ) (k : ℕ) → ValidNode s k → budget s k ≤ max_budget
few_sent s k node = ((valid_fits s node.valid).rows k node.from node.up_to).budget_to

-- and so are the messages that a turn takes.
pub taken_few : (s log : List ℕ) (bus : Bus) (room : List ℕ) → ValidNode s bus.node → (serve_turn s log bus room).taken ≤ max_budget
taken_few s log bus room node =
    omega (arith, few_sent s bus.node node, serve_taken s log bus.node bus.tick (budget s bus.node) room)

-- The record of the next turn, field by field.
pub next_record : (s : List ℕ) (bus : Bus) (x : ℕ) {node message slot : ℕ}
    → node ≡ next_node s bus.node
    → message ≡ message_ticks s
    → slot ≡ slot_ticks s
    → record { tick = bus.tick + x * message + slot; node = node; turns = bus.turns + 1 } ≡ next_bus s bus x
unfolding next_bus
next_record s bus x next sent passed = rw (next, sent, passed) refl

-- A turn moves the clock.
pub clock_moves : {s : List ℕ} (bus : Bus) (x : ℕ) → ValidNode s bus.node → bus.tick < (next_bus s bus x).tick
unfolding next_bus
clock_moves {s} bus x node = omega (arith, (valid_fits s node.valid).header.slot_from)

-- It leads to a node of the sheet,
pub next_valid : {s : List ℕ} (bus : Bus) (x : ℕ) → ValidNode s bus.node → ValidNode s (next_bus s bus x).node
unfolding next_bus
next_valid {s} bus x node =
    let range = next_range s bus.node node.from node.up_to in
    record { valid = node.valid; from = range.0; up_to = range.1 }

-- and its count stays below the clock and the last tick.
pub next_turns : {s : List ℕ} (bus : Bus) (x : ℕ)
    → ValidNode s bus.node
    → bus.turns ≤ max_time + bus.tick
    → (next_bus s bus x).turns ≤ max_time + (next_bus s bus x).tick
unfolding next_bus
next_turns {s} bus x node few = omega (arith, few, (valid_fits s node.valid).header.slot_from)
