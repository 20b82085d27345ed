-- Idle time: while no release waits and the next is still to come, the bus only passes protocol slots. k silent turns take
-- k × TPR ticks and move the node by k, and a run may take them at once. Assumes nothing.
use Prim.Native.Nat.{ℕ, zero, suc, pred, ◌+◌, ◌-◌, ◌*◌, ◌/◌, ◌%◌, ◌≤◌, ◌<◌}
use native.Mathlib.Nat.{zero-add, suc-add, add-suc, suc-mod, mod_self, mod-lt, mod-eq_of_lt, div-mul-le_self, le-mul_of_pos_right, le-div_iff_mul-le}
use native.Mathlib.Numerals.{add-one}
use native.Mathlib.Decide.{dec_lt}
use native.Mathlib.Omega.{arith}
use mathlib.Core.Path.{◌≡◌, refl, sym, ◌∙◌, ap}
use mathlib.Core.Bool.{Bool, true, false, cond}
use mathlib.Core.List.{List}
use borrow.Author.Tests.{lt-ltb, eqb-true, eqb-false}
use lib.Dec.{eqb}
use Rattle.model.specs.Limits.{not_begun}
use Rattle.model.specs.Sheet.{word, nodes, message_ticks, slot_ticks, budget}
use Rattle.model.specs.Protocol.{releases, release_tick, queue_of, next_node, next_bus, State, turn, run}
use Rattle.model.specs.Idle.{node_after, idle_bus, silent_turns, SilentBefore}
use Rattle.theory.specs.Queue.{first}
use Rattle.theory.proofs.FirstOnes.{first_waits}
use Rattle.model.proofs.Protocol.Waiting.{waiting_true}
use Rattle.model.proofs.Protocol.Turn.{serve_nobody}
use Rattle.model.proofs.Protocol.Run.{run_on}

-- No release before tick `until` is left: each has begun, or comes at `until` or later.
abbrev pub Quiet : List ℕ → List ℕ → ℕ → Type 0
Quiet log begins until = (i : ℕ) → i < releases log → word begins i ≡ not_begun → until ≤ release_tick log i

-- The bus after k silent turns.
abbrev pub idle : List ℕ → State → ℕ → State
idle s st k = record { bus = idle_bus s st.bus k; begins = st.begins }

-- One node further.
next_after : (s : List ℕ) (node k : ℕ) → 1 ≤ nodes s → next_node s (node_after s node k) ≡ node_after s node (suc k)
unfolding next_node
next_after s node k some = go (eqb (suc m) n) refl
  where
    n : ℕ
    n = nodes s

    m : ℕ
    m = (pred node + k) % n

    step : (pred node + suc k) % n ≡ suc m % n
    step = rw (add-suc (pred node) k) (suc-mod (pred node + k) n)

    go : (b : Bool) → eqb (suc m) n ≡ b → cond b 1 (suc m + 1) ≡ suc ((pred node + suc k) % n)
    go true last =
        let whole : suc m ≡ n = eqb-true (suc m) n last in
        ap suc (sym (step ∙ ap (λ i. i % n) whole ∙ mod_self n))
    go false more =
        let below : m < n = mod-lt (pred node + k) some in
        let other : suc m ≡ n → ⊥ = eqb-false (suc m) n more in
        add-one (suc m) ∙ ap suc (sym (step ∙ mod-eq_of_lt (omega arith)))

module _ (s log : List ℕ) where
  -- Nobody waits at a tick before the next release.
  pub nobody : (k tick until : ℕ) (begins : List ℕ)
      → Quiet log begins until
      → tick < until
      → releases log ≤ first (queue_of s log k tick begins)
  nobody k tick until begins quiet early = go (dec_lt (first (queue_of s log k tick begins)) (releases log))
    where
      go : Dec (first (queue_of s log k tick begins) < releases log) → releases log ≤ first (queue_of s log k tick begins)
      go (no none) = omega arith
      go (yes there) =
          let i : ℕ = first (queue_of s log k tick begins) in
          let waits = waiting_true s log k tick begins i (first_waits (queue_of s log k tick begins) there) in
          absurd (omega (arith, quiet i there waits.unbegun, waits.released))

  -- A turn that starts before the next release is silent.
  pub silent : (st : State) (until k : ℕ)
      → 1 ≤ nodes s
      → Quiet log st.begins until
      → st.bus.tick + k * slot_ticks s < until
      → turn s log (idle s st k) ≡ idle s st (suc k)
  unfolding turn next_bus
  silent st until k some quiet early =
      rw (serve_nobody s log node at (budget s node) st.begins (nobody node at until st.begins quiet early))
      (λ i. record {
        bus = record {
          tick = tick i;
          node = next_after s st.bus.node k some i;
          turns = turns i;
        };
        begins = st.begins;
      })
    where
      node : ℕ
      node = node_after s st.bus.node k

      at : ℕ
      at = st.bus.tick + k * slot_ticks s

      tick : st.bus.tick + k * slot_ticks s + 0 * message_ticks s + slot_ticks s ≡ st.bus.tick + suc k * slot_ticks s
      tick = omega arith

      turns : st.bus.turns + k + 1 ≡ st.bus.turns + suc k
      turns = omega arith

  from_none : (horizon fuel : ℕ) (st : State) (until k : ℕ)
      → 1 ≤ nodes s
      → Quiet log st.begins until
      → st.bus.tick + k * slot_ticks s < until + slot_ticks s
      → st.bus.tick + k * slot_ticks s < horizon + slot_ticks s
      → run s log horizon (k + fuel) (idle s st 0) ≡ run s log horizon fuel (idle s st k)
  from_none horizon fuel st until zero some quiet early before = rw zero-add refl
  from_none horizon fuel st until (suc k) some quiet early before =
      rw (suc-add k fuel, ← add-suc k fuel)
      (from_none horizon (suc fuel) st until k some quiet (omega arith) (omega arith)
      ∙ run_on s log horizon fuel (idle s st k) (lt-ltb (st.bus.tick + k * slot_ticks s) horizon (omega arith))
      ∙ ap (run s log horizon fuel) (silent st until k some quiet (omega arith)))

  -- No silent turn leaves the bus as it is.
  pub none : (st : State) → 1 ≤ st.bus.node → st.bus.node ≤ nodes s → idle s st 0 ≡ st
  none st low high = λ i. record { bus = record { tick = tick i; node = node i; turns = turns i }; begins = st.begins }
    where
      tick : st.bus.tick + 0 * slot_ticks s ≡ st.bus.tick
      tick = omega arith

      node : node_after s st.bus.node 0 ≡ st.bus.node
      node =
          let small : pred st.bus.node + 0 < nodes s = omega arith in
          let whole : suc (pred st.bus.node + 0) ≡ st.bus.node = omega arith in
          ap suc (mod-eq_of_lt small) ∙ whole

      turns : st.bus.turns + 0 ≡ st.bus.turns
      turns = omega arith

  -- A run may take k silent turns at once, where the last of them starts before the next release and before the horizon.
  pub run_idle : (horizon fuel : ℕ) (st : State) (until k : ℕ)
      → 1 ≤ st.bus.node
      → st.bus.node ≤ nodes s
      → Quiet log st.begins until
      → st.bus.tick + k * slot_ticks s < until + slot_ticks s
      → st.bus.tick + k * slot_ticks s < horizon + slot_ticks s
      → run s log horizon (k + fuel) st ≡ run s log horizon fuel (idle s st k)
  run_idle horizon fuel st until k low high quiet early before =
      ap (run s log horizon (k + fuel)) (sym (none st low high))
      ∙ from_none horizon fuel st until k (omega arith) quiet early before

-- How many silent turns start before a tick that is still to come.
pub silent_before : (slot tick until : ℕ) → 1 ≤ slot → tick < until → SilentBefore slot tick until (silent_turns slot tick until)
silent_before slot tick until one early =
    let x : ℕ = until - tick + slot - 1 in
    let low = div-mul-le_self x slot in
    record {
      some = (le-div_iff_mul-le one).1 (omega arith);
      few = le-mul_of_pos_right (x / slot) one;
      last = omega (arith, low);
    }
