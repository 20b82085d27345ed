-- The words of a run, `run_words`: those of each turn in its order, until the horizon. The horizon is fuel enough, and silent turns add
-- no words. Assumes nothing.
use Prim.Native.Nat.{ℕ, zero, suc, ◌+◌, ◌*◌, ◌≤◌, ◌<◌}
use native.Mathlib.Nat.{zero-add, suc-add, add-suc}
use native.Mathlib.Omega.{arith}
use mathlib.Core.Path.{◌≡◌, refl, sym, ◌∙◌, ap}
use mathlib.Core.Bool.{Bool, true, false}
use mathlib.Core.List.{List, [], ◌++◌}
use lib.Dec.{ltb}
use borrow.Author.Tests.{ltb-false, lt-ltb, le-ltb}
use Rattle.theory.proofs.FirstOnes.{ones_stop}
use Rattle.model.specs.Sheet.{nodes, slot_ticks, budget}
use Rattle.model.specs.Protocol.{queue_of, State, turn}
use Rattle.model.specs.Trace.{begin_words, turn_words, run_words}
use Rattle.model.proofs.Protocol.Clock.{turn_least}
use Rattle.model.proofs.Protocol.Idle.{Quiet, idle, nobody, silent, none}

-- A turn that starts before the next release has no words.
turn_silent : (s log numbers : List ℕ) (st : State) (until : ℕ)
    → Quiet log st.begins until
    → st.bus.tick < until
    → turn_words s log numbers st ≡ []
unfolding begin_words
turn_silent s log numbers st until quiet early =
    let k : ℕ = st.bus.node in
    let tick : ℕ = st.bus.tick in
    rw (ones_stop (queue_of s log k tick st.begins) (budget s k) (nobody s log k tick until st.begins quiet early)) refl

module _ (s log numbers : List ℕ) (horizon : ℕ) where
  -- A turn starts before the horizon: its words come first.
  pub words_on : (fuel : ℕ) (st : State)
      → ltb st.bus.tick horizon ≡ true
      → run_words s log numbers horizon (suc fuel) st
      ≡ turn_words s log numbers st ++ run_words s log numbers horizon fuel (turn s log st)
  unfolding run_words
  words_on fuel st early = rw (early, run_words)

  -- The next turn would start at or after the horizon: there are no words.
  pub words_done : (fuel : ℕ) (st : State) → horizon ≤ st.bus.tick → run_words s log numbers horizon fuel st ≡ []
  unfolding run_words
  words_done zero st done = refl
  words_done (suc fuel) st done = rw (le-ltb st.bus.tick horizon done, run_words)

  -- Silent turns add no words to a run, here from the bus after none of them.
  from_none : (fuel : ℕ) (st : State) (until k : ℕ)
      → 1 ≤ nodes s
      → Quiet log st.begins until
      → st.bus.tick + k * slot_ticks s < until + slot_ticks s
      → st.bus.tick + k * slot_ticks s < horizon + slot_ticks s
      → run_words s log numbers horizon (k + fuel) (idle s st 0) ≡ run_words s log numbers horizon fuel (idle s st k)
  from_none fuel st until zero some quiet early before = rw zero-add refl
  from_none fuel st until (suc k) some quiet early before =
      let soon : st.bus.tick + k * slot_ticks s < until = omega arith in
      rw (suc-add k fuel, ← add-suc k fuel)
      (from_none (suc fuel) st until k some quiet (omega arith) (omega arith)
      ∙ words_on fuel (idle s st k) (lt-ltb (st.bus.tick + k * slot_ticks s) horizon (omega arith))
      ∙ ap (λ words. words ++ run_words s log numbers horizon fuel (turn s log (idle s st k)))
      (turn_silent s log numbers (idle s st k) until quiet soon)
      ∙ ap (run_words s log numbers horizon fuel) (silent s log st until k some quiet soon))

  -- A run has the same words with k silent turns taken at once, where the last of them starts before the next release and before
  -- the horizon.
  pub words_idle : (fuel : ℕ) (st : State) (until k : ℕ)
      → 1 ≤ st.bus.node
      → st.bus.node ≤ nodes s
      → Quiet log st.begins until
      → st.bus.tick + k * slot_ticks s < until + slot_ticks s
      → st.bus.tick + k * slot_ticks s < horizon + slot_ticks s
      → run_words s log numbers horizon (k + fuel) st ≡ run_words s log numbers horizon fuel (idle s st k)
  words_idle fuel st until k low high quiet early before =
      ap (run_words s log numbers horizon (k + fuel)) (sym (none s log st low high))
      ∙ from_none fuel st until k (omega arith) quiet early before

  module _ (slot : 1 ≤ slot_ticks s) where
    -- More fuel than is enough changes no words.
    pub words_fuel : (fuel more : ℕ) (st : State)
        → horizon ≤ st.bus.tick + fuel
        → horizon ≤ st.bus.tick + more
        → run_words s log numbers horizon fuel st ≡ run_words s log numbers horizon more st
    words_fuel zero more st enough also = words_done zero st (omega arith) ∙ sym (words_done more st (omega arith))
    words_fuel (suc fuel) zero st enough also = words_done (suc fuel) st (omega arith) ∙ sym (words_done zero st (omega arith))
    words_fuel (suc fuel) (suc more) st enough also =
        go (ltb st.bus.tick horizon) refl (words_fuel fuel more (turn s log st))
      where
        go : (b : Bool)
            → ltb st.bus.tick horizon ≡ b
            → (horizon ≤ (turn s log st).bus.tick + fuel
            → horizon ≤ (turn s log st).bus.tick + more
            → run_words s log numbers horizon fuel (turn s log st) ≡ run_words s log numbers horizon more (turn s log st))
            → run_words s log numbers horizon (suc fuel) st ≡ run_words s log numbers horizon (suc more) st
        go true early ih =
            words_on fuel st early
            ∙ ap (λ rest. turn_words s log numbers st ++ rest)
            (ih (omega (arith, turn_least s log st)) (omega (arith, turn_least s log st)))
            ∙ sym (words_on more st early)
        go false late ih =
            let done : horizon ≤ st.bus.tick = ltb-false st.bus.tick horizon late in
            words_done (suc fuel) st done ∙ sym (words_done (suc more) st done)

    -- A turn that starts before the horizon has its words before those of the rest of the run, with the horizon as fuel.
    pub words_next : (st : State)
        → st.bus.tick < horizon
        → run_words s log numbers horizon horizon st
        ≡ turn_words s log numbers st ++ run_words s log numbers horizon horizon (turn s log st)
    words_next st early = go horizon refl
      where
        go : (fuel : ℕ)
            → fuel ≡ horizon
            → run_words s log numbers horizon fuel st
            ≡ turn_words s log numbers st ++ run_words s log numbers horizon fuel (turn s log st)
        go zero same = absurd (omega arith)
        go (suc fuel) same =
            words_on fuel st (lt-ltb st.bus.tick horizon early)
            ∙ ap (λ rest. turn_words s log numbers st ++ rest)
            (words_fuel fuel (suc fuel) (turn s log st) (omega (arith, turn_least s log st)) (omega arith))
