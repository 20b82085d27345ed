-- A run to a horizon, and then on to a later one, is a run to the later one; and so are its words. Assumes nothing.
use Prim.Native.Nat.{ℕ, zero, suc, ◌≤◌, ◌<◌}
use native.Mathlib.Omega.{arith}
use mathlib.Core.Path.{◌≡◌, refl, sym, ◌∙◌, ap}
use mathlib.Core.Bool.{Bool, true, false}
use mathlib.Core.List.{List, ◌++◌, append_assoc}
use lib.Dec.{ltb}
use borrow.Author.Tests.{ltb-true, ltb-false}
use Rattle.model.specs.Sheet.{slot_ticks}
use Rattle.model.specs.Protocol.{State, turn, run}
use Rattle.model.specs.Trace.{turn_words, run_words}
use Rattle.model.proofs.Protocol.Run.{run_on, run_done, run_next}
use Rattle.model.proofs.Protocol.RunWords.{words_on, words_done, words_next}

module _ (s log : List ℕ) (horizon further : ℕ) (later : horizon ≤ further) (slot : 1 ≤ slot_ticks s) where
  -- The state at the later horizon is the same,
  pub run_composed : (fuel : ℕ) (st : State) → run s log further further (run s log horizon fuel st) ≡ run s log further further st
  unfolding run
  run_composed zero st = refl
  run_composed (suc fuel) st = go (ltb st.bus.tick horizon) refl (run_composed fuel (turn s log st))
    where
      go : (b : Bool)
          → ltb st.bus.tick horizon ≡ b
          → run s log further further (run s log horizon fuel (turn s log st)) ≡ run s log further further (turn s log st)
          → run s log further further (run s log horizon (suc fuel) st) ≡ run s log further further st
      go true early ih =
          let before : st.bus.tick < horizon = ltb-true st.bus.tick horizon early in
          ap (run s log further further) (run_on s log horizon fuel st early)
          ∙ ih
          ∙ sym (run_next s log further slot st (omega arith))
      go false late ih =
          ap (run s log further further) (run_done s log horizon (suc fuel) st (ltb-false st.bus.tick horizon late))

  -- and so are the words.
  pub words_composed : (numbers : List ℕ) (fuel : ℕ) (st : State)
      → run_words s log numbers horizon fuel st ++ run_words s log numbers further further (run s log horizon fuel st)
      ≡ run_words s log numbers further further st
  unfolding run run_words
  words_composed numbers zero st = refl
  words_composed numbers (suc fuel) st = go (ltb st.bus.tick horizon) refl (words_composed numbers fuel (turn s log st))
    where
      -- the words from a state on to the later horizon
      rest : State → List ℕ
      rest end = run_words s log numbers further further end

      joined : ℕ → State → List ℕ
      joined n st = run_words s log numbers horizon n st ++ rest (run s log horizon n st)

      go : (b : Bool) → ltb st.bus.tick horizon ≡ b → joined fuel (turn s log st) ≡ rest (turn s log st) → joined (suc fuel) st ≡ rest st
      go true early ih =
          let before : st.bus.tick < horizon = ltb-true st.bus.tick horizon early in
          ap (λ ws. ws ++ rest (run s log horizon (suc fuel) st)) (words_on s log numbers horizon fuel st early)
          ∙ append_assoc (turn_words s log numbers st) _ _
          ∙ ap (λ end. turn_words s log numbers st ++ (run_words s log numbers horizon fuel (turn s log st) ++ rest end))
          (run_on s log horizon fuel st early)
          ∙ ap (λ ws. turn_words s log numbers st ++ ws) ih
          ∙ sym (words_next s log numbers further slot st (omega arith))
      go false late ih =
          let done : horizon ≤ st.bus.tick = ltb-false st.bus.tick horizon late in
          ap (λ ws. ws ++ rest (run s log horizon (suc fuel) st)) (words_done s log numbers horizon (suc fuel) st done)
          ∙ ap rest (run_done s log horizon (suc fuel) st done)
