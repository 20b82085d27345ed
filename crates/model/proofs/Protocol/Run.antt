-- The run to a horizon. The horizon is fuel enough, so the replay ends in the protocol's state before the first turn that would
-- start at or after it. Assumes nothing.
use Prim.Native.Nat.{ℕ, zero, suc, ◌+◌, ◌≤◌, ◌<◌}
use mathlib.Core.Path.{◌≡◌, refl, sym, ◌∙◌, ap}
use mathlib.Core.Logic.{⊎_elim}
use mathlib.Core.Bool.{Bool, true, false}
use mathlib.Core.List.{List}
use native.Mathlib.Nat.{eq-or-lt_of_le, le_antisymm}
use native.Mathlib.Decide.{dec_le}
use native.Mathlib.Omega.{arith}
use lib.Dec.{ltb}
use lib.ListN.{length}
use borrow.Author.Tests.{ltb-true, ltb-false, lt-ltb, le-ltb}
use Rattle.model.specs.Sheet.{slot_ticks, budget}
use Rattle.model.specs.Protocol.{releases, State, turn, state_at, start_of, TurnsBefore, run, replayed}
use Rattle.model.proofs.Protocol.Turn.{serve-length}
use Rattle.model.proofs.Protocol.Clock.{turn_least, next_state, next_start, turns_counted_lem, begins_length}

-- A run from the state before turn i ends in that before turn `count`, and its turns are those that start before the horizon.
record Reached (s log : List ℕ) (horizon fuel i : ℕ) : Type 0 where
  count : ℕ
  from : i ≤ count
  state : run s log horizon fuel (state_at s log i) ≡ state_at s log count
  started : (m : ℕ) → i ≤ m → m < count → start_of s log m < horizon
  ended : horizon ≤ start_of s log count

module _ (s log : List ℕ) (horizon : ℕ) where
  -- A turn starts before the horizon: it is run.
  pub run_on : (fuel : ℕ) (st : State)
      → ltb st.bus.tick horizon ≡ true
      → run s log horizon (suc fuel) st ≡ run s log horizon fuel (turn s log st)
  unfolding run
  run_on fuel st early = rw (early, run)

  -- The next turn would start at or after the horizon: the run is done.
  pub run_done : (fuel : ℕ) (st : State) → horizon ≤ st.bus.tick → run s log horizon fuel st ≡ st
  unfolding run
  run_done zero st done = refl
  run_done (suc fuel) st done = rw (le-ltb st.bus.tick horizon done, run)

  -- A run leaves as many begin words as there were.
  pub run_length : (fuel : ℕ) (st : State) → length (run s log horizon fuel st).begins ≡ length st.begins
  unfolding run turn
  run_length zero st = refl
  run_length (suc fuel) st = go (ltb st.bus.tick horizon) refl (run_length fuel (turn s log st))
    where
      go : (b : Bool)
          → ltb st.bus.tick horizon ≡ b
          → length (run s log horizon fuel (turn s log st)).begins ≡ length (turn s log st).begins
          → length (run s log horizon (suc fuel) st).begins ≡ length st.begins
      go true early ih =
          ap (λ end. length end.begins) (run_on fuel st early)
          ∙ ih
          ∙ serve-length s log st.bus.node st.bus.tick (budget s st.bus.node) st.begins
      go false late ih =
          ap (λ end. length end.begins) (run_done (suc fuel) st (ltb-false st.bus.tick horizon late))

  module _ (slot : 1 ≤ slot_ticks s) where
    -- More fuel than is enough changes nothing.
    pub run_fuel : (fuel more : ℕ) (st : State)
        → horizon ≤ st.bus.tick + fuel
        → horizon ≤ st.bus.tick + more
        → run s log horizon fuel st ≡ run s log horizon more st
    run_fuel zero more st enough also = run_done zero st (omega arith) ∙ sym (run_done more st (omega arith))
    run_fuel (suc fuel) zero st enough also = run_done (suc fuel) st (omega arith) ∙ sym (run_done zero st (omega arith))
    run_fuel (suc fuel) (suc more) st enough also = go (ltb st.bus.tick horizon) refl (run_fuel fuel more (turn s log st))
      where
        go : (b : Bool)
            → ltb st.bus.tick horizon ≡ b
            → (horizon ≤ (turn s log st).bus.tick + fuel
            → horizon ≤ (turn s log st).bus.tick + more
            → run s log horizon fuel (turn s log st) ≡ run s log horizon more (turn s log st))
            → run s log horizon (suc fuel) st ≡ run s log horizon (suc more) st
        go true early ih =
            run_on fuel st early
            ∙ ih (omega (arith, turn_least s log st)) (omega (arith, turn_least s log st))
            ∙ sym (run_on more st early)
        go false late ih =
            let done : horizon ≤ st.bus.tick = ltb-false st.bus.tick horizon late in
            run_done (suc fuel) st done ∙ sym (run_done (suc more) st done)

    -- A turn that starts before the horizon leaves the rest of the run, with the horizon as fuel.
    pub run_next : (st : State)
        → st.bus.tick < horizon
        → run s log horizon horizon st ≡ run s log horizon horizon (turn s log st)
    run_next st early = go horizon refl
      where
        go : (fuel : ℕ) → fuel ≡ horizon → run s log horizon fuel st ≡ run s log horizon fuel (turn s log st)
        go zero same = absurd (omega arith)
        go (suc fuel) same =
            run_on fuel st (lt-ltb st.bus.tick horizon early)
            ∙ run_fuel fuel (suc fuel) (turn s log st) (omega (arith, turn_least s log st)) (omega arith)

    -- Fuel enough reaches the horizon.
    reached : (fuel i : ℕ) → horizon ≤ start_of s log i + fuel → Reached s log horizon fuel i
    reached zero i enough =
        record {
          count = i;
          from = omega arith;
          state = run_done zero (state_at s log i) (omega arith);
          started = λ m after before. absurd (omega arith);
          ended = omega arith;
        }
    reached (suc fuel) i enough = go (ltb (start_of s log i) horizon) refl (reached fuel (suc i))
      where
        go : (b : Bool)
            → ltb (start_of s log i) horizon ≡ b
            → (horizon ≤ start_of s log (suc i) + fuel → Reached s log horizon fuel (suc i))
            → Reached s log horizon (suc fuel) i
        go true early ih =
            let r : Reached s log horizon fuel (suc i) = ih (omega (arith, next_start s log i)) in
            record {
              count = r.count;
              from = omega (arith, r.from);
              state = run_on fuel (state_at s log i) early ∙ rw (← next_state s log i) r.state;
              started = λ m after before. ⊎_elim
                  (λ same. rw (← same) (ltb-true (start_of s log i) horizon early))
                  (λ later. r.started m later before)
                  (eq-or-lt_of_le after);
              ended = r.ended;
            }
        go false late ih =
            let done : horizon ≤ start_of s log i = ltb-false (start_of s log i) horizon late in
            record {
              count = i;
              from = omega arith;
              state = run_done (suc fuel) (state_at s log i) done;
              started = λ m after before. absurd (omega arith);
              ended = done;
            }

    whole : Reached s log horizon horizon 0
    whole = reached horizon 0 (omega arith)

    ends_in : replayed s log horizon ≡ state_at s log whole.count
    unfolding replayed state_at
    ends_in = whole.state

    counted : (replayed s log horizon).bus.turns ≡ whole.count
    counted = ap (λ st. st.bus.turns) ends_in ∙ turns_counted_lem s log whole.count

    -- The replay ends in the protocol's state after the turns that it counts.
    pub replayed_state : replayed s log horizon ≡ state_at s log (replayed s log horizon).bus.turns
    replayed_state = ends_in ∙ ap (state_at s log) (sym counted)

    -- The replay leaves a begin word for each release.
    pub replayed-length : length (replayed s log horizon).begins ≡ releases log
    replayed-length = ap (λ st. length st.begins) replayed_state ∙ begins_length s log (replayed s log horizon).bus.turns

    -- The turns that the replay counts are those that start before the horizon.
    pub replayed_turns : TurnsBefore s log horizon (replayed s log horizon).bus.turns
    replayed_turns = rw counted (record { started = λ i h. whole.started i (omega arith) h; ended = whole.ended })

-- There is but one number of turns that start before the horizon.
pub turns_unique : {s log : List ℕ} {horizon a b : ℕ} → TurnsBefore s log horizon a → TurnsBefore s log horizon b → a ≡ b
turns_unique {s} {log} {horizon} p q = le_antisymm (at_most p q) (at_most q p)
  where
    at_most : {x y : ℕ} → TurnsBefore s log horizon x → TurnsBefore s log horizon y → x ≤ y
    at_most {x} {y} p q = elim (dec_le x y) [
      | yes h ↦ h
      | no over ↦ absurd (omega (arith, p.started y (omega arith), q.ended))
    ]
