-- The run to a horizon, turn by turn, over a buffer that may be longer than the log: the rest of the run from here equals the
-- whole, so that a loop can keep it. Assumes nothing.
use Prim.Native.Nat.{ℕ, pred, ◌+◌, ◌-◌, ◌≤◌, ◌<◌, zero-le}
use mathlib.Core.Path.{◌≡◌, refl, sym, ◌∙◌, ap}
use mathlib.Core.Logic.{by_cases}
use mathlib.Core.List.{List, ◌++◌}
use native.Mathlib.Nat.{not-suc-le-zero, le_refl, mod-lt}
use native.Mathlib.Decide.{dec_lt}
use native.Mathlib.Omega.{arith}
use lib.ListN.{length, take, drop, replicate, take-append-drop}
use lib.Seq.{get_or-take}
use Rattle.model.specs.declared.Bus.{Bus}
use Rattle.model.specs.Limits.{max_time, max_budget, not_begun}
use Rattle.model.specs.Sheet.{word, slot_ticks, budget, Valid}
use Rattle.model.specs.Protocol.{releases, serve_turn, next_bus, State, turn, none_begun, first_turn, start, run, replayed}
use Rattle.model.proofs.Sheet.ValidSheet.{valid_fits}
use Rattle.model.proofs.Protocol.Waiting.{waiting_begun}
use Rattle.model.proofs.Protocol.Turn.{serve-length, serve_kept}
use Rattle.model.proofs.Protocol.Run.{run_done, run_fuel, run_next}
use Rattle.model.proofs.Protocol.LongerBuffer.{front_served}
use Rattle.model.proofs.Protocol.Idle.{Quiet, run_idle, silent_before}
use Rattle.model.specs.Idle.{idle_bus, silent_turns}
use Rattle.queue.specs.Queue.{ValidNode, Arrived, BegunFrom, FirstUnbegun}
use Rattle.turns.specs.Turns.{NextEvent}
use Rattle.runs.specs.Run.{state_in, Ahead}
use Rattle.runs.specs.declared.Position.{Position}
use Rattle.turns.proofs.TurnSteps.{taken_few, clock_moves, next_valid, next_turns}

-- The run, which ends in this state, has come to this record and this buffer.
pub record Running (s log : List ℕ) (horizon : ℕ) (end : State) (room₀ room : List ℕ) (bus : Bus) (from to : ℕ) : Type 0 where
  pub reached : run s log horizon horizon (state_in log bus room) ≡ end
  pub rest : drop (releases log) room ≡ drop (releases log) room₀
  pub same_length : length room ≡ length room₀
  pub node : ValidNode s bus.node
  pub turns_to : bus.turns ≤ max_time + bus.tick
  pub from_in_log : from ≤ releases log
  pub to_in_log : to ≤ releases log
  pub begun : BegunFrom room 0 from

-- A run at this record goes on as one at that record, which is not before it.
pub record Passed (s log : List ℕ) (horizon : ℕ) (room : List ℕ) (bus next : Bus) : Type 0 where
  pub same : run s log horizon horizon (state_in log next room) ≡ run s log horizon horizon (state_in log bus room)
  pub node : ValidNode s next.node
  pub turns_to : next.turns ≤ max_time + next.tick
  pub clock : bus.tick ≤ next.tick

-- The run, which ends in this state, has come to this position: the search of its next turn can start there.
pub record UnderWay (s log : List ℕ) (horizon : ℕ) (end : State) (room₀ room : List ℕ) (p : Position) : Type 0 where
  pub running : Running s log horizon end room₀ room p.bus p.from p.to
  pub first : FirstUnbegun log room p.from
  pub arrived : Arrived log p.bus.tick p.to

-- The turn at this position took so many messages and left this buffer; the run has still to move on to its next turn.
pub record AfterTurn (s log : List ℕ) (horizon : ℕ) (end : State) (room₀ room : List ℕ) (p : Position) (taken : ℕ) : Type 0 where
  pub running : Running s log horizon end room₀ room (next_bus s p.bus taken) p.from p.to
  pub node : ValidNode s p.bus.node
  pub fits : releases log ≤ length room
  pub early : p.bus.tick < horizon
  pub in_time : p.bus.tick ≤ max_time
  pub turns_to : p.bus.turns ≤ max_time + p.bus.tick
  pub few : taken ≤ max_budget

-- The next turn's starting place: those from the last one on that have begun are passed.
pub moved_on : {log room : List ℕ} {known from : ℕ}
    → BegunFrom room 0 known
    → from ≤ releases log
    → BegunFrom room known from
    → (from < releases log → word room from ≡ not_begun)
    → FirstUnbegun log room from
moved_on {known = known} before in_log passed stops =
    record {
      in_log = in_log;
      begun = λ i low high. by_cases (dec_lt i known) (before i low) (λ late. passed i (omega arith) high);
      unbegun = stops;
    }

-- Where all that has come has begun, no release before the next event is left in the buffer's front.
pub quiet_front : {log room : List ℕ} {horizon tick from to until : ℕ}
    → FirstUnbegun log room from
    → to ≤ from
    → NextEvent log horizon tick to until
    → Quiet log (take (releases log) room) until
quiet_front {log} {room} {from = from} {to = to} first all event i there unbegun =
    by_cases (dec_lt i from)
    (λ before. absurd (first.begun i zero-le before (sym (get_or-take (releases log) room i 0 there) ∙ unbegun)))
    (λ after. event.quiet i (omega arith) there)

-- The bus starts with a node of the sheet.
pub first_valid : {s : List ℕ} → Valid s → ValidNode s first_turn.node
first_valid {s} valid = record { valid = valid; from = le_refl 1; up_to = (valid_fits s valid).header.nodes_from }

module _ (s log : List ℕ) (horizon : ℕ) where
  -- A run starts with a buffer whose front says that nothing has begun,
  pub running_from : {room : List ℕ} {to : ℕ} (bus : Bus)
      → ValidNode s bus.node
      → bus.turns ≤ max_time
      → to ≤ releases log
      → take (releases log) room ≡ replicate (releases log) not_begun
      → Running s log horizon (run s log horizon horizon (none_begun log bus)) room room bus 0 to
  running_from bus node few in_log clear =
      record {
        reached = rw clear refl;
        rest = refl;
        same_length = refl;
        node = node;
        turns_to = omega arith;
        from_in_log = zero-le;
        to_in_log = in_log;
        begun = λ i low below. absurd (not-suc-le-zero below);
      }

  -- and a replay with the bus's first turn.
  pub running_start : {room : List ℕ}
      → Valid s
      → take (releases log) room ≡ replicate (releases log) not_begun
      → Running s log horizon (replayed s log horizon) room room first_turn 0 0
  unfolding replayed start
  running_start valid clear =
      running_from first_turn (first_valid valid) zero-le zero-le clear

  -- One turn more.
  pub running_on : {end : State} {room₀ room : List ℕ} {bus : Bus} {from to known last : ℕ}
      → bus.tick < horizon
      → releases log ≤ length room
      → FirstUnbegun log room from
      → Arrived log bus.tick to
      → Running s log horizon end room₀ room bus known last
      → Running s log horizon end room₀ (serve_turn s log bus room).begins (next_bus s bus (serve_turn s log bus room).taken) from to
  unfolding turn
  running_on {room = room} {bus = bus} early fits first arrived here =
      let n : ℕ = releases log in
      let m : ℕ = budget s bus.node in
      let header = (valid_fits s here.node.valid).header in
      let served = front_served s log bus.node bus.tick m room fits in
      let taken : ℕ = (serve_turn s log bus room).taken in
      record {
        reached = rw (served.taken, served.front) (sym (run_next s log horizon header.slot_from (state_in log bus room) early) ∙ here.reached);
        rest = served.rest ∙ here.rest;
        same_length = serve-length s log bus.node bus.tick m room ∙ here.same_length;
        node = next_valid bus taken here.node;
        turns_to = next_turns bus taken here.node here.turns_to;
        from_in_log = first.in_log;
        to_in_log = arrived.in_log;
        begun = λ i low below unbegun.
            let kept = serve_kept s log bus.node bus.tick m room i (λ _. waiting_begun s log bus.node bus.tick room i (first.begun i low below)) in
            first.begun i low below (sym kept ∙ unbegun);
      }

  -- Nothing is passed,
  pub passed_none : {room : List ℕ} (bus : Bus)
      → ValidNode s bus.node
      → bus.turns ≤ max_time + bus.tick
      → Passed s log horizon room bus bus
  passed_none bus node turns = record { same = refl; node = node; turns_to = turns; clock = le_refl bus.tick }

  -- or nothing is due, and the silent turns up to the next release or the horizon are taken at once.
  pub passed_idle : {room : List ℕ} (bus : Bus) {until : ℕ}
      → ValidNode s bus.node
      → bus.turns ≤ max_time + bus.tick
      → bus.tick < until
      → until ≤ horizon
      → Quiet log (take (releases log) room) until
      → Passed s log horizon room bus (idle_bus s bus (silent_turns (slot_ticks s) bus.tick until))
  passed_idle {room} bus {until} node turns later in_run quiet =
      let st = state_in log bus room in
      let k : ℕ = silent_turns (slot_ticks s) bus.tick until in
      let header = (valid_fits s node.valid).header in
      let silent = silent_before (slot_ticks s) bus.tick until header.slot_from later in
      let taken = run_idle s log horizon horizon st until k node.from node.up_to quiet silent.last (omega (arith, silent.last, in_run)) in
      let fuel = run_fuel s log horizon header.slot_from (k + horizon) horizon st (omega arith) (omega arith) in
      record {
        same = sym taken ∙ fuel;
        node = record { valid = node.valid; from = omega arith; up_to = mod-lt (pred bus.node + k) header.nodes_from };
        turns_to = omega (arith, turns, silent.few);
        clock = omega arith;
      }

  -- A run that has passed silent turns has come to the record after them.
  pub running_passed : {end : State} {room₀ room : List ℕ} {bus next : Bus} {from to known last : ℕ}
      → Passed s log horizon room bus next
      → FirstUnbegun log room from
      → to ≤ releases log
      → Running s log horizon end room₀ room bus known last
      → Running s log horizon end room₀ room next from to
  running_passed passed first in_log here =
      record {
        reached = passed.same ∙ here.reached;
        rest = here.rest;
        same_length = here.same_length;
        node = passed.node;
        turns_to = passed.turns_to;
        from_in_log = first.in_log;
        to_in_log = in_log;
        begun = first.begun;
      }

  -- With the places where the search of a turn starts and ends, the position after them is ahead.
  pub ahead_passed : {room : List ℕ} {bus next : Bus} {from to : ℕ}
      → Passed s log horizon room bus next
      → FirstUnbegun log room from
      → Arrived log next.tick to
      → Ahead s log horizon room bus (record { bus = next; from = from; to = to })
  ahead_passed passed first arrived =
      record {
        same = passed.same;
        node = passed.node;
        turns_to = passed.turns_to;
        clock = passed.clock;
        first = first;
        arrived = arrived;
      }

  -- A run goes on at a position that is ahead.
  pub under_way_ahead : {end : State} {room₀ room : List ℕ} {bus : Bus} {known last : ℕ} {p : Position}
      → Ahead s log horizon room bus p
      → Running s log horizon end room₀ room bus known last
      → UnderWay s log horizon end room₀ room p
  under_way_ahead {room = room} {bus = bus} {p = p} ahead here =
      let passed : Passed s log horizon room bus p.bus =
      record { same = ahead.same; node = ahead.node; turns_to = ahead.turns_to; clock = ahead.clock } in
      record { running = running_passed passed ahead.first ahead.arrived.in_log here; first = ahead.first; arrived = ahead.arrived }

  -- At the horizon the run is done.
  pub running_done : {end : State} {room₀ room : List ℕ} {bus : Bus} {from to : ℕ}
      → horizon ≤ bus.tick
      → Running s log horizon end room₀ room bus from to
      → (bus ≡ end.bus) × (room ≡ end.begins ++ drop (releases log) room₀)
  running_done {end} {room₀} {room} {bus} late here =
      let ended = sym (run_done s log horizon horizon (state_in log bus room) late) ∙ here.reached in (
        ap (λ st. st.bus) ended,
        rw (← here.rest, ← ap (λ st. st.begins) ended) (sym (take-append-drop (releases log) room)),
      )

  -- A loop over the turns: it starts ahead of the bus's first turn,
  pub under_way_start : {room : List ℕ} {p : Position}
      → Valid s
      → take (releases log) room ≡ replicate (releases log) not_begun
      → Ahead s log horizon room first_turn p
      → UnderWay s log horizon (replayed s log horizon) room room p
  under_way_start valid clear ahead = under_way_ahead ahead (running_start valid clear)

  -- runs a turn,
  pub under_way_turn : {end : State} {room₀ room after : List ℕ} {p : Position} {taken : ℕ}
      → p.bus.tick < horizon
      → horizon ≤ max_time
      → releases log ≤ length room₀
      → taken ≡ (serve_turn s log p.bus room).taken
      → after ≡ (serve_turn s log p.bus room).begins
      → UnderWay s log horizon end room₀ room p
      → AfterTurn s log horizon end room₀ after p taken
  under_way_turn {end} {room₀} {room} {after} {p} {taken} early in_time fits count begins here =
      let fits-here : releases log ≤ length room = omega (arith, here.running.same_length) in
      let on = running_on early fits-here here.first here.arrived here.running in
      rw (count, begins) (record {
        running = on;
        node = here.running.node;
        fits = omega (arith, on.same_length);
        early = early;
        in_time = omega arith;
        turns_to = here.running.turns_to;
        few = taken_few s log p.bus room here.running.node;
      })

  -- moves on to the next one, nearer to the horizon,
  pub under_way_again : {end : State} {room₀ room : List ℕ} {p q : Position} {taken : ℕ}
      → AfterTurn s log horizon end room₀ room p taken
      → Ahead s log horizon room (next_bus s p.bus taken) q
      → UnderWay s log horizon end room₀ room q × (horizon + 1 - q.bus.tick < horizon + 1 - p.bus.tick)
  under_way_again {p = p} {taken = taken} turned ahead =
      let moves = clock_moves p.bus taken turned.node in
      (under_way_ahead ahead turned.running, omega (arith, moves, ahead.clock, turned.early))

  -- and is done at the horizon.
  pub under_way_done : {end : State} {room₀ room : List ℕ} {p : Position}
      → horizon ≤ p.bus.tick
      → UnderWay s log horizon end room₀ room p
      → (p.bus ≡ end.bus) × (room ≡ end.begins ++ drop (releases log) room₀)
  under_way_done late here = running_done late here.running
