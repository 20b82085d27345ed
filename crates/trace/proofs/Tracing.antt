-- The run of a log with its trace, turn by turn: the rest of the run and of its words makes the whole, so that a loop can keep it.
-- Assumes nothing.
use Prim.Native.Nat.{ℕ, ◌+◌, ◌*◌, ◌≤◌, ◌<◌, zero-le}
use mathlib.Core.Path.{◌≡◌, refl, sym, ◌∙◌, ap}
use mathlib.Core.List.{List, ◌++◌, append-nil, append_assoc}
use native.Mathlib.Nat.{le_refl}
use native.Mathlib.Omega.{arith}
use lib.ListN.{length, take, drop, replicate, take-append-drop}
use lib.Seq.{get_or-take, length-take-le, drop-drop}
use Rattle.theory.specs.Listing.{replaced_at}
use Rattle.theory.proofs.Overwriting.{over_upto, over_past, over_length}
use Rattle.model.specs.declared.Bus.{Bus}
use Rattle.model.specs.Limits.{release_words, max_time, not_begun}
use Rattle.model.specs.Sheet.{message_ticks, slot_ticks, budget}
use Rattle.model.specs.Idle.{idle_bus, silent_turns}
use Rattle.model.specs.Protocol.{releases, taken_by, serve_turn, next_bus, State, turn, none_begun, run}
use Rattle.model.specs.Trace.{begin_words, run_words, begun_below}
use Rattle.model.proofs.Sheet.ValidSheet.{valid_fits}
use Rattle.model.proofs.Protocol.LongerBuffer.{front_served, front_takes}
use Rattle.model.proofs.Protocol.Idle.{Quiet, silent_before}
use Rattle.model.proofs.Protocol.RunWords.{words_done, words_fuel, words_next, words_idle}
use Rattle.model.proofs.Protocol.TurnCount.{begun_most}
use Rattle.model.proofs.Trace.TurnWords.{listed_count, listed_even}
use Rattle.queue.specs.Queue.{ValidNode, Arrived, FirstUnbegun}
use Rattle.runs.specs.Run.{state_in}
use Rattle.turns.proofs.TurnSteps.{served_by}
use Rattle.runs.proofs.RunSteps.{Running, passed_idle, running_from, running_on, running_passed}
use Rattle.progress.specs.declared.Progress.{Progress}
use Rattle.trace.specs.Progress.{NoneBefore}
use Rattle.progress.proofs.TurnFits.{turn_fits}

-- The run from a record has come this far, with these begin words and these words listed.
pub record Tracing (s log numbers : List ℕ) (held horizon : ℕ) (start : Bus) (begins₀ room₀ begins room : List ℕ) (p : Progress) : Type 0 where
  pub running : Running s log horizon (run s log horizon horizon (none_begun log start)) begins₀ begins p.bus p.from p.to
  pub held_to : held ≤ p.to
  pub counted : p.begun ≤ begun_below begins (releases log)
  pub same_room : length room ≡ length room₀
  pub untouched : drop (release_words * p.begun) room ≡ drop (release_words * p.begun) room₀
  pub told : take (release_words * p.begun) room ++ run_words s log numbers horizon horizon (state_in log p.bus begins)
      ≡ run_words s log numbers horizon horizon (none_begun log start)

module _ (s log numbers : List ℕ) (held horizon : ℕ) where
  -- It starts with nothing begun and nothing listed.
  pub tracing_start : {begins room : List ℕ} (start : Bus)
      → ValidNode s start.node
      → start.turns ≤ max_time
      → held ≤ releases log
      → take (releases log) begins ≡ replicate (releases log) not_begun
      → Tracing s log numbers held horizon start begins room begins room (record { bus = start; from = 0; to = held; begun = 0 })
  tracing_start start node few in_log clear =
      record {
        running = running_from s log horizon start node few in_log clear;
        held_to = le_refl held;
        counted = zero-le;
        same_room = refl;
        untouched = refl;
        told = rw clear refl;
      }

  -- Nothing is due: the silent turns up to the next tick at which something is, at once.
  pub tracing_idle : {start : Bus} {begins₀ room₀ begins room : List ℕ} {p : Progress} {from to until : ℕ}
      → FirstUnbegun log begins from
      → Arrived log p.bus.tick to
      → held ≤ to
      → p.bus.tick < until
      → until ≤ horizon
      → NoneBefore log begins until
      → Tracing s log numbers held horizon start begins₀ room₀ begins room p
      → Tracing s log numbers held horizon start begins₀ room₀ begins room
      (record { bus = idle_bus s p.bus (silent_turns (slot_ticks s) p.bus.tick until); from = from; to = to; begun = p.begun })
  tracing_idle {begins = begins} {room = room} {p = p} {until = until} first arrived least later in_run none here =
      let n : ℕ = releases log in
      let st : State = state_in log p.bus begins in
      let k : ℕ = silent_turns (slot_ticks s) p.bus.tick until in
      let node = here.running.node in
      let slot = (valid_fits s node.valid).header.slot_from in
      let silent = silent_before (slot_ticks s) p.bus.tick until slot later in
      let quiet : Quiet log (take n begins) until = λ i there unbegun. none i there (sym (get_or-take n begins i 0 there) ∙ unbegun) in
      let passed = passed_idle s log horizon {room = begins} p.bus node here.running.turns_to later in_run quiet in
      let idle = words_idle s log numbers horizon horizon st until k node.from node.up_to quiet silent.last (omega (arith, silent.last)) in
      let fuel = words_fuel s log numbers horizon slot (k + horizon) horizon st (omega arith) (omega arith) in
      record {
        running = running_passed s log horizon passed first arrived.in_log here.running;
        held_to = least;
        counted = here.counted;
        same_room = here.same_room;
        untouched = here.untouched;
        told = ap (λ ws. take (release_words * p.begun) room ++ ws) (sym idle ∙ fuel) ∙ here.told;
      }

  -- One turn more.
  pub tracing_turn : {start : Bus} {begins₀ room₀ begins room : List ℕ} {p : Progress} {from to : ℕ}
      → p.bus.tick < horizon
      → horizon ≤ max_time
      → releases log ≤ length begins
      → release_words * releases log ≤ length room
      → FirstUnbegun log begins from
      → Arrived log p.bus.tick to
      → held ≤ to
      → Tracing s log numbers held horizon start begins₀ room₀ begins room p
      → Tracing s log numbers held horizon start begins₀ room₀
      (serve_turn s log p.bus begins).begins
      (replaced_at room (release_words * p.begun)
      (begin_words (message_ticks s) p.bus.tick numbers
      (taken_by s log p.bus.node p.bus.tick (budget s p.bus.node) begins)))
      (record {
        bus = next_bus s p.bus (serve_turn s log p.bus begins).taken;
        from = from;
        to = to;
        begun = p.begun + (serve_turn s log p.bus begins).taken;
      })
  unfolding turn
  tracing_turn {room₀ = room₀} {begins = begins} {room = room} {p = p} early in_time fits roomy first arrived least here =
      let node = here.running.node in
      let bus : Bus = p.bus in
      let m : ℕ = budget s bus.node in
      let at : ℕ = release_words * p.begun in
      let taken : List ℕ = taken_by s log bus.node bus.tick m begins in
      let words : List ℕ = begin_words (message_ticks s) bus.tick numbers taken in
      let next : Bus = next_bus s bus (serve_turn s log bus begins).taken in
      let after : List ℕ = (serve_turn s log bus begins).begins in
      let turned = turn_fits s log bus begins p.begun node (omega arith) fits here.counted in
      let number = (served_by s log bus begins {taken = taken} refl).0 in
      let count = listed_count (message_ticks s) numbers bus.tick taken in
      let two = listed_even (message_ticks s) numbers bus.tick taken in
      let end : release_words * (p.begun + (serve_turn s log bus begins).taken) ≡ at + length words = omega (arith, number, count, two) in
      let room_for : at + length words ≤ length room = omega (arith, number, count, two, turned.in_log) in
      let served = front_served s log bus.node bus.tick m begins fits in
      let same = front_takes s log bus.node bus.tick m begins fits in
      let slot = (valid_fits s node.valid).header.slot_from in
      let rest = words_next s log numbers horizon slot (state_in log bus begins) early in
      let onward : run_words s log numbers horizon horizon (state_in log bus begins) ≡ words ++ run_words s log numbers horizon horizon (state_in log next after) =
      rest ∙ rw (same, served.taken, served.front) refl in
      record {
        running = running_on s log horizon early fits first arrived here.running;
        held_to = least;
        counted = turned.counted;
        same_room = over_length room at words room_for ∙ here.same_room;
        untouched = rw end (over_past room at words room_for ∙ sym (drop-drop (length words) at room) ∙ ap (drop (length words)) here.untouched ∙ drop-drop (length words) at room₀);
        told = rw end
            (ap (λ front. front ++ run_words s log numbers horizon horizon (state_in log next after)) (over_upto room at words room_for)
            ∙ append_assoc (take at room) words (run_words s log numbers horizon horizon (state_in log next after))
            ∙ ap (λ ws. take at room ++ ws) (sym onward)
            ∙ here.told);
      }

  -- At the horizon the run is done, and all its begins are listed.
  pub tracing_done : {start : Bus} {begins₀ room₀ begins room : List ℕ} {p : Progress}
      → horizon ≤ p.bus.tick
      → release_words * releases log ≤ length room
      → Tracing s log numbers held horizon start begins₀ room₀ begins room p
      → (release_words * p.begun ≡ length (run_words s log numbers horizon horizon (none_begun log start)))
      × (room ≡ run_words s log numbers horizon horizon (none_begun log start) ++ drop (release_words * p.begun) room₀)
  tracing_done {begins = begins} {room = room} {p = p} late roomy here =
      let at : ℕ = release_words * p.begun in
      let all = ap (λ ws. take at room ++ ws) (words_done s log numbers horizon horizon (state_in log p.bus begins) late) in
      let listed = sym (append-nil (take at room)) ∙ sym all ∙ here.told in
      let most = begun_most begins (releases log) in (
        sym (length-take-le at room (omega (arith, most, here.counted))) ∙ ap length listed,
        sym (take-append-drop at room) ∙ rw (listed, here.untouched) refl,
      )
