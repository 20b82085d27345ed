-- Demand 3, whole: for every sheet, log and horizon that the replay accepts. Each part is one law of the file that it is cited from;
-- docs/DEMAND-3.md tells the argument in words. Assumes nothing.
use Prim.Native.Nat.{ℕ}
use native.Mathlib.Omega.{arith}
use mathlib.Core.Path.{◌≡◌, ap}
use mathlib.Core.List.{List}
use Rattle.model.specs.Sheet.{word}
use Rattle.model.specs.Protocol.{State, state_at, replayed}
use Rattle.model.specs.Demand.{Demand3}
use Rattle.model.proofs.Protocol.Run.{replayed_state}
use Rattle.model.proofs.Demand.Accepted.{Replay, accepted_replay}
use Rattle.model.proofs.Demand.Distance.{turns_apart}
use Rattle.model.proofs.Demand.TurnMessages.{messages_most}
use Rattle.model.proofs.Demand.WithinWait.{begins_within_wait}
use Rattle.model.proofs.Demand.Delivery.{delivered_in_time}

pub demand3 : Demand3
demand3 s log horizon accepts =
    let turns = (replayed s log horizon).bus.turns in
    let r : Replay s log horizon turns = accepted_replay accepts in
    let state : replayed s log horizon ≡ state_at s log turns = replayed_state s log horizon r.fits.header.slot_from in
    let words : (replayed s log horizon).begins ≡ (state_at s log turns).begins = ap (λ (st : State). st.begins) state in
    record {
      turns_counted = r.counted;
      next_start = ap (λ (st : State). st.bus.tick) state;
      every_release = λ i h. ap (λ (w : List ℕ). word w i) words;
      one_cycle_apart = λ a b next h. omega (arith, turns_apart r.fits log next);
      within_budget = λ i h. rw words (omega (arith, messages_most r i h));
      within_wait = λ k j wait cycles p i due. rw words (begins_within_wait r p i due);
      -- premise and bound by `omega`, so that a weaker promise would be met here and fall at its use
      delivered = λ k j wait J p latest fit i tick due.
          let early = fit.not_before i due.in_log due.of_stream in
          let d = delivered_in_time r p latest fit i tick due.in_log due.of_stream (omega (arith, due.due, early)) (omega (arith, due.in_time)) in
          rw words (record { turn = d.turn; begins = d.begins; over = omega (arith, d.over) });
    }
