-- The run with stream records, turn by turn: what its loop keeps, and the laws of the loop. Assumes nothing.
use Prim.Native.Nat.{ℕ, ◌+◌, ◌-◌, ◌≤◌, ◌<◌}
use mathlib.Core.Path.{◌≡◌, refl, ◌∙◌}
use mathlib.Core.List.{List, ◌++◌}
use native.Mathlib.Omega.{arith}
use lib.ListN.{length, take, drop, replicate}
use Rattle.model.specs.declared.StreamRecord.{StreamRecord}
use Rattle.model.specs.Limits.{max_time, max_budget, not_begun}
use Rattle.model.specs.Sheet.{total_streams, Valid}
use Rattle.model.specs.Protocol.{releases, serve_turn, next_bus, first_turn, replayed}
use Rattle.model.specs.Records.{records_of}
use Rattle.queue.specs.Queue.{ValidNode, Rising, BegunFrom}
use Rattle.runs.specs.declared.Position.{Position}
use Rattle.limits.specs.Limits.{LimitsOf}
use Rattle.runs.specs.Run.{Ahead}
use Rattle.recorded.specs.Recorded.{KnownStreams, UpToDate}
use Rattle.recorded.proofs.TurnRecords.{list_current, list_next}
use Rattle.runs.proofs.RunSteps.{UnderWay, AfterTurn, under_way_start, under_way_turn, under_way_again, under_way_done}

-- What the run is asked with.
pub record Asked (s log : List ℕ) (horizon : ℕ) (limits found room : List ℕ) (records : List StreamRecord) : Type 0 where
  pub valid : Valid s
  pub rising : Rising log
  pub in_time : horizon ≤ max_time
  pub fits : releases log ≤ length room
  pub places : max_budget ≤ length found
  pub clear : take (releases log) room ≡ replicate (releases log) not_begun
  pub limited : LimitsOf s limits
  pub known : KnownStreams s log
  pub up_to_date : UpToDate s log room records

-- The three clauses that the run is asked with say so.
pub asked_by : {s log : List ℕ} {horizon : ℕ} {limits found room : List ℕ} {records : List StreamRecord}
    → Valid s × Rising log × (horizon ≤ max_time) × (releases log ≤ length room) × (max_budget ≤ length found)
    → take (releases log) room ≡ replicate (releases log) not_begun
    → LimitsOf s limits × KnownStreams s log × UpToDate s log room records
    → Asked s log horizon limits found room records
asked_by first clear dated =
    record {
      valid = first.0;
      rising = first.1;
      in_time = first.2;
      fits = first.3;
      places = first.4;
      clear = clear;
      limited = dated.0;
      known = dated.1;
      up_to_date = dated.2;
    }

-- The run has come to this position, with these lists; the records are up to date, and those past the sheet's streams are as they were.
pub record Noted (s log : List ℕ) (horizon : ℕ) (found₀ room₀ : List ℕ) (records₀ : List StreamRecord) (p : Position) (found room : List ℕ)
    (records : List StreamRecord) : Type 0 where
  pub under_way : UnderWay s log horizon (replayed s log horizon) room₀ room p
  pub same_found : length found ≡ length found₀
  pub same_records : length records ≡ length records₀
  pub up_to_date : records ≡ records_of s log room ++ drop (total_streams s) records₀

-- The turn at this position is over, and its messages are noted; the run has still to move on to its next turn.
pub record NotedTurn (s log : List ℕ) (horizon : ℕ) (found₀ room₀ : List ℕ) (records₀ : List StreamRecord) (p : Position) (taken : ℕ)
    (found room : List ℕ) (records : List StreamRecord) : Type 0 where
  pub turned : AfterTurn s log horizon (replayed s log horizon) room₀ room p taken
  pub same_found : length found ≡ length found₀
  pub same_records : length records ≡ length records₀
  pub up_to_date : records ≡ records_of s log room ++ drop (total_streams s) records₀

-- The loop starts where the run starts,
pub noted-start : {s log : List ℕ} {horizon : ℕ} {limits found₀ room₀ : List ℕ} {records₀ : List StreamRecord} {p : Position}
    → Asked s log horizon limits found₀ room₀ records₀
    → Ahead s log horizon room₀ first_turn p
    → Noted s log horizon found₀ room₀ records₀ p found₀ room₀ records₀
noted-start {s} {log} {horizon} asked ahead =
    record {
      under_way = under_way_start s log horizon asked.valid asked.clear ahead;
      same_found = refl;
      same_records = refl;
      up_to_date = asked.up_to_date;
    }

module _ {s log : List ℕ} {horizon : ℕ} {found₀ room₀ : List ℕ} {records₀ : List StreamRecord} {p : Position} {found room : List ℕ} {records : List
    StreamRecord}
    (here : Noted s log horizon found₀ room₀ records₀ p found room records) where
  -- has what a turn asks,
  pub turn_fits : {limits : List ℕ}
      → Asked s log horizon limits found₀ room₀ records₀
      → p.bus.tick < horizon
      → ValidNode s p.bus.node × (p.bus.tick ≤ max_time) × (releases log ≤ length room) × (max_budget ≤ length found)
  turn_fits asked early = (
    here.under_way.running.node,
    omega (arith, asked.in_time),
    omega (arith, here.under_way.running.same_length, asked.fits),
    omega (arith, here.same_found, asked.places),
  )

  pub turn_dated : UpToDate s log room records
  turn_dated = list_current s log room (drop (total_streams s) records₀) here.up_to_date

  -- takes it,
  pub noted-turn : {limits : List ℕ} {taken : ℕ} {found' room' : List ℕ} {records' : List StreamRecord}
      → Asked s log horizon limits found₀ room₀ records₀
      → p.bus.tick < horizon
      → taken ≡ (serve_turn s log p.bus room).taken
      → room' ≡ (serve_turn s log p.bus room).begins
      → records' ≡ records_of s log room' ++ drop (total_streams s) records
      → length found' ≡ length found
      → length records' ≡ length records
      → NotedTurn s log horizon found₀ room₀ records₀ p taken found' room' records'
  noted-turn {room' = room'} asked early count begins noted same_found same_records =
      record {
        turned = under_way_turn s log horizon early asked.in_time asked.fits count begins here.under_way;
        same_found = same_found ∙ here.same_found;
        same_records = same_records ∙ here.same_records;
        up_to_date = list_next s log room room' (drop (total_streams s) records₀) here.up_to_date noted;
      }

module _ {s log : List ℕ} {horizon : ℕ} {found₀ room₀ : List ℕ} {records₀ : List StreamRecord} {p : Position} {taken : ℕ} {found room : List ℕ}
    {records : List StreamRecord}
    (here : NotedTurn s log horizon found₀ room₀ records₀ p taken found room records) where
  -- has what moving on asks,
  pub move_from : (p.from ≤ releases log) × (p.to ≤ releases log) × BegunFrom room 0 p.from
  move_from = (here.turned.running.from_in_log, here.turned.running.to_in_log, here.turned.running.begun)

  pub move_in_time : (p.bus.tick ≤ max_time) × (p.bus.turns ≤ max_time + p.bus.tick) × (taken ≤ max_budget)
  move_in_time = (here.turned.in_time, here.turned.turns_to, here.turned.few)

  -- moves on, nearer to the horizon,
  pub noted_again : {q : Position}
      → Ahead s log horizon room (next_bus s p.bus taken) q
      → Noted s log horizon found₀ room₀ records₀ q found room records × (horizon + 1 - q.bus.tick < horizon + 1 - p.bus.tick)
  noted_again ahead =
      let on = under_way_again s log horizon here.turned ahead in
      (record { under_way = on.0; same_found = here.same_found; same_records = here.same_records; up_to_date = here.up_to_date }, on.1)

-- and is done at the horizon.
pub noted_done : {s log : List ℕ} {horizon : ℕ} {found₀ room₀ : List ℕ} {records₀ : List StreamRecord} {p : Position} {found room : List ℕ} {records
    : List StreamRecord}
    → horizon ≤ p.bus.tick
    → Noted s log horizon found₀ room₀ records₀ p found room records
    → (p.bus ≡ (replayed s log horizon).bus)
    × (room ≡ (replayed s log horizon).begins ++ drop (releases log) room₀)
    × (records ≡ records_of s log room ++ drop (total_streams s) records₀)
noted_done {s} {log} {horizon} late here =
    let end = under_way_done s log horizon late here.under_way in
    (end.0, end.1, here.up_to_date)
