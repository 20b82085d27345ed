-- What the search for J is asked with: numbers in the ranges that a valid sheet gives, so that no sum passes its type.
-- Assumes nothing.
use Rattle.std.specs.Prelude.{ℕ, ◌-◌, ◌+◌, ◌*◌, ◌≤◌, ◌<◌, ◌≡◌, List, length, get_or}
use Rattle.model.specs.declared.Stream.{Stream}
use Rattle.model.specs.declared.Timing.{Timing}
use Rattle.model.specs.Limits.{max_streams, max_budget, max_slot_ticks, max_time}
use Rattle.model.specs.Analysis.{IsLeastJ}
use Rattle.interference.specs.Periods.{interference_by}

-- The longest full cycle of a valid sheet.
abbrev pub max_cycle : ℕ
max_cycle = 2_720_000

-- Least periods and jitters as the streams above can have them: not too many, one of each for a stream, and in the ranges that a valid sheet
-- gives.
pub record HigherRanges (periods jitters : List ℕ) : Type 0 where
  pub few : length periods ≤ max_streams
  pub paired : length jitters ≡ length periods
  pub positive : (i : ℕ) → i < length periods → 1 ≤ get_or periods i 0
  pub periods_to : (i : ℕ) → i < length periods → get_or periods i 0 ≤ max_time
  pub jitters_below : (i : ℕ) → i < length periods → get_or jitters i 0 < get_or periods i 0

-- A full cycle and a budget as a node can have them.
pub record CycleAndBudget (cycle budget : ℕ) : Type 0 where
  pub cycle_from : 2 ≤ cycle
  pub cycle_to : cycle ≤ max_cycle
  pub budget_from : 1 ≤ budget
  pub budget_to : budget ≤ max_budget

-- A timing as a valid sheet has it.
pub record Ranges (t : Timing) : Type 0 where
  pub shares : CycleAndBudget t.cycle t.budget
  pub message_to : t.message ≤ max_slot_ticks
  pub slot_to : t.slot ≤ max_slot_ticks
  pub messages_to : t.budget * t.message ≤ max_budget * max_slot_ticks

-- The stream asked about as a valid sheet has it.
pub record StreamRanges (x : Stream) : Type 0 where
  pub deadline_to : x.deadline ≤ max_time
  pub jitter_to : x.jitter ≤ max_time

-- A number of cycles that is tried, and the interference in it.
pub record Tried (periods jitters : List ℕ) (t : Timing) (J h : ℕ) : Type 0 where
  pub from_one : 1 ≤ J
  pub cycles_to : J * t.cycle ≤ max_time + 1
  pub counted : h ≡ interference_by periods jitters (J * t.cycle - 1)

-- The search has come to J.
pub record FoundJ (periods jitters : List ℕ) (t : Timing) (J h : ℕ) : Type 0 where
  pub tried : Tried periods jitters t J h
  pub least : IsLeastJ (interference_by periods jitters) t J

-- The streams above fill the turns of J cycles.
pub record Filled (periods jitters : List ℕ) (t : Timing) (J h : ℕ) : Type 0 where
  pub tried : Tried periods jitters t J h
  pub filled : J * t.budget ≤ h
