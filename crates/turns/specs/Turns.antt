-- What the contracts of the turns cite. Assumes nothing.
use Rattle.std.specs.Prelude.{ℕ, ◌≤◌, ◌<◌, List, length}
use Rattle.model.specs.Sheet.{word, nodes, message_ticks, slot_ticks}
use Rattle.model.specs.Protocol.{releases, release_tick}
use Rattle.turns.specs.declared.Header.{Header}

-- The header of a sheet: n, TMS and TPR.
abbrev pub header_as : List ℕ → Header
header_as s = record { nodes = nodes s; message = message_ticks s; slot = slot_ticks s }

-- All numbers of a list are below a bound.
abbrev pub AllBelow : ℕ → List ℕ → Type 0
AllBelow bound xs = (p : ℕ) → p < length xs → word xs p < bound

-- The next tick at which something can happen, where all but the releases from `to` on have begun: it is after the tick, not after
-- the horizon, and no release from `to` on comes before it.
pub record NextEvent (log : List ℕ) (horizon tick to until : ℕ) : Type 0 where
  pub later : tick < until
  pub in_run : until ≤ horizon
  pub quiet : (i : ℕ) → to ≤ i → i < releases log → until ≤ release_tick log i
