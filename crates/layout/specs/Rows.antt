-- A contents row as one value. Assumes nothing.
use Rattle.std.specs.Prelude.{ℕ, List}
use Rattle.model.specs.Sheet.{place, stream_count, budget}
use Rattle.layout.specs.declared.Row.{Row}

-- The contents row of node k.
abbrev pub row_as : List ℕ → ℕ → Row
row_as s k = record { place = place s k; streams = stream_count s k; budget = budget s k }
