-- The listed waits as numbers that every wait can be compared with. Assumes nothing.
use Rattle.std.specs.Prelude.{ℕ, ◌≤◌, ◌≡◌, List, map, length, take}
use Rattle.model.specs.declared.Verdict.{Verdict}
use Rattle.model.specs.declared.Verdict.TheVariants.{Late, Listed}
use Rattle.model.specs.Sheet.{total_streams}
use Rattle.model.specs.Records.{verdicts_of}

-- The largest word, which no wait exceeds.
abbrev pub no_limit : ℕ
no_limit = 4_294_967_295

-- The number that the waits of a stream are compared with: its listed wait; a late stream has none.
unfoldable pub limit_word : Verdict → ℕ
limit_word Late = no_limit
limit_word (Listed wait cycles) = wait

-- The front of a table has the limits of a sheet's streams, "in sheet order".
pub record LimitsOf (s limits : List ℕ) : Type 0 where
  pub long : total_streams s ≤ length limits
  pub front : take (total_streams s) limits ≡ map limit_word (verdicts_of s)
