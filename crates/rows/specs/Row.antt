-- A row as the rounds hand it on. Assumes nothing.
use Rattle.std.specs.Prelude.{ℕ, ◌≤◌, ◌≡◌, Bool, true, false, List, length}
use Rattle.model.specs.declared.Answer.{Answer}
use Rattle.model.specs.Limits.{max_nodes}
use Rattle.model.specs.Refusal.{refuse, accepted}
use Rattle.model.specs.Sheet.{word, nodes}
use Rattle.rounds.specs.Least.{OneToSixteen}
use Rattle.rows.specs.declared.Round.{Round}
use Rattle.rows.specs.declared.Round.TheVariants.{Stuck, Late, Settled}

-- Sixteen words, from 1 to 16 for the nodes of the sheet and 0 past them.
pub record Row (s row : List ℕ) : Type 0 where
  pub sixteen : length row ≡ max_nodes
  pub range : OneToSixteen s row
  pub past : (p : ℕ) → nodes s ≤ p → word row p ≡ 0

-- Refusal 11 at the node that a round names, where it names one.
abbrev pub stuck_of : Round → Answer
stuck_of (Stuck node) = refuse 11 node 0
stuck_of Late = accepted
stuck_of Settled = accepted

-- A round finds that streams are late, and no node of theirs has 16 already.
abbrev pub is_late : Round → Bool
is_late (Stuck node) = false
is_late Late = true
is_late Settled = false
