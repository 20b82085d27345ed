-- Where the words of the listed waits stand: one a stream, "in sheet order". Assumes nothing.
use Prim.Native.Nat.{ℕ, pred}
use mathlib.Core.Path.{◌≡◌}
use mathlib.Core.List.{List}
use lib.ListN.{length}
use Rattle.model.specs.Sheet.{word, total_streams, running_number, OnSheet}
use Rattle.model.specs.Analysis.{verdict_of}
use Rattle.model.specs.Answers.{wait_word, listed_waits}
use Rattle.model.proofs.Sheet.SheetOrder.{ordered_length, ordered_at}

module _ (s : List ℕ) where
  -- There is a word for each stream of the sheet.
  pub listed_length : length (listed_waits s) ≡ total_streams s
  listed_length = ordered_length s (λ k j. wait_word (verdict_of s k j))

  -- The word of a stream stands at its running number, from 1.
  pub listed_at : (k j : ℕ) → OnSheet s k j → word (listed_waits s) (pred (running_number s k j)) ≡ wait_word (verdict_of s k j)
  listed_at k j on = ordered_at s (λ k j. wait_word (verdict_of s k j)) k j on
