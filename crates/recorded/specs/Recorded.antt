-- What the run with stream records goes by. Assumes nothing.
use Rattle.std.specs.Prelude.{ℕ, ◌≤◌, ◌<◌, ◌≡◌, List, ◌++◌, drop}
use Rattle.model.specs.declared.StreamRecord.{StreamRecord}
use Rattle.model.specs.Limits.{max_releases}
use Rattle.model.specs.Sheet.{total_streams}
use Rattle.model.specs.Protocol.{releases, release_stream}
use Rattle.model.specs.Records.{records_of}

-- The log is no longer than a log may be, and each stream of it is one of the sheet's.
pub record KnownStreams (s log : List ℕ) : Type 0 where
  pub few : releases log ≤ max_releases
  pub from : (i : ℕ) → i < releases log → 1 ≤ release_stream log i
  pub up_to : (i : ℕ) → i < releases log → release_stream log i ≤ total_streams s

-- A list with the records of the sheet's streams, "worked out afresh from the log and the begins so far", in its front; "records past them
-- stay".
abbrev pub list_for : List ℕ → List ℕ → List ℕ → List StreamRecord → List StreamRecord
list_for s log begins list = records_of s log begins ++ drop (total_streams s) list

-- The list is up to date with the begins so far.
abbrev pub UpToDate : List ℕ → List ℕ → List ℕ → List StreamRecord → Type 0
UpToDate s log begins list = list ≡ list_for s log begins list
