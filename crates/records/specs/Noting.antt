-- What a begun message changes in a list of stream records. Assumes nothing.
use Rattle.std.specs.Prelude.{ℕ, pred, ◌+◌, ◌-◌, ◌≤◌, ◌<◌, List, [], ◌∷◌, ltb, length, set}
use Rattle.model.specs.declared.StreamRecord.{StreamRecord}
use Rattle.model.specs.Sheet.{word}
use Rattle.model.specs.Protocol.{releases, release_tick, release_stream}
use Rattle.model.specs.Records.{record_at, noted}
use Rattle.records.specs.declared.Note.{Note}

-- A record once one message more of its stream has begun, after a wait; waits above the limit are longer than listed.
abbrev pub noted_with : ℕ → ℕ → StreamRecord → StreamRecord
noted_with limit wait old = noted (ltb limit wait) wait old

-- A list of records once a message has begun: only the record of its own stream changes.
unfoldable pub noted_in : List StreamRecord → Note → List StreamRecord
noted_in records note = set records note.at (noted_with note.limit note.wait (record_at records note.at))

-- What is noted of release i, which begins at a tick.
abbrev pub note_as : List ℕ → List ℕ → ℕ → ℕ → Note
note_as log limits tick i =
    record {
      at = pred (release_stream log i);
      wait = tick - release_tick log i;
      limit = word limits (pred (release_stream log i));
    }

-- A list of records once messages have begun one after the other, the first of them at `tick`.
unfoldable pub noted_from : List ℕ → List ℕ → ℕ → ℕ → List ℕ → List StreamRecord → List StreamRecord
noted_from log limits ticks tick [] records = records
noted_from log limits ticks tick (i ∷ taken) records =
    noted_from log limits ticks (tick + ticks) taken (noted_in records (note_as log limits tick i))

-- The counts of a record have not come further than a number: the releases of a log, and in the middle of a turn its messages beside them.
pub record CountsUpTo (most : ℕ) (r : StreamRecord) : Type 0 where
  pub begun : r.begun ≤ most
  pub over : r.over ≤ most

-- Messages that begin from `tick` on can be noted: each is a release of the log and due, and each stream of the log has a limit and a record
-- that can still count.
pub record CanBeNoted (log limits places : List ℕ) (tick most : ℕ) (records : List StreamRecord) : Type 0 where
  pub in_log : (p : ℕ) → p < length places → word places p < releases log
  pub due : (p : ℕ) → p < length places → release_tick log (word places p) ≤ tick
  pub numbered : (i : ℕ) → i < releases log → 1 ≤ release_stream log i
  pub limited : (i : ℕ) → i < releases log → release_stream log i ≤ length limits
  pub recorded : (i : ℕ) → i < releases log → release_stream log i ≤ length records
  pub counts : (i : ℕ) → i < releases log → CountsUpTo most (record_at records (pred (release_stream log i)))
