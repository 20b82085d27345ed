-- The records of the streams, as document 02 ("Eight") has them: "messages begun, longest wait, how many waited longer than the listed wait".
-- They are "worked out afresh from the log and the begins so far". Rules 5.10 to 5.12. Assumes nothing.
use Rattle.std.specs.Prelude.{ℕ, suc, ◌+◌, ◌-◌, Bool, false, cond, not, ◌&&◌, List, [], ◌∷◌, get_or, ltb, eqb}
use Rattle.theory.specs.Count.{count_below, larger, largest_below}
use Rattle.model.specs.declared.StreamRecord.{StreamRecord}
use Rattle.model.specs.declared.Verdict.{Verdict}
use Rattle.model.specs.declared.Verdict.TheVariants.{Late, Listed}
use Rattle.model.specs.Limits.{not_begun}
use Rattle.model.specs.Sheet.{word, in_sheet_order}
use Rattle.model.specs.Analysis.{verdict_of}
use Rattle.model.specs.Protocol.{releases, release_tick, release_stream}

-- The "wait" of release i, which has begun: "begin tick minus release tick". A turn takes only what is due, so that no begin is earlier.
abbrev pub wait_of : List ℕ → List ℕ → ℕ → ℕ
wait_of log begins i = word begins i - release_tick log i

-- True where release i is a message of running stream r that has begun.
unfoldable pub begun_of : List ℕ → List ℕ → ℕ → ℕ → Bool
begun_of log begins r i = eqb (release_stream log i) r && not (eqb (word begins i) not_begun)

-- True for a wait "longer than the listed wait". A late stream has no listed wait: "For a late stream the third stays 0."
unfoldable pub longer_than : Verdict → ℕ → Bool
longer_than Late wait = false
longer_than (Listed listed cycles) wait = ltb listed wait

-- The record of running stream r, on which the verdict is v.
unfoldable pub record_of : List ℕ → List ℕ → ℕ → Verdict → StreamRecord
record_of log begins r v =
    record {
      begun = count_below (begun_of log begins r) (releases log);
      longest = largest_below (begun_of log begins r) (wait_of log begins) (releases log);
      over = count_below (λ i. begun_of log begins r i && longer_than v (wait_of log begins i)) (releases log);
    }

-- The records of the streams from running number r on, by the verdicts on them.
unfoldable pub records_from : List ℕ → List ℕ → ℕ → List Verdict → List StreamRecord
records_from log begins r [] = []
records_from log begins r (v ∷ vs) = record_of log begins r v ∷ records_from log begins (suc r) vs

-- The verdicts on all streams, "in sheet order". "Streams also have one running number over the whole sheet, from 1, in sheet order."
abbrev pub verdicts_of : List ℕ → List Verdict
verdicts_of s = in_sheet_order s (verdict_of s)

-- The list of records of a sheet's streams, "in sheet order".
unfoldable pub records_of : List ℕ → List ℕ → List ℕ → List StreamRecord
records_of s log begins = records_from log begins 1 (verdicts_of s)

-- The record of a stream of which no message has begun.
abbrev pub none_yet : StreamRecord
none_yet = record { begun = 0; longest = 0; over = 0 }

-- The record at a place of a list, counted from 0.
abbrev pub record_at : List StreamRecord → ℕ → StreamRecord
record_at records i = get_or records i none_yet

-- A record once one message more of its stream has begun, after a wait that was longer than the listed one or not.
unfoldable pub noted : Bool → ℕ → StreamRecord → StreamRecord
noted longer wait old =
    record {
      begun = old.begun + 1;
      longest = larger old.longest wait;
      over = cond longer (old.over + 1) old.over;
    }
