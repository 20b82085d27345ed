-- Demand 3 read off the records: no message of a stream under its premises waited longer than the listed wait. Assumes nothing.
use Prim.Native.Nat.{ℕ, pred, ◌+◌, ◌≤◌, ◌<◌}
use native.Mathlib.Decide.{ℕ_discrete}
use native.Mathlib.Omega.{arith}
use mathlib.Core.Path.{◌≡◌, ap, ◌∙◌}
use mathlib.Core.Bool.{false, ◌&&◌, and-false}
use mathlib.Core.List.{List, ◌++◌}
use lib.ListN.{length, get_or-append}
use borrow.Author.Tests.{le-ltb}
use Rattle.theory.proofs.Largest.{count_below_none}
use Rattle.model.specs.declared.StreamRecord.{StreamRecord}
use Rattle.model.specs.declared.Verdict.TheVariants.{Late, Listed}
use Rattle.model.specs.Sheet.{word, running_number}
use Rattle.model.specs.Protocol.{releases, release_tick, release_stream}
use Rattle.model.specs.Records.{wait_of, begun_of, longer_than, record_of, records_of, none_yet}
use Rattle.model.specs.Demand.{WholeReplay, NoneOver}
use Rattle.model.proofs.Records.OneBegin.{over_of, stranger_not}
use Rattle.model.proofs.Records.Listed.{running_most, records_length, records_at}

-- A stream whose messages begin within a wait has none that waited longer.
pub none_longer : (log words : List ℕ) (r wait cycles : ℕ)
    → ((i : ℕ) → i < releases log → release_stream log i ≡ r → word words i ≤ release_tick log i + wait)
    → (record_of log words r (Listed wait cycles)).over ≡ 0
unfolding record_of longer_than
none_longer log words r wait cycles within =
    count_below_none (over_of log words r (Listed wait cycles)) (releases log) (λ i h. out i h (ℕ_discrete (release_stream log i) r))
  where
    out : (i : ℕ) → i < releases log → Dec (release_stream log i ≡ r) → over_of log words r (Listed wait cycles) i ≡ false
    out i h (yes own) =
        let short : wait_of log words i ≤ wait = omega (arith, within i h own) in
        ap (λ longer. begun_of log words r i && longer) (le-ltb wait (wait_of log words i) short) ∙ and-false (begun_of log words r i)
    out i h (no other) = rw (stranger_not log words r i other)

-- Demand 3 of a whole replay, read off a list whose front has the records of its words.
pub none_over : (s log : List ℕ) (horizon turns next : ℕ) (words : List ℕ) (rest : List StreamRecord)
    → WholeReplay s log horizon turns next words
    → NoneOver s log horizon (records_of s log words ++ rest)
none_over s log horizon turns next words rest whole k j wait cycles premises in_time =
    let on = premises.on_sheet in
    let r : ℕ = running_number s k j in
    let inside : pred r < length (records_of s log words) = omega (arith, records_length s log words, running_most s k j on, on.stream_from) in
    let front = get_or-append (records_of s log words) rest none_yet (pred r) inside in
    let its = front ∙ records_at s log words k j on ∙ ap (record_of log words r) premises.listed in
    ap (λ (x : StreamRecord). x.over) its
    ∙ none_longer log words r wait cycles
    (λ i h own. (whole.within_wait k j wait cycles premises i (record { in_log = h; of_stream = own; in_time = in_time i h own })).within)

-- "For a late stream the third stays 0."
pub late_none : (log words : List ℕ) (r : ℕ) → (record_of log words r Late).over ≡ 0
unfolding record_of longer_than
late_none log words r = count_below_none (over_of log words r Late) (releases log) (λ i h. and-false (begun_of log words r i))
