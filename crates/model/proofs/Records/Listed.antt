-- The list of records in sheet order: its length, the record at each place, how far the counts come, and what a message that begins
-- changes in it. Assumes nothing.
use Prim.Native.Nat.{ℕ, zero, suc, pred, ◌+◌, ◌-◌, ◌≤◌, ◌<◌}
use native.Mathlib.Decide.{dec_lt}
use native.Mathlib.Omega.{arith}
use mathlib.Core.Path.{◌≡◌, refl, sym, ◌∙◌, ap}
use mathlib.Core.List.{List, [], ◌∷◌, ◌++◌}
use lib.ListN.{length, get_or, set, take, replicate, get_or-replicate, get_or-append, get_or-eq_default}
use lib.Seq.{get_or-take}
use Rattle.theory.proofs.Counting.{count_below_most}
use Rattle.theory.proofs.Sums.{sum_to_split, sum_to_grows}
use Rattle.model.specs.declared.Verdict.{Verdict}
use Rattle.model.specs.declared.Verdict.TheVariants.{Late}
use Rattle.model.specs.Limits.{not_begun}
use Rattle.model.specs.Sheet.{word, nodes, stream_count, total_streams, running_number, OnSheet}
use Rattle.model.specs.Analysis.{verdict_of}
use Rattle.model.specs.Protocol.{releases, release_tick, release_stream}
use Rattle.model.specs.Records.{begun_of, longer_than, record_of, records_from, verdicts_of, records_of, none_yet, record_at, noted}
use Rattle.model.proofs.Sheet.SheetOrder.{ordered_length, ordered_there}
use Rattle.model.proofs.Records.OneBegin.{over_of, record_none, record_same, record_other, record-noted}

module _ (log begins : List ℕ) where
  -- There is a record for each verdict,
  pub from_length : (r : ℕ) (vs : List Verdict) → length (records_from log begins r vs) ≡ length vs
  unfolding records_from
  from_length r [] = refl
  from_length r (v ∷ vs) = ap suc (from_length _ vs)

  -- that of its stream.
  pub from_at : (r : ℕ) (vs : List Verdict) (p : ℕ)
      → p < length vs
      → record_at (records_from log begins r vs) p ≡ record_of log begins (r + p) (get_or vs p Late)
  unfolding records_from
  from_at r [] p inside = absurd (omega arith)
  from_at r (v ∷ vs) zero inside = let here : r + 0 ≡ r = omega arith in rw here refl
  from_at r (v ∷ vs) (suc p) inside = let there : r + suc p ≡ suc r + p = omega arith in rw there (from_at (suc r) vs p (omega arith))

  -- Where nothing has begun, nothing is recorded.
  pub from_none : (r : ℕ) (vs : List Verdict)
      → ((i : ℕ) → i < releases log → word begins i ≡ not_begun)
      → records_from log begins r vs ≡ replicate (length vs) none_yet
  unfolding records_from
  from_none r [] none = refl
  from_none r (v ∷ vs) none = rw (record_none log begins r v none, from_none (suc r) vs none) refl

-- Only the words of the releases count.
pub from_same : (log begins other : List ℕ) (r : ℕ) (vs : List Verdict)
    → ((i : ℕ) → i < releases log → word begins i ≡ word other i)
    → records_from log begins r vs ≡ records_from log other r vs
unfolding records_from
from_same log begins other r [] same = refl
from_same log begins other r (v ∷ vs) same =
    rw (record_same log begins other r v (λ i h own. same i h), from_same log begins other (suc r) vs same) refl

-- A release begins.
pub record Begins (log begins : List ℕ) (i t : ℕ) : Type 0 where
  pub in_log : i < releases log
  pub room : i < length begins
  pub unbegun : word begins i ≡ not_begun
  pub begun : t ≡ not_begun → ⊥

module _ (log begins : List ℕ) (i t : ℕ) where
  -- The records of later streams stay.
  from_past : (r : ℕ) (vs : List Verdict)
      → release_stream log i < r
      → records_from log (set begins i t) r vs ≡ records_from log begins r vs
  unfolding records_from
  from_past r [] past = refl
  from_past r (v ∷ vs) past =
      rw (record_other log begins i t r v (λ e. omega arith), from_past (suc r) vs (omega arith)) refl

  -- Only the record of its own stream changes, p places after that of stream r.
  pub from_noted : (r : ℕ) (vs : List Verdict) (p : ℕ)
      → Begins log begins i t
      → release_stream log i ≡ r + p
      → p < length vs
      → records_from log (set begins i t) r vs
      ≡ set (records_from log begins r vs) p
      (noted (longer_than (get_or vs p Late) (t - release_tick log i)) (t - release_tick log i) (record_at (records_from log begins r vs) p))
  unfolding records_from
  from_noted r [] p now own inside = absurd (omega arith)
  from_noted r (v ∷ vs) zero now own inside =
      rw (
        record-noted log begins i t now.in_log now.room now.unbegun now.begun r (omega arith) v,
        from_past (suc r) vs (omega arith),
      ) refl
  from_noted r (v ∷ vs) (suc p) now own inside =
      rw (record_other log begins i t r v (λ e. omega arith), from_noted (suc r) vs p now (omega arith) (omega arith)) refl

module _ (s : List ℕ) where
  -- There is a verdict for each stream of the sheet,
  pub verdicts_length : length (verdicts_of s) ≡ total_streams s
  verdicts_length = ordered_length s (verdict_of s)

  -- at its running number, from 1,
  pub verdicts_at : (k j : ℕ) → OnSheet s k j → get_or (verdicts_of s) (pred (running_number s k j)) Late ≡ verdict_of s k j
  verdicts_at = ordered_there s (verdict_of s) Late

  -- and that is no more than the number of all streams.
  pub running_most : (k j : ℕ) → OnSheet s k j → running_number s k j ≤ total_streams s
  running_most k j on =
      omega (
        arith,
        on.stream_to,
        sum_to_split (stream_count s) k on.node_from,
        sum_to_grows (stream_count s) k (nodes s) on.node_to,
      )

module _ (s log begins : List ℕ) where
  -- There is a record for each stream,
  pub records_length : length (records_of s log begins) ≡ total_streams s
  unfolding records_of
  records_length = from_length log begins _ (verdicts_of s) ∙ verdicts_length s

  -- with the verdict on it,
  pub records_there : (p : ℕ)
      → p < total_streams s
      → record_at (records_of s log begins) p ≡ record_of log begins (suc p) (get_or (verdicts_of s) p Late)
  unfolding records_of
  records_there p inside =
      let next : 1 + p ≡ suc p = omega arith in
      from_at log begins 1 (verdicts_of s) p (rw (verdicts_length s) inside)
      ∙ ap (λ r. record_of log begins r (get_or (verdicts_of s) p Late)) next

  -- at its running number, from 1.
  pub records_at : (k j : ℕ)
      → OnSheet s k j
      → record_at (records_of s log begins) (pred (running_number s k j)) ≡ record_of log begins (running_number s k j) (verdict_of s k j)
  records_at k j on =
      let r : ℕ = running_number s k j in
      let next : suc (pred r) ≡ r = omega (arith, on.stream_from) in
      records_there (pred r) (omega (arith, on.stream_from, running_most s k j on))
      ∙ (λ i. record_of log begins (next i) (verdicts_at s k j on i))

  -- No count is above the number of releases.
  pub records_counts : (p : ℕ)
      → ((record_at (records_of s log begins) p).begun ≤ releases log) × ((record_at (records_of s log begins) p).over ≤ releases log)
  unfolding record_of
  records_counts p = go (dec_lt p (total_streams s))
    where
      go : Dec (p < total_streams s)
          → ((record_at (records_of s log begins) p).begun ≤ releases log) × ((record_at (records_of s log begins) p).over ≤ releases log)
      go (yes inside) =
          let v : Verdict = get_or (verdicts_of s) p Late in
          rw (records_there p inside)
          (count_below_most (begun_of log begins (suc p)) (releases log), count_below_most (over_of log begins (suc p) v) (releases log))
      go (no past) =
          let out : length (records_of s log begins) ≤ p = omega (arith, records_length) in
          rw (get_or-eq_default (records_of s log begins) none_yet {n = p} out) (omega arith, omega arith)

  -- Where nothing has begun, nothing is recorded.
  pub records_none : ((i : ℕ) → i < releases log → word begins i ≡ not_begun) → records_of s log begins ≡ replicate (total_streams s) none_yet
  unfolding records_of
  records_none none = from_none log begins 1 (verdicts_of s) none ∙ ap (λ n. replicate n none_yet) (verdicts_length s)

  -- The same for a buffer whose front has the words for "not begun".
  pub records_cleared : take (releases log) begins ≡ replicate (releases log) not_begun
      → records_of s log begins ≡ replicate (total_streams s) none_yet
  records_cleared cleared =
      records_none
      (λ i h.
      sym (get_or-take (releases log) begins i 0 h)
      ∙ ap (λ front. word front i) cleared
      ∙ get_or-replicate (releases log) i not_begun 0 h)

  -- Only the words of the releases count.
  pub records_same : (other : List ℕ)
      → ((i : ℕ) → i < releases log → word begins i ≡ word other i)
      → records_of s log begins ≡ records_of s log other
  unfolding records_of
  records_same other same = from_same log begins other 1 (verdicts_of s) same

-- What stands past them does not count.
pub records_before : (s log begins rest : List ℕ)
    → releases log ≤ length begins
    → records_of s log (begins ++ rest) ≡ records_of s log begins
records_before s log begins rest fits =
    records_same s log (begins ++ rest) begins (λ i h. get_or-append begins rest 0 i (omega arith))

-- A release of one of the sheet's streams begins: only the record of its stream changes.
pub records_noted : (s log begins : List ℕ) (i t : ℕ)
    → Begins log begins i t
    → 1 ≤ release_stream log i
    → release_stream log i ≤ total_streams s
    → records_of s log (set begins i t)
    ≡ set (records_of s log begins) (pred (release_stream log i))
    (noted (longer_than (get_or (verdicts_of s) (pred (release_stream log i)) Late) (t - release_tick log i)) (t - release_tick log i)
    (record_at (records_of s log begins) (pred (release_stream log i))))
unfolding records_of
records_noted s log begins i t now low high =
    from_noted log begins i t 1 (verdicts_of s) (pred (release_stream log i)) now (omega arith) (omega (arith, verdicts_length s))
