-- Demand 2 about all streams: what admit answers and writes is each stream's literal wait, or the first that is late.
-- Assumes nothing.
use Prim.Native.Nat.{ℕ, pred, ◌≤◌, ◌<◌}
use native.Mathlib.Decide.{dec_lt, ℕ_discrete}
use native.Mathlib.Omega.{arith}
use mathlib.Core.Path.{◌≡◌, refl, sym, ◌∙◌, ap, subst}
use mathlib.Core.Logic.{◌⊎◌, inl, inr}
use mathlib.Core.List.{List}
use lib.ListN.{length, get_or-append}
use borrow.Author.Tests.{le-ltb}
use Rattle.theory.proofs.Sums.{sum_to_split, sum_to_grows}
use Rattle.model.specs.declared.Answer.{Answer}
use Rattle.model.specs.declared.Verdict.{Verdict}
use Rattle.model.specs.declared.Verdict.TheVariants.{Late, Listed}
use Rattle.model.specs.Refusal.{success, refuse, ◌or_else◌, first_of}
use Rattle.model.specs.Sheet.{word, nodes, stream_count, streams_before, total_streams, running_number, cycle, sheet_refusal, OnSheet, Valid}
use Rattle.model.specs.Analysis.{verdict_of}
use Rattle.model.specs.Answers.{room_refusal, late_refusal, node_late_refusal, node_late_with, wait_word, listed_waits, admit_answer, admit_buffer}
use Rattle.model.specs.Demand.{StreamWait, AllJudged}
use Rattle.model.proofs.Sheet.Refusals.{or_else_on, or_else_stop, refuse_if_not, first_none, first_found}
use Rattle.model.proofs.Answers.Buffer.{buffer_written}
use Rattle.model.proofs.Answers.ListedWaits.{is_late}
use Rattle.model.proofs.Answers.WaitWords.{listed_length, listed_at}
use Rattle.model.proofs.Analysis.StreamVerdict.{stream_exact}
use Rattle.model.proofs.Demand.OneStream.{positive}

-- A verdict that is not refused lists a wait.
not_late : (k j : ℕ) (v : Verdict) → (late_refusal k j v).number ≡ 0 → (wait J : ℕ) × (v ≡ Listed wait J)
unfolding late_refusal
not_late k j Late e = absurd (omega arith)
not_late k j (Listed wait J) e = (wait, J, refl)

listed_word : {v : Verdict} {wait J : ℕ} → v ≡ Listed wait J → wait_word v ≡ wait
unfolding wait_word
listed_word e = rw e refl

module _ (s : List ℕ) (valid : Valid s) where
  -- Refusal 7 of all streams.
  abbrev lateness : Answer
  lateness = first_of (node_late_refusal s) 1 (nodes s)

  -- With room enough, admit answers with it, or with success.
  admit_answers : (room : ℕ) → total_streams s ≤ room → admit_answer s room ≡ lateness or_else success (total_streams s) (cycle s)
  unfolding admit_answer room_refusal
  admit_answers room enough =
      or_else_on (sheet_refusal s) _ valid
      ∙ or_else_on (room_refusal (total_streams s) room) _
      (ap (λ (a : Answer). a.number) (refuse_if_not (refuse 6 0 0) (le-ltb room (total_streams s) enough)))

  -- A stream that is not refused has its listed wait.
  has_wait : (k j : ℕ)
      → (late_refusal k j (verdict_of s k j)).number ≡ 0
      → (J : ℕ) × StreamWait s k j J (wait_word (verdict_of s k j))
  has_wait k j e =
      let v = not_late k j (verdict_of s k j) e in
      (v.1, rw (listed_word v.2) (((stream_exact s k j (positive s valid)).listed v.0 v.1).0 v.2))

  -- Where a node is not refused, none of its streams is.
  node_has : (k j : ℕ)
      → (node_late_refusal s k).number ≡ 0
      → 1 ≤ j
      → j ≤ stream_count s k
      → (late_refusal k j (verdict_of s k j)).number ≡ 0
  unfolding node_late_with
  node_has k j e from up_to =
      first_none (λ i. late_refusal k i (verdict_of s k i)) 1 (stream_count s k) e j from (omega arith)

  -- Where none is refused, each has its listed wait.
  all_have : lateness.number ≡ 0 → (k j : ℕ) → OnSheet s k j → (J : ℕ) × StreamWait s k j J (wait_word (verdict_of s k j))
  all_have e k j on =
      has_wait k j
      (node_has k j (first_none (node_late_refusal s) 1 (nodes s) e k on.node_from (omega (arith, on.node_to)))
      on.stream_from on.stream_to)

  -- The stream at which admit refuses: it is late, and none before it is.
  record Refused (answer : Answer) : Type 0 where
    node : ℕ
    stream : ℕ
    on : OnSheet s node stream
    same : answer ≡ refuse 7 node stream
    late : verdict_of s node stream ≡ Late
    nodes_passed : (k : ℕ) → 1 ≤ k → k < node → (node_late_refusal s k).number ≡ 0
    streams_passed : (j : ℕ) → 1 ≤ j → j < stream → (late_refusal node j (verdict_of s node j)).number ≡ 0

  refused : (lateness.number ≡ 0 → ⊥) → Refused lateness
  unfolding node_late_with
  refused refuses =
      let n = first_found (node_late_refusal s) 1 (nodes s) refuses in
      let k = n.at in
      let here : (node_late_refusal s k).number ≡ 0 → ⊥ = λ e. refuses (rw n.same e) in
      let m = first_found (λ j. late_refusal k j (verdict_of s k j)) 1 (stream_count s k) here in
      let j = m.at in
      let it = is_late k j (verdict_of s k j) (λ e. here (rw m.same e)) in
      record {
        node = k;
        stream = j;
        on = record { node_from = n.low; node_to = omega (arith, n.high); stream_from = m.low; stream_to = omega (arith, m.high) };
        same = n.same ∙ m.same ∙ it.1;
        late = it.0;
        nodes_passed = n.earlier;
        streams_passed = m.earlier;
      }

  -- A stream before another in sheet order is of a node before, or of the same node with a lower number.
  earlier : (k j n i : ℕ)
      → OnSheet s k j
      → OnSheet s n i
      → running_number s k j < running_number s n i
      → (k < n) ⊎ ((k ≡ n) × (j < i))
  earlier k j n i here there less = go (dec_lt k n) (ℕ_discrete k n)
    where
      go : Dec (k < n) → Dec (k ≡ n) → (k < n) ⊎ ((k ≡ n) × (j < i))
      go (yes h) d = inl h
      go (no h) (yes e) = inr (e, omega (arith, ap (streams_before s) e))
      go (no h) (no d) =
          absurd (omega (
            arith,
            sum_to_split (stream_count s) n there.node_from,
            sum_to_grows (stream_count s) n (pred k) (omega arith),
            here.stream_from,
            there.stream_to,
          ))

  -- Those before the stream at which admit refuses have their listed waits.
  before : (r : Refused lateness) (k j : ℕ)
      → OnSheet s k j
      → (k < r.node) ⊎ ((k ≡ r.node) × (j < r.stream))
      → (J wait : ℕ) × StreamWait s k j J wait
  before r k j on (inl less) =
      let w = has_wait k j (node_has k j (r.nodes_passed k on.node_from less) on.stream_from on.stream_to) in
      (w.0, wait_word (verdict_of s k j), w.1)
  before r k j on (inr (e, less)) =
      let w = has_wait k j (rw e (r.streams_passed j on.stream_from less)) in
      (w.0, wait_word (verdict_of s k j), w.1)

  -- The word of each stream of an admitted sheet.
  written : (room : List ℕ)
      → (admit_answer s (length room)).number ≡ 0
      → (k j : ℕ)
      → OnSheet s k j
      → word (admit_buffer s room) (pred (running_number s k j)) ≡ wait_word (verdict_of s k j)
  unfolding admit_buffer
  written room passes k j on =
      let split = sum_to_split (stream_count s) k on.node_from in
      let grown = sum_to_grows (stream_count s) k (nodes s) on.node_to in
      let inside : pred (running_number s k j) < length (listed_waits s) =
      omega (arith, listed_length s, split, grown, on.stream_from, on.stream_to)
      in
      ap (λ ws. word ws (pred (running_number s k j))) (sym (buffer_written (admit_answer s (length room)) (listed_waits s) room passes))
      ∙ get_or-append (listed_waits s) _ 0 (pred (running_number s k j)) inside
      ∙ listed_at s k j on

  -- What is said of all streams, by what admit answers and writes.
  pub all_judged : (room : List ℕ) → total_streams s ≤ length room → AllJudged s (admit_answer s (length room)) (admit_buffer s room)
  all_judged room enough = go (ℕ_discrete lateness.number 0)
    where
      answers : admit_answer s (length room) ≡ lateness or_else success (total_streams s) (cycle s)
      answers = admit_answers (length room) enough

      go : Dec (lateness.number ≡ 0) → AllJudged s (admit_answer s (length room)) (admit_buffer s room)
      go (yes none) =
          let same = answers ∙ or_else_on lateness (success (total_streams s) (cycle s)) none in
          let zero = ap (λ (a : Answer). a.number) same in
          record {
            admitted = λ e k j on.
                let w = all_have none k j on in
                (w.0, subst (StreamWait s k j w.0) (sym (written room zero k j on)) w.1);
            refused = λ e. absurd (omega arith);
            first = λ e. absurd (omega arith);
            decided = inl zero;
          }
      go (no refuses) =
          let same = answers ∙ or_else_stop lateness (success (total_streams s) (cycle s)) refuses in
          let r = refused refuses in
          rw (same ∙ r.same)
          (record {
            admitted = λ e. absurd (omega arith);
            refused = λ e. (r.on, (stream_exact s r.node r.stream (positive s valid)).late.0 r.late);
            first = λ e k j on less. before r k j on (earlier k j r.node r.stream on r.on less);
            decided = inr refl;
          })
