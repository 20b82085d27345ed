-- The verdicts on the streams of a sheet, as a loop comes to them: the waits that are left to be listed, stream by stream and node by
-- node, and refusal 7 of the next. Assumes nothing.
use Prim.Native.Nat.{ℕ, suc, ◌+◌, ◌-◌, ◌≤◌, ◌<◌}
use native.Mathlib.Nat.{sub-zero, sub-eq-zero_of_le}
use native.Mathlib.Numerals.{add-one}
use mathlib.Core.Path.{◌≡◌, refl}
use mathlib.Core.List.{List, [], ◌∷◌, ◌++◌}
use Rattle.model.specs.declared.Answer.{Answer}
use Rattle.model.specs.declared.Verdict.{Verdict}
use Rattle.model.specs.declared.Verdict.TheVariants.{Late, Listed}
use Rattle.model.specs.Refusal.{refuse, accepted}
use Rattle.model.specs.Sheet.{stream_count}
use Rattle.model.specs.Analysis.{verdict_of}
use Rattle.model.specs.Answers.{late_refusal, wait_word, waits_from}
use Rattle.theory.specs.Listing.{values_from, joined_from}
use Rattle.model.proofs.Sheet.Refusals.{one_more}

-- A late verdict is refused,
pub late_refused : (k j : ℕ) {v : Verdict} → v ≡ Late → refuse 7 k j ≡ late_refusal k j v
unfolding late_refusal
late_refused k j e = rw e refl

-- and one that lists a wait is not.
pub listed_accepted : (k j : ℕ) {v : Verdict} {wait cycles : ℕ} → v ≡ Listed wait cycles → accepted ≡ late_refusal k j v
unfolding late_refusal
listed_accepted k j e = rw e refl

-- One that is refused is late.
pub is_late : (k j : ℕ) (v : Verdict) → ((late_refusal k j v).number ≡ 0 → ⊥) → (v ≡ Late) × (late_refusal k j v ≡ refuse 7 k j)
unfolding late_refusal
is_late k j Late refuses = (refl, refl)
is_late k j (Listed wait J) refuses = absurd (refuses refl)

module _ (s : List ℕ) (k : ℕ) where
  -- Refusal 7 of stream j.
  abbrev pub late_at : ℕ → Answer
  late_at j = late_refusal k j (verdict_of s k j)

  -- The listed waits of the node's streams after stream i.
  abbrev pub waits_left : ℕ → ℕ → List ℕ
  waits_left i count = waits_from s k (suc i) (count - i)

  -- Before the first stream all are left.
  pub waits_all : (count : ℕ) → waits_left 0 count ≡ waits_from s k 1 count
  waits_all count = rw sub-zero refl

  -- The wait of the next stream is the first of them.
  pub waits_next : (i count : ℕ) {wait cycles : ℕ}
      → i < count
      → verdict_of s k (i + 1) ≡ Listed wait cycles
      → waits_left i count ≡ wait ∷ waits_left (i + 1) count
  unfolding values_from wait_word
  waits_next i count inside found =
      rw (one_more i count inside, add-one i) (rw (rw (add-one i) at found) refl)

  -- After the last stream none is left.
  pub waits_none : (i count : ℕ) → count ≤ i → waits_left i count ≡ []
  unfolding values_from
  waits_none i count past = rw (sub-eq-zero_of_le past) refl

module _ (s : List ℕ) where
  -- The listed waits of the nodes from node k on, `count` nodes.
  abbrev pub node_waits : ℕ → ℕ → List ℕ
  node_waits k count = joined_from (λ i. waits_from s i 1 (stream_count s i)) k count

  -- The listed waits of the nodes after node i, of n nodes.
  abbrev pub nodes_left : ℕ → ℕ → List ℕ
  nodes_left i n = node_waits (suc i) (n - i)

  -- Before the first node all are left.
  pub nodes_all : (n : ℕ) → nodes_left 0 n ≡ node_waits 1 n
  nodes_all n = rw sub-zero refl

  -- Those of the next node are the first of them.
  pub nodes_next : (i n : ℕ)
      → i < n
      → nodes_left i n ≡ waits_from s (i + 1) 1 (stream_count s (i + 1)) ++ nodes_left (i + 1) n
  unfolding joined_from
  nodes_next i n inside = rw (one_more i n inside, add-one i) refl

  -- After the last node none is left.
  pub nodes_none : (i n : ℕ) → n ≤ i → nodes_left i n ≡ []
  unfolding joined_from
  nodes_none i n past = rw (sub-eq-zero_of_le past) refl
