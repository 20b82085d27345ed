-- Independence: the verdict on a stream is a function of its node's streams, the node's budget, C, TMS and TPR, which alike sheets share; and
-- so are the answers. Assumes nothing.
use Prim.Native.Nat.{ℕ, zero, suc, ◌+◌, ◌≤◌, ◌<◌}
use native.Mathlib.Nat.{eq-or-lt_of_le}
use native.Mathlib.Decide.{ℕ_discrete}
use native.Mathlib.Omega.{arith}
use mathlib.Core.Path.{◌≡◌, refl, sym, ◌∙◌, ap}
use mathlib.Core.Logic.{⊎_elim}
use mathlib.Core.List.{List}
use lib.ListN.{length, get_or, drop}
use Rattle.theory.proofs.Sums.{sum_to_same}
use Rattle.model.specs.Refusal.{◌or_else◌}
use Rattle.model.specs.Sheet.{nodes, stream_count, budget, budgets_up_to, cycle_ticks, cycle, sheet_refusal, OnSheet, Valid}
use Rattle.model.specs.Analysis.{stream_of, streams_from, above, interference, timing_of, verdict, verdict_with, verdict_of}
use Rattle.model.specs.Answers.{unknown_refusal, verdict_answer, one_stream_answer}
use Rattle.model.proofs.Analysis.NodeStreams.{streams_length}
use Rattle.model.proofs.Answers.Asked.{known_on}
use Rattle.model.proofs.Sheet.Refusals.{or_else_on, or_else_stop}
use Rattle.edits.specs.Alike.{Alike, Independence}

-- Equal lists of streams have equal streams at each number.
each_stream : (s t : List ℕ) (k j count i : ℕ)
    → streams_from s k j count ≡ streams_from t k j count
    → j ≤ i
    → i < j + count
    → stream_of s k i ≡ stream_of t k i
unfolding streams_from
each_stream s t k j zero i same low high = absurd (omega arith)
each_stream s t k j (suc count) i same low high =
    ⊎_elim
    (λ e. rw (← e) (ap (λ xs. get_or xs 0 (stream_of s k j)) same))
    (λ l. each_stream s t k (suc j) count i (ap (drop 1) same) l (omega arith))
    (eq-or-lt_of_le low)

module _ {s t : List ℕ} {k : ℕ} (alike : Alike s t k) where
  -- The node has as many streams on both sheets,
  same_count : stream_count s k ≡ stream_count t k
  same_count =
      sym (streams_length s k 1 (stream_count s k)) ∙ ap length alike.same_streams ∙ streams_length t k 1 (stream_count t k)

  -- and each is the same.
  same_stream : (j : ℕ) → 1 ≤ j → j ≤ stream_count s k → stream_of s k j ≡ stream_of t k j
  same_stream j low high =
      each_stream s t k 1 (stream_count s k) j (alike.same_streams ∙ ap (streams_from t k 1) (sym same_count)) low (omega arith)

  -- The full cycle is the same.
  same_cycle_lem : cycle s ≡ cycle t
  unfolding cycle
  same_cycle_lem =
      let budgets : budgets_up_to s (nodes s) ≡ budgets_up_to t (nodes t) =
      sum_to_same (budget s) (budget t) (nodes s) alike.same_budgets ∙ ap (budgets_up_to t) alike.same_nodes in
      λ i. cycle_ticks (budgets i) (alike.same_message i) (alike.same_nodes i) (alike.same_slot i)

  same_timing : 1 ≤ k → k ≤ nodes s → timing_of s k ≡ timing_of t k
  same_timing low high =
      λ i.
      record {
        cycle = same_cycle_lem i;
        budget = alike.same_budgets k low high i;
        message = alike.same_message i;
        slot = alike.same_slot i;
      }

  -- So the verdict is the same: it goes by nothing else.
  same_verdict : (j : ℕ) → OnSheet s k j → verdict_of s k j ≡ verdict_of t k j
  unfolding verdict_with
  same_verdict j on =
      let x = same_stream j on.stream_from on.stream_to in
      let timing = same_timing on.node_from on.node_to in
      λ i. verdict (interference (above (x i) (alike.same_streams i))) (timing i) (x i)

  same_unknown : (j : ℕ) → unknown_refusal s k j ≡ unknown_refusal t k j
  unfolding unknown_refusal
  same_unknown j = rw (alike.same_nodes, same_count) refl

-- The answer of a valid sheet is that of the checks after refusals 1 to 5.
pub answered : (s : List ℕ) (k j : ℕ) → Valid s → one_stream_answer s k j ≡ (unknown_refusal s k j or_else verdict_answer k j (verdict_of s k j))
unfolding one_stream_answer
answered s k j valid = or_else_on (sheet_refusal s) _ valid

pub independence : Independence
independence s t k valid valid' alike j =
    answered s k j valid ∙ go (ℕ_discrete (unknown_refusal s k j).number 0) ∙ sym (answered t k j valid')
  where
    unknown : unknown_refusal s k j ≡ unknown_refusal t k j
    unknown = same_unknown alike j

    go : Dec ((unknown_refusal s k j).number ≡ 0)
        → (unknown_refusal s k j or_else verdict_answer k j (verdict_of s k j))
        ≡ (unknown_refusal t k j or_else verdict_answer k j (verdict_of t k j))
    go (yes none) =
        let v = same_verdict alike j (known_on s k j none) in
        λ i. unknown i or_else verdict_answer k j (v i)
    go (no some) =
        or_else_stop _ _ some ∙ unknown ∙ sym (or_else_stop _ _ (λ e. some (rw unknown e)))
