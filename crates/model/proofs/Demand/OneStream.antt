-- Demand 2 about one stream: what it is answered is the literal wait and J, or late, by its verdict. Assumes nothing.
use Prim.Native.Nat.{ℕ, ◌<◌}
use mathlib.Core.Path.{◌≡◌, refl, ◌∙◌, ap}
use mathlib.Core.Logic.{◌↔◌}
use mathlib.Core.List.{List}
use native.Mathlib.Omega.{arith}
use native.Mathlib.Nat.{suc-ne-zero}
use Rattle.model.specs.declared.Answer.{Answer}
use Rattle.model.specs.declared.Verdict.{Verdict}
use Rattle.model.specs.declared.Verdict.TheVariants.{Late, Listed}
use Rattle.model.specs.Refusal.{success, refuse}
use Rattle.model.specs.Sheet.{nodes, stream_count, cycle, sheet_refusal, OnSheet, Valid}
use Rattle.model.specs.Analysis.{verdict_of}
use Rattle.model.specs.Answers.{unknown_refusal, verdict_answer, one_stream_answer}
use Rattle.model.specs.Demand.{Judged}
use Rattle.model.proofs.Sheet.Range.{inside}
use Rattle.model.proofs.Sheet.Refusals.{or_else_on, refuse_if_not}
use Rattle.model.proofs.Sheet.ValidSheet.{valid_fits}
use Rattle.model.proofs.Sheet.NodeSums.{cycle_least}
use Rattle.model.proofs.Analysis.StreamVerdict.{stream_exact, stream_placed}
use Rattle.theory.proofs.Tests.{or_second}

-- The cycle of a valid sheet is some time.
pub positive : (s : List ℕ) → Valid s → 0 < cycle s
positive s valid = omega (arith, cycle_least s (valid_fits s valid))

-- A stream on a valid sheet is answered by its verdict.
answers_verdict : (s : List ℕ) (k j : ℕ) → Valid s → OnSheet s k j → one_stream_answer s k j ≡ verdict_answer k j (verdict_of s k j)
unfolding one_stream_answer unknown_refusal
answers_verdict s k j valid on =
    let known = refuse_if_not (refuse 8 k j) (or_second (inside 1 (nodes s) k on.node_from on.node_to) (inside 1 (stream_count s k) j on.stream_from on.stream_to)) in
    or_else_on (sheet_refusal s) _ valid ∙ or_else_on (unknown_refusal s k j) _ (ap (λ (a : Answer). a.number) known)

-- An answer that lists a wait, and one that is late, are those of such verdicts.
answer_listed : (k j : ℕ) (v : Verdict) (wait J : ℕ) → (verdict_answer k j v ≡ success wait J) ↔ (v ≡ Listed wait J)
unfolding verdict_answer
answer_listed k j Late wait J = (
  λ e. absurd (suc-ne-zero 6 (ap (λ (a : Answer). a.number) e)),
  λ e. absurd (omega (arith, ap (λ (v : Verdict). (verdict_answer k j v).number) e)),
)
answer_listed k j (Listed w i) wait J = (
  λ e. λ x. Listed (ap (λ (a : Answer). a.second) e x) (ap (λ (a : Answer). a.third) e x),
  λ e. ap (verdict_answer k j) e,
)

answer_late : (k j : ℕ) (v : Verdict) → (verdict_answer k j v ≡ refuse 7 k j) ↔ (v ≡ Late)
unfolding verdict_answer
answer_late k j Late = (λ e. refl, λ e. refl)
answer_late k j (Listed w i) = (
  λ e. absurd (omega (arith, ap (λ (a : Answer). a.number) e)),
  λ e. absurd (omega (arith, ap (λ (v : Verdict). (verdict_answer k j v).number) e)),
)

-- What is said of one stream.
pub stream_judged : (s : List ℕ) (k j : ℕ) → Valid s → OnSheet s k j → Judged s k j (one_stream_answer s k j)
stream_judged s k j valid on =
    let exact = stream_exact s k j (positive s valid) in
    let v = verdict_of s k j in
    rw (answers_verdict s k j valid on)
    (record {
      listed = λ wait J. (
        λ e. (exact.listed wait J).0 ((answer_listed k j v wait J).0 e),
        λ h. (answer_listed k j v wait J).1 ((exact.listed wait J).1 h),
      );
      late = (λ e. exact.late.0 ((answer_late k j v).0 e), λ h. (answer_late k j v).1 (exact.late.1 h));
      placed = λ wait J h. stream_placed s k j h.least;
    })
