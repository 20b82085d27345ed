-- `rows::node_late` meets its contract: what is left of the row of checks equals the whole. Assumes nothing.
use Prim.Native.Nat.{ℕ, pred}
use mathlib.Core.Path.{◌≡◌}
use mathlib.Core.List.{List}
use Rattle.model.specs.declared.Answer.{Answer}
use Rattle.model.specs.Analysis.{verdict_with}
use Rattle.model.specs.Answers.{late_refusal, node_late_with}
use Rattle.model.proofs.Sheet.Refusals.{rest}
use Rattle.model.specs.Sheet.{stream_count}
use Rattle.rows.proofs.node_late.Given as goal

-- Refusal 7 of stream j.
abbrev pub late_at : List ℕ → ℕ → ℕ → ℕ → ℕ → Answer
late_at s C m k j = late_refusal k j (verdict_with s C m k j)

abbrev pub invariant-loop-j : goal.invariant-loop-j
invariant-loop-j l =
    rest (late_at l.sheet l.cycle l.budget l.k) (pred l.j) (stream_count l.sheet l.k) ≡ node_late_with l.sheet l.cycle l.budget l.k
