-- A node that is refused 7 with a full cycle is refused with every longer one, with the same budget. Assumes nothing.
use Prim.Native.Nat.{ℕ, ◌≤◌, ◌<◌}
use native.Mathlib.Omega.{arith}
use mathlib.Core.Path.{◌≡◌, ap}
use mathlib.Core.List.{List}
use Rattle.model.specs.declared.Answer.{Answer}
use Rattle.model.specs.Sheet.{stream_count}
use Rattle.model.specs.Analysis.{verdict_with}
use Rattle.model.specs.Answers.{late_refusal, node_late_with}
use Rattle.model.proofs.Sheet.Refusals.{first_none, first_found}
use Rattle.model.proofs.Analysis.LongerCycle.{stream_late_longer}
use Rattle.model.proofs.Answers.ListedWaits.{late_refused, is_late}

pub node_late_longer : (s : List ℕ) (C D m k : ℕ)
    → C ≤ D
    → 0 < C
    → ((node_late_with s C m k).number ≡ 0 → ⊥)
    → (node_late_with s D m k).number ≡ 0
    → ⊥
unfolding node_late_with
node_late_longer s C D m k longer positive refuses none =
    let f = first_found (λ j. late_refusal k j (verdict_with s C m k j)) 1 (stream_count s k) refuses in
    let j = f.at in
    let late = (is_late k j (verdict_with s C m k j) (λ e. refuses (rw f.same e))).0 in
    let still = late_refused k j (stream_late_longer s C D m k j longer positive late) in
    let passes = first_none (λ i. late_refusal k i (verdict_with s D m k i)) 1 (stream_count s k) none j f.low f.high in
    omega (arith, ap (λ (a : Answer). a.number) still, passes)
