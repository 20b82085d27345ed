-- A round as a loop runs it: whether a stream is late, node by node. Assumes nothing.
use Prim.Native.Nat.{ℕ, ◌+◌, ◌≤◌, ◌<◌}
use native.Mathlib.Nat.{eq-or-lt_of_le}
use native.Mathlib.Omega.{arith}
use mathlib.Core.Path.{◌≡◌, refl, sym, ap, ◌∙◌}
use mathlib.Core.Logic.{⊎_elim}
use mathlib.Core.Bool.{Bool, true, false, ◌||◌, not, true≢false}
use mathlib.Core.List.{List}
use lib.Dec.{eqb}
use Rattle.std.proofs.Math.Bool.{and-true, and-false}
use borrow.Author.Tests.{eqb-true, eq-eqb, ne_eqb, not-false}
use Rattle.model.specs.Refusal.{refuse, accepted, first_of}
use Rattle.model.specs.Sheet.{nodes}
use Rattle.model.proofs.Sheet.Refusals.{first_none, first_all}
use Rattle.rounds.specs.Rounds.{late_with, has_late, stuck_refusal, goes_on}
use Rattle.rounds.proofs.Under.{has_late_lem}

-- The nodes up to i are judged: one of them is late, or none.
pub record JudgedTo (s row : List ℕ) (i : ℕ) (late : Bool) : Type 0 where
  pub none : late ≡ false → (k : ℕ) → 1 ≤ k → k ≤ i → (late_with s row k).number ≡ 0
  pub some : late ≡ true → (first_of (late_with s row) 1 (nodes s)).number ≡ 0 → ⊥

module _ (s row : List ℕ) where
  -- None is judged yet.
  pub judged_none : JudgedTo s row 0 false
  judged_none = record { none = λ e k one inside. absurd (omega arith); some = λ e. absurd (true≢false (sym e)) }

  -- The next node is judged.
  pub judged_next : (i : ℕ) (late : Bool) → i < nodes s → JudgedTo s row i late → JudgedTo s row (i + 1) (late || has_late s row (i + 1))
  judged_next i true inside judged = record { none = λ e. absurd (true≢false e); some = λ e. judged.some refl }
  judged_next i false inside judged = go (has_late s row (i + 1)) refl
    where
      go : (b : Bool) → has_late s row (i + 1) ≡ b → JudgedTo s row (i + 1) b
      go true late =
          record {
            none = λ e. absurd (true≢false e);
            some = λ e all. has_late_lem s row (i + 1) late (first_none (late_with s row) 1 (nodes s) all (i + 1) (omega arith) (omega arith));
          }
      go false fine =
          record {
            none = λ e k one upto. ⊎_elim
                (λ same. rw same (eqb-true (late_with s row (i + 1)).number 0 (not-false _ fine)))
                (λ less. judged.none refl k one (omega arith))
                (eq-or-lt_of_le upto);
            some = λ e. absurd (true≢false (sym e));
          }

  -- All are judged.
  pub judged_all : (late : Bool) → JudgedTo s row (nodes s) late → late ≡ not (eqb (first_of (late_with s row) 1 (nodes s)).number 0)
  judged_all true judged = sym (ap not (ne_eqb _ 0 (judged.some refl)))
  judged_all false judged = sym (ap not (eq-eqb _ 0 (first_all (late_with s row) 1 (nodes s) (λ k low high. judged.none refl k low (omega arith)))))

  -- A round is to come where a stream is late and no node is stuck,
  pub late_goes_on : (late : Bool)
      → late ≡ not (eqb (first_of (late_with s row) 1 (nodes s)).number 0)
      → accepted ≡ stuck_refusal s row
      → late ≡ goes_on s row
  unfolding goes_on
  late_goes_on late judged none = rw (← none) (judged ∙ sym (and-true _))

  -- and none where one is.
  pub stuck_stops : (node : ℕ) → refuse 11 node 0 ≡ stuck_refusal s row → false ≡ goes_on s row
  unfolding goes_on
  stuck_stops node stuck = rw (← stuck) (sym (and-false _))
