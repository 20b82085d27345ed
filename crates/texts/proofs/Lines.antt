-- The lines of a table, one more at a time. Assumes nothing.
use Prim.Native.Nat.{ℕ, pred, ◌+◌}
use native.Mathlib.Numerals.{add-one}
use native.Mathlib.Omega.{arith}
use mathlib.Core.Path.{◌≡◌, refl, ◌∙◌, ap}
use mathlib.Core.List.{List, ◌++◌}
use Rattle.model.specs.Sheet.{word, streams_up_to, streams_before, running_number}
use Rattle.digits.specs.Decimal.{decimal}
use Rattle.digits.specs.Put.{Put}
use Rattle.texts.specs.Text.{lines_to, wait_line, begin_text, begin_line}
use Rattle.digits.proofs.Putting.{then}

-- The next line after the first i.
pub next_line : (line : ℕ → List ℕ) (i : ℕ) {a b c text : List ℕ} {at j k : ℕ}
    → text ≡ line (i + 1)
    → Put a at (lines_to line i) b j
    → Put b j text c k
    → Put a at (lines_to line (i + 1)) c k
unfolding lines_to
next_line line i e p q = rw (add-one i, ← add-one i, ← e) (then p q)

-- The line of the release after the first i, whose begin word stands at i.
pub begin_line_lem : (begins : List ℕ) (i : ℕ) {begin : ℕ} → begin ≡ word begins i → decimal (i + 1) ++ begin_text begin ≡ begin_line begins (i + 1)
unfolding begin_line
begin_line_lem begins i e =
    let there : pred (i + 1) ≡ i = omega arith in
    rw (there, e) refl

-- The line of the stream after a node's first j, whose wait stands after those of the nodes before and those j.
pub wait_line_lem : (s waits : List ℕ) (k j : ℕ) {from step wait : ℕ}
    → from ≡ streams_before s k
    → step ≡ j
    → wait ≡ word waits (from + step)
    → wait_line k (j + 1) wait ≡ wait_line k (j + 1) (word waits (pred (running_number s k (j + 1))))
wait_line_lem s waits k j {from} {step} at same e =
    let there : from + step ≡ pred (streams_before s k + (j + 1)) = omega arith in
    ap (λ w. wait_line k (j + 1) w) (e ∙ ap (λ i. word waits i) there)

-- The streams before the next node are those up to this one.
pub before_next : (s : List ℕ) (k : ℕ) {from : ℕ} → from ≡ streams_up_to s k → from ≡ streams_before s (k + 1)
before_next s k e =
    let there : pred (k + 1) ≡ k = omega arith in
    rw there e
