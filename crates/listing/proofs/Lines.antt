-- The lines of a table, put one after the other. Assumes nothing.
use Prim.Native.Nat.{ℕ, ◌+◌}
use mathlib.Core.Path.{◌≡◌, ◌∙◌}
use mathlib.Core.List.{List}
use Rattle.digits.specs.Put.{Adds}
use Rattle.digits.specs.declared.text.Text.{Text}
use Rattle.digits.proofs.Putting.{adds_nothing}
use Rattle.texts.specs.Text.{lines_to}
use Rattle.texts.proofs.Lines.{next_line}

-- No line.
pub adds_no_line : (line : ℕ → List ℕ) {a : Text} → Adds a (lines_to line 0) a
unfolding lines_to
adds_no_line line = adds_nothing

-- The next line after the first i.
pub adds_next_line : (line : ℕ → List ℕ) (i : ℕ) {a b c : Text} {text : List ℕ}
    → text ≡ line (i + 1)
    → Adds a (lines_to line i) b
    → Adds b text c
    → Adds a (lines_to line (i + 1)) c
adds_next_line line i e p q = record { put = next_line line i e p.put q.put; same = q.same ∙ p.same }
