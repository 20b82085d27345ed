-- A text put into a lent buffer, as far as the buffer goes. Assumes nothing.
use Rattle.std.specs.Prelude.{ℕ, ◌+◌, min, ◌≡◌, List, ◌++◌, length, take, drop}
use Rattle.std.proofs.lemmas.List.Edits.{sets}
use Rattle.digits.specs.declared.text.Text.{Text}

-- What a buffer holds once a text is put at its front: as much of the text as there is room for, and the rest of the buffer as it was.
abbrev pub overwritten : List ℕ → List ℕ → List ℕ
overwritten out text = take (length out) text ++ drop (length text) out

-- The bytes of the text that there is room for.
abbrev pub fitting : List ℕ → List ℕ → ℕ
fitting out text = min (length text) (length out)

-- A text put into a buffer from a place on: its bytes are stored one after the other, those past the buffer's end are left out, and
-- `next` is the place after it. The next text goes there.
pub record Put (before : List ℕ) (at : ℕ) (text after : List ℕ) (next : ℕ) : Type 0 where
  pub bytes : after ≡ sets before at text
  pub place : next ≡ min (at + length text) (length before)

-- A text goes on with some bytes, in the same buffer.
pub record Adds (before : Text) (bytes : List ℕ) (after : Text) : Type 0 where
  pub put : Put before.out.now before.at bytes after.out.now after.at
  pub same : after.out.ghost_name ≡ before.out.ghost_name
