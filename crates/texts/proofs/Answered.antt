-- Which text an answer has: its table for a success, and the line of the refusal otherwise. Assumes nothing.
use Prim.Native.Nat.{ℕ}
use mathlib.Core.Path.{◌≡◌, refl}
use mathlib.Core.List.{List}
use borrow.Author.Tests.{eq-eqb, ne_eqb}
use Rattle.model.specs.declared.Answer.{Answer}
use Rattle.texts.specs.Text.{refusal_text, wait_table, admit_text, begin_table, replay_text}

pub admitted : (s waits : List ℕ) (a : Answer) → a.number ≡ 0 → wait_table s waits a.second ≡ admit_text s waits a
unfolding admit_text
admitted s waits a passes = rw (eq-eqb a.number 0 passes) refl

pub not_admitted : (s waits : List ℕ) (a : Answer) → (a.number ≡ 0 → ⊥) → refusal_text a ≡ admit_text s waits a
unfolding admit_text
not_admitted s waits a refuses = rw (ne_eqb a.number 0 refuses) refl

pub replayed : (begins : List ℕ) (count : ℕ) (a : Answer) → a.number ≡ 0 → begin_table begins count a.second a.third ≡ replay_text begins count a
unfolding replay_text
replayed begins count a passes = rw (eq-eqb a.number 0 passes) refl

pub not_replayed : (begins : List ℕ) (count : ℕ) (a : Answer) → (a.number ≡ 0 → ⊥) → refusal_text a ≡ replay_text begins count a
unfolding replay_text
not_replayed begins count a refuses = rw (ne_eqb a.number 0 refuses) refl
