-- Texts put into a buffer one after the other are one text put there, and what stands at its front. Assumes nothing.
use Prim.Native.Nat.{ℕ, suc, ◌+◌, ◌≤◌, min}
use native.Mathlib.Nat.{add-zero, add-suc, suc-add, le_trans}
use native.Mathlib.Decide.{dec_le}
use native.Mathlib.Omega.{arith}
use mathlib.Core.Path.{◌≡◌, refl, sym, ap, ◌∙◌}
use mathlib.Core.List.{List, [], ◌∷◌, ◌++◌}
use lib.ListN.{length, take, drop, set, length-set, length-append}
use lib.Seq.{sets, length-sets, set_out, take_all, take-append_seam}
use Rattle.digits.specs.Put.{Put, Adds, overwritten, fitting}
use Rattle.digits.specs.declared.text.Text.{Text}

-- Nothing is stored past the end.
past_end : (out : List ℕ) (at : ℕ) (text : List ℕ) → length out ≤ at → sets out at text ≡ out
past_end out at [] past = refl
past_end out at (b ∷ text) past =
    past_end (set out at b) (suc at) text (rw length-set (omega arith)) ∙ set_out out at b past

-- A place past the end is as good as the end.
cut_place : (out : List ℕ) (at place : ℕ) (text : List ℕ) → at ≡ min place (length out) → sets out at text ≡ sets out place text
cut_place out at place text e = go (dec_le place (length out))
  where
    go : Dec (place ≤ length out) → sets out at text ≡ sets out place text
    go (yes inside) = let same : at ≡ place = omega arith in rw same refl
    go (no outside) = past_end out at text (omega arith) ∙ sym (past_end out place text (omega arith))

-- Two texts stored in a row.
sets_append : (out : List ℕ) (at : ℕ) (a b : List ℕ) → sets out at (a ++ b) ≡ sets (sets out at a) (at + length a) b
sets_append out at [] b = rw add-zero refl
sets_append out at (x ∷ a) b = rw (add-suc, ← suc-add) (sets_append (set out at x) (suc at) a b)

-- No text.
pub nothing : (out : List ℕ) (at : ℕ) {next : ℕ} → next ≡ min at (length out) → Put out at [] out next
nothing out at e = record { bytes = refl; place = rw add-zero e }

-- A buffer keeps its size.
pub same_size : {a b t : List ℕ} {i j : ℕ} → Put a i t b j → length b ≡ length a
same_size {a} {b} {t} {i} p = ap length p.bytes ∙ length-sets a i t

-- A text and the next.
pub then : {a b c t u : List ℕ} {i j k : ℕ} → Put a i t b j → Put b j u c k → Put a i (t ++ u) c k
then {a} {b} {c} {t} {u} {i} {j} {k} p q =
    let same : length b ≡ length a = same_size p in
    let there : j ≡ min (i + length t) (length b) = rw same p.place in
    record {
      bytes =
          q.bytes
          ∙ cut_place b j (i + length t) u there
          ∙ ap (λ l. sets l (i + length t) u) p.bytes
          ∙ sym (sets_append a i t u);
      place = omega (arith, p.place, q.place, same, length-append t u);
    }

-- No text.
pub adds_nothing : {a : Text} → Adds a [] a
adds_nothing {a} = record { put = nothing a.out.now a.at (omega (arith, a.inside)); same = refl }

-- A text that goes on, and goes on again.
pub adds_then : {a b c : Text} {t u : List ℕ} → Adds a t b → Adds b u c → Adds a (t ++ u) c
adds_then {a} {b} {c} {t} {u} p q = record { put = then p.put q.put; same = q.same ∙ p.same }

-- Behind a buffer's first byte.
behind : (x : ℕ) (out : List ℕ) (at : ℕ) (text : List ℕ) → sets (x ∷ out) (suc at) text ≡ x ∷ sets out at text
behind x out at [] = refl
behind x out at (b ∷ text) = behind x (set out at b) (suc at) text

front : (out text : List ℕ) → sets out 0 text ≡ overwritten out text
front [] [] = refl
front [] (b ∷ text) = past_end [] 1 text (omega arith)
front (x ∷ out) [] = refl
front (x ∷ out) (b ∷ text) = behind b out 0 text ∙ ap (λ l. b ∷ l) (front out text)

-- A text at the front: as much as there is room for, and the rest of the buffer.
pub at_front : {out text after : List ℕ} {next : ℕ} → Put out 0 text after next → (after ≡ overwritten out text) × (next ≡ fitting out text)
at_front {out} {text} p = (p.bytes ∙ front out text, omega (arith, p.place))

-- A text that there is room for is there whole.
pub whole : (out text : List ℕ) {after : List ℕ} {next : ℕ}
    → length text ≤ length out
    → after ≡ overwritten out text
    → next ≡ fitting out text
    → take next after ≡ text
whole out text {next = next} room e f =
    let all : next ≡ length text = omega arith in
    rw (e, all, take_all (length out) text room) (take-append_seam text (drop (length text) out))

-- A text that begins at any place of a buffer, and goes on: put there, also where the place is past the end.
pub from_place : {out text : List ℕ} {place : ℕ} {a b : Text}
    → a.out.now ≡ out
    → a.at ≡ min place (length out)
    → Adds a text b
    → Put out place text b.out.now b.at
from_place {out} {text} {place} {a} {b} e there p =
    let put : Put out a.at text b.out.now b.at = rw e at p.put in
    record { bytes = put.bytes ∙ cut_place out a.at place text there; place = omega (arith, there, put.place) }

-- A text that begins at the front of a buffer, and goes on.
pub from_front : {out text : List ℕ} {a b : Text} → a.out.now ≡ out → a.at ≡ 0 → Adds a text b → Put out 0 text b.out.now b.at
from_front {out} e front p = from_place e (omega (arith, front)) p

-- What is promised of a text at the front that is said to be at most so long where P holds.
pub shown : {P : Type 0} {out text said after : List ℕ} {next most : ℕ}
    → text ≡ said
    → (P → length said ≤ most)
    → Put out 0 text after next
    → (after ≡ overwritten out said) × ((next ≡ fitting out said) × (P → most ≤ length out → take next after ≡ said))
shown {out = out} {said = said} {after = after} {next = next} same short p =
    let there = at_front (rw same at p) in
    (there.0, (there.1, λ h room. whole out said (le_trans (short h) room) there.0 there.1))
