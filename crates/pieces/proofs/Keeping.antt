-- The places of a record: one more message that waits stands after the others, and the places past it hold 0. Assumes nothing.
use Prim.Native.Nat.{ℕ, suc, ◌+◌, ◌-◌, ◌<◌}
use native.Mathlib.Numerals.{add-one}
use native.Mathlib.Omega.{arith}
use mathlib.Core.Path.{◌≡◌, sym, ◌∙◌, ap}
use mathlib.Core.List.{List, [], ◌∷◌, ◌++◌, map}
use borrow.Author.Tests.{eq-eqb, ne_eqb}
use lib.Dec.{eqb}
use lib.ListN.{length, set, replicate, length-append, length-map}
use lib.Seq.{set_at, append_snoc}
use Rattle.theory.specs.Listing.{holding_below}
use Rattle.theory.proofs.Holding.{map_more, holding_keeps, holding_passes, holding_few}
use Rattle.model.specs.Limits.{max_waiting, not_begun}
use Rattle.model.specs.Sheet.{word}
use Rattle.model.specs.Protocol.{release_tick, release_stream}
use Rattle.pieces.specs.declared.Checkpoint.{Checkpoint}
use Rattle.pieces.specs.Pieces.{in_places, holding, with_release}

-- The first free place takes the next word.
places_next : (xs : List ℕ) (v n : ℕ) → length xs ≡ n → n < max_waiting → set (in_places xs) n v ≡ in_places (xs ++ v ∷ [])
places_next xs v n count free =
    let m : ℕ = max_waiting - length (xs ++ v ∷ []) in
    let one : max_waiting - length xs ≡ suc m = omega (arith, length-append xs (v ∷ [])) in
    ap (λ k. set (xs ++ replicate k 0) n v) one
    ∙ set_at xs 0 (replicate m 0) v n count
    ∙ sym (append_snoc xs v (replicate m 0))

-- The same for the words of messages.
placed : (f : ℕ → ℕ) (xs : List ℕ) (i : ℕ) → length xs < max_waiting → set (in_places (map f xs)) (length xs) (f i) ≡ in_places (map f (xs ++ i ∷ []))
placed f xs i free = places_next (map f xs) (f i) (length xs) (length-map xs f) free ∙ ap in_places (sym (map_more f xs i))

-- A record that holds some releases of a log holds one more.
pub holding_more : (c : Checkpoint) (log numbers xs : List ℕ) (i : ℕ)
    → length xs < max_waiting
    → with_release (holding c log numbers xs) (word numbers i) (release_tick log i) (release_stream log i) ≡ holding c log numbers (xs ++ i ∷ [])
holding_more c log numbers xs i free =
    λ p. record {
      horizon = c.horizon;
      bus = c.bus;
      releases = c.releases;
      waiting = sym (length-append xs (i ∷ [])) p;
      numbers = placed (word numbers) xs i free p;
      ticks = placed (release_tick log) xs i free p;
      streams = placed (release_stream log) xs i free p;
    }

-- The record that holds those of the first i releases that have not begun.
abbrev pub held_below : Checkpoint → List ℕ → List ℕ → List ℕ → ℕ → Checkpoint
held_below c log numbers begins i = holding c log numbers (holding_below (λ k. eqb (word begins k) not_begun) i)

-- The next release is held too if it has not begun,
pub held_next : (c : Checkpoint) (log numbers begins : List ℕ) (i : ℕ) {so_far next : Checkpoint}
    → i < max_waiting
    → word begins i ≡ not_begun
    → so_far ≡ held_below c log numbers begins i
    → next ≡ with_release so_far (word numbers i) (release_tick log i) (release_stream log i)
    → next ≡ held_below c log numbers begins (i + 1)
held_next c log numbers begins i {so_far} {next} free waits held added =
    let few = holding_few (λ k. eqb (word begins k) not_begun) i in
    let keeps = holding_keeps (λ k. eqb (word begins k) not_begun) i (eq-eqb (word begins i) not_begun waits) in
    rw (add-one i)
    (added
    ∙ ap (λ r. with_release r (word numbers i) (release_tick log i) (release_stream log i)) held
    ∙ holding_more c log numbers (holding_below (λ k. eqb (word begins k) not_begun) i) i (omega arith)
    ∙ ap (holding c log numbers) (sym keeps))

-- and none is added if it has.
pub held_past : (c : Checkpoint) (log numbers begins : List ℕ) (i : ℕ) {so_far : Checkpoint}
    → (word begins i ≡ not_begun → ⊥)
    → so_far ≡ held_below c log numbers begins i
    → so_far ≡ held_below c log numbers begins (i + 1)
held_past c log numbers begins i {so_far} begun held =
    let passes = holding_passes (λ k. eqb (word begins k) not_begun) i (ne_eqb (word begins i) not_begun begun) in
    rw (add-one i) (held ∙ ap (holding c log numbers) (sym passes))
