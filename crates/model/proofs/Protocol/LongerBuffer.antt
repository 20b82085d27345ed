-- A turn over a buffer that is longer than the log serves the begin words in its front and leaves the rest. Assumes nothing.
use Prim.Native.Nat.{ℕ, suc, ◌+◌, ◌≤◌, ◌<◌}
use mathlib.Core.Path.{◌≡◌, refl, sym, ◌∙◌, ap}
use mathlib.Core.List.{List, [], ◌∷◌, ◌++◌}
use native.Mathlib.Omega.{arith}
use lib.ListN.{length, set, take, drop, length-set, take-append-drop, get_or-append}
use lib.Seq.{length-take-le, set-append_left, take_at, drop_at}
use Rattle.theory.proofs.Places.{At, here, later}
use Rattle.theory.proofs.FirstOnes.{taking, taken_waits, ones_same}
use Rattle.model.specs.Sheet.{message_ticks}
use Rattle.model.specs.Protocol.{releases, queued_before, waiting, queue_of, taken_by, begins_from, Served, serve}
use Rattle.model.proofs.Protocol.Waiting.{waiting_same}
use Rattle.model.proofs.Protocol.Turn.{serve-length}

-- Words of releases that stand in the front are written there.
begins_front : (ticks tick : ℕ) (taken begins rest : List ℕ)
    → ((p i : ℕ) → At taken p i → i < length begins)
    → begins_from ticks tick taken (begins ++ rest) ≡ begins_from ticks tick taken begins ++ rest
unfolding begins_from
begins_front ticks tick [] begins rest inside = refl
begins_front ticks tick (i ∷ taken) begins rest inside =
    rw (set-append_left begins rest i tick (inside 0 i here))
    (begins_front ticks (tick + ticks) taken (set begins i tick) rest
    (λ p j a. omega (arith, inside (suc p) j (later a), length-set begins i tick)))

-- What a turn makes of a longer buffer.
abbrev pub on_front : List ℕ → Served → Served
on_front rest v = record { taken = v.taken; begins = v.begins ++ rest }

module _ (s log : List ℕ) (k tick m : ℕ) (begins rest : List ℕ) (exact : length begins ≡ releases log) where
  -- The same are taken: the words past the log are not looked at.
  front_taken : taken_by s log k tick m (begins ++ rest) ≡ taken_by s log k tick m begins
  front_taken =
      ones_same
      (releases log)
      (queued_before s log k)
      m
      (waiting s log k tick (begins ++ rest))
      (waiting s log k tick begins)
      (λ i h. waiting_same s log k tick begins (begins ++ rest) i (get_or-append begins rest 0 i (omega arith)))

  -- Their words are written in the front.
  front_begins : begins_from (message_ticks s) tick (taken_by s log k tick m begins) (begins ++ rest)
      ≡ begins_from (message_ticks s) tick (taken_by s log k tick m begins) begins ++ rest
  front_begins =
      begins_front (message_ticks s) tick (taken_by s log k tick m begins) begins rest
      (λ p i a. omega (arith, (taken_waits (taking m (queue_of s log k tick begins)) a).0))

  pub serve_front : serve s log k tick m (begins ++ rest) ≡ on_front rest (serve s log k tick m begins)
  unfolding serve
  serve_front =
      ap
      (λ (xs : List ℕ). record { taken = length xs; begins = begins_from (message_ticks s) tick xs (begins ++ rest) })
      front_taken
      ∙ (λ i. record { taken = length (taken_by s log k tick m begins); begins = front_begins i })

-- What a turn over a buffer does to its front and to the rest.
pub record FrontServed (log room : List ℕ) (long short : Served) : Type 0 where
  pub taken : long.taken ≡ short.taken
  pub front : take (releases log) long.begins ≡ short.begins
  pub rest : drop (releases log) long.begins ≡ drop (releases log) room

pub front_served : (s log : List ℕ) (k tick m : ℕ) (room : List ℕ)
    → releases log ≤ length room
    → FrontServed log room (serve s log k tick m room) (serve s log k tick m (take (releases log) room))
front_served s log k tick m room fits =
    let n : ℕ = releases log in
    let begins : List ℕ = take n room in
    let after : List ℕ = (serve s log k tick m begins).begins in
    let exact : length begins ≡ n = length-take-le n room fits in
    let whole = serve_front s log k tick m begins (drop n room) exact in
    let long = rw (take-append-drop n room) at whole in
    let kept = serve-length s log k tick m begins ∙ exact in
    record {
      taken = ap (λ v. v.taken) long;
      front = ap (λ v. take n v.begins) long ∙ take_at after (drop n room) n kept;
      rest = ap (λ v. drop n v.begins) long ∙ drop_at after (drop n room) n kept;
    }

-- The same are taken as from its front.
pub front_takes : (s log : List ℕ) (k tick m : ℕ) (room : List ℕ)
    → releases log ≤ length room
    → taken_by s log k tick m room ≡ taken_by s log k tick m (take (releases log) room)
front_takes s log k tick m room fits =
    let n : ℕ = releases log in
    sym (ap (taken_by s log k tick m) (take-append-drop n room))
    ∙ front_taken s log k tick m (take n room) (drop n room) (length-take-le n room fits)
