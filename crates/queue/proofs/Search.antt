-- The look of a turn at its node's queue: those found so far are the first ones of the releases that it has come past.
-- Assumes nothing.
use Prim.Native.Nat.{ℕ, suc, ◌+◌, ◌≤◌, ◌<◌, zero-le}
use mathlib.Core.Path.{◌≡◌, refl, sym, ap, ◌∙◌}
use mathlib.Core.Bool.{Bool, true, false, cond}
use mathlib.Core.List.{List}
use mathlib.Core.Logic.{⊎_elim}
use native.Mathlib.Nat.{eq-or-lt_of_le}
use native.Mathlib.Numerals.{add-one}
use native.Mathlib.Omega.{arith}
use lib.Dec.{ltb, leb}
use lib.ListN.{length, take}
use borrow.Author.Tests.{ltb-true, leb-true, leb-false}
use Rattle.theory.specs.Queue.{Queue, first_ones, inserted}
use Rattle.theory.proofs.Tests.{and_reading}
use Rattle.theory.proofs.Places.{at_word}
use Rattle.theory.proofs.FirstOnes.{taking, taken_waits}
use Rattle.theory.proofs.OnePass.{below, ones_start, ones_passed, ones_end, ones_insert, ones_in_order}
use Rattle.model.specs.Limits.{not_begun}
use Rattle.model.specs.Sheet.{word}
use Rattle.model.specs.Protocol.{releases, release_tick, release_stream, of_node, queued_before, waiting, queue_of, taken_by}
use Rattle.model.proofs.Protocol.Queue.{of_node_reading, queue_total}
use Rattle.model.proofs.Protocol.Waiting.{waiting_true, waiting_holds, waiting_begun, waiting_later, waiting_other}
use Rattle.ordering.specs.Ordering.{Found}
use Rattle.queue.specs.Queue.{Arrived, BegunFrom, found_with, found_by}

-- One more release has begun.
pub begun_more : (room : List ℕ) (from to : ℕ)
    → BegunFrom room from to
    → (word room to ≡ not_begun → ⊥)
    → BegunFrom room from (to + 1)
begun_more room from to begun here i low high =
    let last : i ≤ to = omega arith in ⊎_elim (λ same. rw same here) (λ less. begun i low less) (eq-or-lt_of_le last)

-- The look has come to release i: those found are the first ones of the queue of those before i.
pub record Looked (s log : List ℕ) (k tick m : ℕ) (room : List ℕ) (i count : ℕ) (found : List ℕ) : Type 0 where
  pub few : count ≤ m
  pub line : take count found ≡ first_ones m (below i (queue_of s log k tick room))

module _ {s log : List ℕ} {k tick m : ℕ} {room : List ℕ} where
  -- Among those that have begun there is nobody.
  pub look_start : {from : ℕ} (found : List ℕ) → BegunFrom room 0 from → Looked s log k tick m room from 0 found
  look_start {from} found begun =
      let q : Queue = queue_of s log k tick room in
      record {
        few = zero-le;
        line = sym (ones_passed q m 0 from zero-le (λ n low high. waiting_begun s log k tick room n (begun n low high)) ∙ ones_start q m);
      }

  -- Releases that do not wait are passed.
  pub look_on : {i j count : ℕ} {found : List ℕ}
      → i ≤ j
      → ((n : ℕ) → i ≤ n → n < j → waiting s log k tick room n ≡ false)
      → Looked s log k tick m room i count found
      → Looked s log k tick m room j count found
  look_on {i} {j} up_to out so_far =
      record { few = so_far.few; line = so_far.line ∙ sym (ones_passed (queue_of s log k tick room) m i j up_to out) }

  -- One that has not begun is put in, if it is due and the node's.
  pub look_next : {i count next : ℕ} {found after : List ℕ}
      → i < releases log
      → word room i ≡ not_begun
      → next ≤ m
      → take next after ≡ found_by s log k tick m i (take count found)
      → Looked s log k tick m room i count found
      → Looked s log k tick m room (i + 1) next after
  look_next {i = i} {count = count} {found = found} in_log unbegun few put so_far =
      record { few = few; line = rw (add-one i) (put ∙ ap (found_by s log k tick m i) so_far.line ∙ due (leb (release_tick log i) tick) refl) }
    where
      q : Queue
      q = queue_of s log k tick room

      line : List ℕ
      line = first_ones m (below i q)

      passed : waiting s log k tick room i ≡ false → line ≡ first_ones m (below (suc i) q)
      passed out = sym (ones_passed q m i (suc i) (omega arith) (λ n low high. let same : n ≡ i = omega arith in rw same out))

      go : (b : Bool)
          → release_tick log i ≤ tick
          → of_node s k (release_stream log i) ≡ b
          → cond b (take m (inserted (queued_before s log k) i line)) line ≡ first_ones m (below (suc i) q)
      go true early own =
          let waits = waiting_holds s log k tick room i (record { released = early; own = own; unbegun = unbegun }) in
          sym (ones_insert m i q in_log waits)
      go false early other = passed (waiting_other s log k tick room i other)

      due : (b : Bool)
          → leb (release_tick log i) tick ≡ b
          → cond b (found_with s log k m i line) line ≡ first_ones m (below (suc i) q)
      due true early = go (of_node s k (release_stream log i)) (leb-true (release_tick log i) tick early) refl
      due false late = passed (waiting_later s log k tick room i (leb-false (release_tick log i) tick late))

  -- The look ends where all later ones are released after the tick.
  pub look_end : {to i count : ℕ} {found : List ℕ}
      → Arrived log tick to
      → to ≤ i
      → i ≤ releases log
      → Looked s log k tick m room i count found
      → take count found ≡ taken_by s log k tick m room
  look_end {to} {i} arrived done in_log so_far =
      let q : Queue = queue_of s log k tick room in
      so_far.line
      ∙ sym (ones_passed q m i (releases log) in_log (λ n low high. waiting_later s log k tick room n (arrived.later n (omega arith) high)))
      ∙ ones_end q m

  -- Who is found is one of the node's that stands before release i, and they are in queue order.
  pub look_found : {i count : ℕ} {found : List ℕ} → Looked s log k tick m room i count found → Found s log k i (take count found)
  look_found {i} so_far =
      rw so_far.line (record {
        own = λ p inside.
            let w = waits p inside in
            let both = (of_node_reading s k (release_stream log (word xs p))).0 (waiting_true s log k tick room (word xs p) w.1.0).own in
            record { in_log = w.0; above = both.0; up_to = both.1 };
        earlier = λ p inside. ltb-true (word xs p) i (waits p inside).1.1;
        in_order = ones_in_order q (queue_total s log k)
            (λ n h. (waiting_true s log k tick room n ((and_reading (waiting s log k tick room n) _).0 h).0).own) m;
      })
    where
      q : Queue
      q = below i (queue_of s log k tick room)

      xs : List ℕ
      xs = first_ones m q

      waits : (p : ℕ) → p < length xs → (word xs p < releases log) × ((waiting s log k tick room (word xs p) ≡ true) × (ltb (word xs p) i ≡ true))
      waits p inside =
          let w = taken_waits (taking m q) (at_word xs p inside) in
          (w.0, (and_reading (waiting s log k tick room (word xs p)) (ltb (word xs p) i)).0 w.1)
