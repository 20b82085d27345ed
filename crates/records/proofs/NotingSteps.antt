-- A turn's messages are noted one by one: what is left of the noting equals the whole, so that a loop can keep it. Assumes nothing.
use Prim.Native.Nat.{ℕ, pred, ◌+◌, ◌*◌, ◌≤◌, ◌<◌, suc, zero-le}
use mathlib.Core.Path.{◌≡◌, refl, sym, ap, ◌∙◌, subst}
use mathlib.Core.Bool.{Bool, true, false, cond}
use mathlib.Core.List.{List, []}
use native.Mathlib.Nat.{add_assoc, suc-mul}
use native.Mathlib.Numerals.{add-one}
use native.Mathlib.Omega.{arith}
use lib.Dec.{ltb, eqb}
use lib.ListN.{length, set, take, drop, length-set, drop_of_length-le}
use lib.Seq.{drop-cons, length-take-le, get_or-take, get_or-set_same, get_or-set_other}
use borrow.Author.Tests.{eqb-true, eqb-false}
use Rattle.model.specs.declared.StreamRecord.{StreamRecord}
use Rattle.model.specs.Limits.{max_budget, max_releases}
use Rattle.model.specs.Sheet.{word}
use Rattle.model.specs.Protocol.{releases, release_tick, release_stream}
use Rattle.model.specs.Records.{none_yet, record_at, noted}
use Rattle.records.specs.declared.Note.{Note}
use Rattle.records.specs.Noting.{noted_with, noted_in, note_as, noted_from, CountsUpTo, CanBeNoted}

-- One message more, and the counts have not come further than one more.
counts_raised : (limit wait : ℕ) {most : ℕ} {r : StreamRecord} → CountsUpTo most r → CountsUpTo (most + 1) (noted_with limit wait r)
unfolding noted
counts_raised limit wait {most} {r} c = record { begun = omega (arith, c.begun); over = go (ltb limit wait) }
  where
    go : (b : Bool) → cond b (r.over + 1) r.over ≤ most + 1
    go true = omega (arith, c.over)
    go false = omega (arith, c.over)

counts_wider : {most : ℕ} {r : StreamRecord} → CountsUpTo most r → CountsUpTo (most + 1) r
counts_wider c = record { begun = omega (arith, c.begun); over = omega (arith, c.over) }

-- So it is with each record of the list.
counts_kept : (records : List StreamRecord) (note : Note) {most : ℕ} (i : ℕ)
    → note.at < length records
    → CountsUpTo most (record_at records note.at)
    → CountsUpTo most (record_at records i)
    → CountsUpTo (most + 1) (record_at (noted_in records note) i)
unfolding noted_in
counts_kept records note {most} i inside noted other = go (eqb i note.at) refl
  where
    new : StreamRecord
    new = noted_with note.limit note.wait (record_at records note.at)

    go : (b : Bool) → eqb i note.at ≡ b → CountsUpTo (most + 1) (record_at (set records note.at new) i)
    go true e =
        let there : record_at (set records note.at new) i ≡ new =
        ap (record_at (set records note.at new)) (eqb-true i note.at e) ∙ get_or-set_same records note.at new none_yet inside in
        subst (CountsUpTo (most + 1)) (sym there) (counts_raised note.limit note.wait noted)
    go false e =
        subst (CountsUpTo (most + 1)) (sym (get_or-set_other records note.at i new none_yet (eqb-false i note.at e))) (counts_wider other)

-- The list stays as long as it is.
pub noted-length : (records : List StreamRecord) (note : Note) → length (noted_in records note) ≡ length records
unfolding noted_in
noted-length records note = length-set records note.at _

-- The first j of the messages at the first `count` places have been noted, and the list is now `records`.
pub record NotingAt (log limits : List ℕ) (ticks tick : ℕ) (places : List ℕ) (count : ℕ) (records₀ : List StreamRecord)
    (j : ℕ) (records : List StreamRecord) : Type 0 where
  pub rest : noted_from log limits ticks (tick + j * ticks) (drop j (take count places)) records
      ≡ noted_from log limits ticks tick (take count places) records₀
  pub can : CanBeNoted log limits (take count places) tick (max_releases + j) records
  pub long : length records ≡ length records₀
  pub up_to : j ≤ count

module _ (log limits : List ℕ) (ticks tick : ℕ) (places : List ℕ) (count : ℕ) (records₀ : List StreamRecord) where
  -- None has been noted yet.
  pub noting_starts : CanBeNoted log limits (take count places) tick max_releases records₀
      → NotingAt log limits ticks tick places count records₀ 0 records₀
  noting_starts can =
      record {
        rest = ap (λ n. noted_from log limits ticks n (take count places) records₀) (omega arith);
        can = can;
        long = refl;
        up_to = zero-le;
      }

  -- Where no message is left to note, all have been noted, also for a j past their number.
  pub none_to_note : (j : ℕ) (records : List StreamRecord)
      → noted_from log limits ticks (tick + j * ticks) (drop j (take count places)) records
      ≡ noted_from log limits ticks tick (take count places) records₀
      → count ≤ length places
      → count ≤ j
      → records ≡ noted_from log limits ticks tick (take count places) records₀
  unfolding noted_from
  none_to_note j records rest long done =
      let line = length-take-le count places long in
      let none : drop j (take count places) ≡ [] = drop_of_length-le (take count places) {i = j} (omega (arith, line)) in
      sym (ap (λ xs. noted_from log limits ticks (tick + j * ticks) xs records) none) ∙ rest

  module _ (j : ℕ) (records : List StreamRecord) (at : NotingAt log limits ticks tick places count records₀ j records) where
    -- All have been noted.
    pub noting_ends : count ≤ length places → count ≤ j → records ≡ noted_from log limits ticks tick (take count places) records₀
    noting_ends long done = none_to_note j records at.rest long done

    module _ (long : count ≤ length places) (more : j < count) where
      -- the release at place j
      abbrev next : ℕ
      next = word places j

      abbrev note : Note
      note = note_as log limits (tick + j * ticks) next

      inside : j < length (take count places)
      inside = omega (arith, length-take-le count places long)

      same : word (take count places) j ≡ next
      same = get_or-take count places j 0 more

      -- It is one of the log's and due, and its stream has a limit,
      pub next_in_log : next < releases log
      next_in_log = subst (λ i. i < releases log) same (at.can.in_log j inside)

      pub next_due : release_tick log next ≤ tick
      next_due = subst (λ i. release_tick log i ≤ tick) same (at.can.due j inside)

      pub next_numbered : 1 ≤ release_stream log next
      next_numbered = at.can.numbered next next_in_log

      pub next_limited : release_stream log next ≤ length limits
      next_limited = at.can.limited next next_in_log

      -- and a record,
      pub next_recorded : note.at < length records
      next_recorded =
          let less : pred (release_stream log next) < length records = omega (arith, next_numbered, at.can.recorded next next_in_log) in
          less

      -- which can still count.
      pub next_counts : count ≤ max_budget → CountsUpTo (max_releases + max_budget) (record_at records note.at)
      next_counts few =
          let c = at.can.counts next next_in_log in
          record { begun = omega (arith, c.begun); over = omega (arith, c.over) }

      -- It is noted.
      pub noting_goes_on : NotingAt log limits ticks tick places count records₀ (j + 1) (noted_in records note)
      unfolding noted_from
      noting_goes_on =
          let line : (j + 1) * ticks ≡ j * ticks + ticks = rw (add-one j) (suc-mul j ticks) in
          let later : tick + (j + 1) * ticks ≡ tick + j * ticks + ticks = omega (arith, line) in
          let noted : List StreamRecord = noted_in records (note_as log limits (tick + j * ticks) (word (take count places) j)) in
          let left : noted_from log limits ticks (tick + j * ticks + ticks) (drop (suc j) (take count places)) noted
          ≡ noted_from log limits ticks tick (take count places) records₀ =
          sym (ap (λ xs. noted_from log limits ticks (tick + j * ticks) xs records) (drop-cons (take count places) j 0 inside)) ∙ at.rest in
          record {
            rest = rw (later, add-one j) (rw same at left);
            can =
                record {
                  in_log = at.can.in_log;
                  due = at.can.due;
                  numbered = at.can.numbered;
                  limited = at.can.limited;
                  recorded = λ i h. omega (arith, noted-length records note, at.can.recorded i h);
                  counts = λ i h. subst (λ n. CountsUpTo n (record_at (noted_in records note) (pred (release_stream log i)))) (add_assoc max_releases j 1)
                      (counts_kept records note (pred (release_stream log i)) next_recorded (at.can.counts next next_in_log) (at.can.counts i h));
                };
            long = noted-length records note ∙ at.long;
            up_to = omega arith;
          }
