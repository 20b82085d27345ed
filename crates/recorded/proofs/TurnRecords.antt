-- A turn and the records: those that it takes can be noted, and noting them leaves the list that is worked out afresh from the log and the
-- begins after it. Assumes nothing.
use Prim.Native.Nat.{ℕ, zero, suc, pred, ◌+◌, ◌-◌, ◌*◌, ◌≤◌, ◌<◌}
use native.Mathlib.Nat.{mul-le-mul_left, mul-le-mul_right}
use native.Mathlib.Omega.{arith}
use mathlib.Core.Path.{◌≡◌, refl, sym, ◌∙◌, ap}
use mathlib.Core.List.{List, [], ◌∷◌, ◌++◌, map}
use lib.ListN.{length, get_or, set, drop, length-append, length-set, get_or-append}
use lib.Seq.{get_or-take, get_or-set_other, set-append_left, drop_at}
use lib.Dec.{ltb}
use borrow.Author.Tests.{le-ltb}
use Rattle.theory.proofs.Places.{At, here, later, at_word}
use Rattle.theory.proofs.FirstOnes.{taken_few, taken_waits, taken_once}
use Rattle.model.specs.declared.Bus.{Bus}
use Rattle.model.specs.declared.StreamRecord.{StreamRecord}
use Rattle.model.specs.declared.Verdict.{Verdict}
use Rattle.model.specs.declared.Verdict.TheVariants.{Late, Listed}
use Rattle.model.specs.Limits.{max_time, max_budget, max_releases, not_begun}
use Rattle.model.specs.Sheet.{word, message_ticks, budget, total_streams}
use Rattle.model.specs.Protocol.{releases, release_tick, release_stream, taken_by, begins_from, serve, serve_turn}
use Rattle.model.specs.Records.{longer_than, verdicts_of, records_of, none_yet, record_at, noted}
use Rattle.model.proofs.Sheet.ValidSheet.{valid_fits}
use Rattle.model.proofs.Protocol.Turn.{account}
use Rattle.model.proofs.Protocol.Waiting.{waiting_true}
use Rattle.model.proofs.Records.Listed.{Begins, verdicts_length, records_length, records_counts, records_noted}
use Rattle.queue.specs.Queue.{ValidNode}
use Rattle.limits.specs.Limits.{no_limit, limit_word, LimitsOf}
use Rattle.records.specs.Noting.{noted_with, noted_in, note_as, noted_from, CanBeNoted}
use Rattle.recorded.specs.Recorded.{KnownStreams, UpToDate}

-- A wait is longer than the listed one exactly where it is above the limit.
longer_limit : (v : Verdict) (wait : ℕ) → wait ≤ no_limit → longer_than v wait ≡ ltb (limit_word v) wait
unfolding longer_than limit_word
longer_limit Late wait small = sym (le-ltb no_limit wait small)
longer_limit (Listed listed cycles) wait small = refl

noted_limit : (v : Verdict) (limit wait : ℕ) (old : StreamRecord)
    → limit ≡ limit_word v
    → wait ≤ no_limit
    → noted_with limit wait old ≡ noted (longer_than v wait) wait old
unfolding noted
noted_limit v limit wait old same small = rw (same, longer_limit v wait small) refl

-- The limit of a stream, by the verdict on it.
mapped_at : (vs : List Verdict) (p : ℕ) → p < length vs → word (map limit_word vs) p ≡ limit_word (get_or vs p Late)
mapped_at [] p inside = absurd (omega arith)
mapped_at (v ∷ vs) zero inside = refl
mapped_at (v ∷ vs) (suc p) inside = mapped_at vs p (omega arith)

limit_at_lem : (s limits : List ℕ) (p : ℕ) → LimitsOf s limits → p < total_streams s → word limits p ≡ limit_word (get_or (verdicts_of s) p Late)
limit_at_lem s limits p known inside =
    sym (get_or-take (total_streams s) limits p 0 inside)
    ∙ ap (λ front. word front p) known.front
    ∙ mapped_at (verdicts_of s) p (rw (verdicts_length s) inside)

-- Releases that have not begun, each of them once.
record Unbegun (log room taken : List ℕ) : Type 0 where
  in_log : (p i : ℕ) → At taken p i → i < releases log
  unbegun : (p i : ℕ) → At taken p i → word room i ≡ not_begun
  once : (p r i : ℕ) → At taken p i → At taken r i → p ≡ r

-- The first of them begins; those after it have not begun.
rest_unbegun : {log room taken : List ℕ} {i : ℕ} (t : ℕ) → Unbegun log room (i ∷ taken) → Unbegun log (set room i t) taken
rest_unbegun {log} {room} {taken} {i} t all =
    record {
      in_log = λ p j a. all.in_log (suc p) j (later a);
      unbegun =
          λ p j a.
          get_or-set_other room i j t 0 (λ e. omega (arith, all.once 0 (suc p) j (rw e here) (later a)))
          ∙ all.unbegun (suc p) j (later a);
      once = λ p r j a b. let e = all.once (suc p) (suc r) j (later a) (later b) in omega arith;
    }

module _ (s log limits : List ℕ) (known : LimitsOf s limits) (streams : KnownStreams s log) where
  -- One message that begins.
  one_noted : (room : List ℕ) (rest : List StreamRecord) (i tick : ℕ)
      → Begins log room i tick
      → tick ≤ no_limit
      → noted_in (records_of s log room ++ rest) (note_as log limits tick i) ≡ records_of s log (set room i tick) ++ rest
  unfolding noted_in
  one_noted room rest i tick now small =
      let p : ℕ = pred (release_stream log i) in
      let v : Verdict = get_or (verdicts_of s) p Late in
      let old : List StreamRecord = records_of s log room in
      let wait : ℕ = tick - release_tick log i in
      let low = streams.from i now.in_log in
      let high = streams.up_to i now.in_log in
      let below : p < total_streams s = omega arith in
      let inside : p < length old = rw (records_length s log room) below in
      let its = get_or-append old rest none_yet p inside in
      let counted = noted_limit v (word limits p) wait (record_at old p) (limit_at_lem s limits p known below) (omega arith) in
      ap (λ x. set (old ++ rest) p (noted_with (word limits p) wait x)) its
      ∙ ap (set (old ++ rest) p) counted
      ∙ set-append_left old rest p (noted (longer_than v wait) wait (record_at old p)) inside
      ∙ ap (λ front. front ++ rest) (sym (records_noted s log room i tick now low high))

  -- Messages that begin one after the other.
  all_noted : (ticks tick : ℕ) (taken room : List ℕ) (rest : List StreamRecord)
      → Unbegun log room taken
      → releases log ≤ length room
      → tick + length taken * ticks < not_begun
      → noted_from log limits ticks tick taken (records_of s log room ++ rest) ≡ records_of s log (begins_from ticks tick taken room) ++ rest
  unfolding noted_from begins_from
  all_noted ticks tick [] room rest all fits early = refl
  all_noted ticks tick (i ∷ taken) room rest all fits early =
      let in_log = all.in_log 0 i here in
      let now : Begins log room i tick =
      record { in_log = in_log; room = omega arith; unbegun = all.unbegun 0 i here; begun = λ e. omega arith }
      in
      ap (noted_from log limits ticks (tick + ticks) taken) (one_noted room rest i tick now (omega arith))
      ∙ all_noted ticks (tick + ticks) taken (set room i tick) rest (rest_unbegun tick all) (omega (arith, length-set room i tick)) (omega arith)

-- What stands past the records of the streams.
pub list_rest : (s log begins : List ℕ) (rest : List StreamRecord) {list : List StreamRecord}
    → list ≡ records_of s log begins ++ rest
    → drop (total_streams s) list ≡ rest
list_rest s log begins rest front =
    ap (drop (total_streams s)) front ∙ drop_at (records_of s log begins) rest (total_streams s) (records_length s log begins)

-- A list that starts with the records of the begins is up to date with them.
pub list_current : (s log begins : List ℕ) (rest : List StreamRecord) {list : List StreamRecord}
    → list ≡ records_of s log begins ++ rest
    → UpToDate s log begins list
list_current s log begins rest front = front ∙ ap (λ more. records_of s log begins ++ more) (sym (list_rest s log begins rest front))

-- Turn by turn the list keeps what stood past the records before the first.
pub list_next : (s log begins after : List ℕ) (rest : List StreamRecord) {list next : List StreamRecord}
    → list ≡ records_of s log begins ++ rest
    → next ≡ records_of s log after ++ drop (total_streams s) list
    → next ≡ records_of s log after ++ rest
list_next s log begins after rest front step = step ∙ ap (λ more. records_of s log after ++ more) (list_rest s log begins rest front)

-- A list that is up to date has a record for each stream.
pub list_long : (s log room : List ℕ) {records : List StreamRecord} → UpToDate s log room records → total_streams s ≤ length records
list_long s log room {records} up_to_date =
    omega (
      arith,
      ap length up_to_date,
      length-append (records_of s log room) (drop (total_streams s) records),
      records_length s log room,
    )

-- Those that a turn takes.
abbrev pub taken : List ℕ → List ℕ → Bus → List ℕ → List ℕ
taken s log bus room = taken_by s log bus.node bus.tick (budget s bus.node) room

module _ (s log : List ℕ) (bus : Bus) (room : List ℕ) where
  -- They are as many as it takes.
  pub taken_is : (serve_turn s log bus room).taken ≡ length (taken s log bus room)
  unfolding serve
  taken_is = refl

  -- They have not begun.
  taken_unbegun : Unbegun log room (taken s log bus room)
  taken_unbegun =
      let its = account s log bus.node bus.tick (budget s bus.node) room in
      record {
        in_log = λ p i a. (taken_waits its a).0;
        unbegun = λ p i a. (waiting_true s log bus.node bus.tick room i (taken_waits its a).1).unbegun;
        once = λ p r i a b. taken_once its a b;
      }

  -- They are sixteen at most.
  pub taken_most : ValidNode s bus.node → length (taken s log bus room) ≤ max_budget
  taken_most node =
      omega (
        arith,
        taken_few (account s log bus.node bus.tick (budget s bus.node) room),
        ((valid_fits s node.valid).rows bus.node node.from node.up_to).budget_to,
      )

  -- They can be noted.
  pub turn_notable : {limits : List ℕ} {records : List StreamRecord}
      → LimitsOf s limits
      → KnownStreams s log
      → UpToDate s log room records
      → CanBeNoted log limits (taken s log bus room) bus.tick max_releases records
  turn_notable known streams up_to_date =
      let its = account s log bus.node bus.tick (budget s bus.node) room in
      record {
        in_log = λ p inside. (taken_waits its (at_word (taken s log bus room) p inside)).0;
        due =
            λ p inside.
            let i : ℕ = word (taken s log bus room) p in
            (waiting_true s log bus.node bus.tick room i (taken_waits its (at_word (taken s log bus room) p inside)).1).released;
        numbered = streams.from;
        limited = λ i h. omega (arith, streams.up_to i h, known.long);
        recorded = λ i h. omega (arith, streams.up_to i h, list_long s log room up_to_date);
        counts =
            λ i h.
            let p : ℕ = pred (release_stream log i) in
            let inside : p < length (records_of s log room) = omega (arith, streams.from i h, streams.up_to i h, records_length s log room) in
            let its = ap (λ rs. record_at rs p) up_to_date ∙ get_or-append (records_of s log room) _ none_yet p inside in
            let most = records_counts s log room p in
            rw its (record { begun = omega (arith, most.0, streams.few); over = omega (arith, most.1, streams.few) });
      }

  -- Noting them leaves the list up to date with the begins after the turn.
  pub turn-noted : {limits : List ℕ} {records : List StreamRecord}
      → ValidNode s bus.node
      → bus.tick ≤ max_time
      → releases log ≤ length room
      → LimitsOf s limits
      → KnownStreams s log
      → UpToDate s log room records
      → noted_from log limits (message_ticks s) bus.tick (taken s log bus room) records
      ≡ records_of s log (serve_turn s log bus room).begins ++ drop (total_streams s) records
  unfolding serve
  turn-noted {limits} {records} node soon fits known streams up_to_date =
      let short = (valid_fits s node.valid).header.message_to in
      let few = mul-le-mul_right (message_ticks s) (taken_most node) in
      let most = mul-le-mul_left max_budget short in
      ap (noted_from log limits (message_ticks s) bus.tick (taken s log bus room)) up_to_date
      ∙ all_noted s log limits known streams (message_ticks s) bus.tick (taken s log bus room) room (drop (total_streams s) records)
      taken_unbegun fits (omega (arith, soon, few, most))

  -- The same for a program that holds the places of those taken.
  pub places_notable : {limits places : List ℕ} {records : List StreamRecord}
      → places ≡ taken s log bus room
      → LimitsOf s limits
      → KnownStreams s log
      → UpToDate s log room records
      → CanBeNoted log limits places bus.tick max_releases records
  places_notable same known streams up_to_date = rw same (turn_notable known streams up_to_date)

  pub places_noted : {limits places after : List ℕ} {records list : List StreamRecord} {message : ℕ}
      → ValidNode s bus.node
      → bus.tick ≤ max_time
      → releases log ≤ length room
      → LimitsOf s limits
      → KnownStreams s log
      → UpToDate s log room records
      → places ≡ taken s log bus room
      → message ≡ message_ticks s
      → after ≡ (serve_turn s log bus room).begins
      → list ≡ noted_from log limits message bus.tick places records
      → list ≡ records_of s log after ++ drop (total_streams s) records
  places_noted node soon fits known streams up_to_date same sent words noted =
      noted ∙ rw (same, sent, words) (turn-noted node soon fits known streams up_to_date)
