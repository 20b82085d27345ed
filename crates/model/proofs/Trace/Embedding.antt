-- A log that stands within a whole one: its releases are, in their order, those of the whole log at some places, and no other release of the
-- whole log is waited for before a horizon. Then the two logs have the same run up to that horizon, turn by turn. Assumes nothing.
use Prim.Native.Nat.{ℕ, zero, suc, ◌+◌, ◌≤◌, ◌<◌}
use native.Mathlib.Decide.{ℕ_discrete, dec_lt}
use native.Mathlib.Omega.{arith}
use mathlib.Core.Path.{◌≡◌, refl, sym, ◌∙◌, ap, subst}
use mathlib.Core.Bool.{Bool, true, false}
use mathlib.Core.List.{List, [], ◌∷◌, ◌++◌, map}
use lib.Dec.{ltb}
use lib.ListN.{length, set, length-set, length-map}
use lib.Seq.{get_or-set_same, get_or-set_other}
use borrow.Author.Tests.{ltb-true, ltb-false, lt-ltb, le-ltb}
use Rattle.theory.proofs.Places.{At, here, later}
use Rattle.theory.proofs.FirstOnes.{taking, taken_waits}
use Rattle.theory.proofs.Embedding.{Within, ones_within}
use Rattle.model.specs.declared.Bus.{Bus}
use Rattle.model.specs.Limits.{not_begun}
use Rattle.model.specs.Sheet.{word, message_ticks, budget}
use Rattle.model.specs.Protocol.{releases, release_tick, release_stream, queued_before, waiting, queue_of, taken_by, begins_from, serve, next_bus, State, turn, run}
use Rattle.model.specs.Trace.{begin_words, turn_words, run_words}
use Rattle.model.proofs.Protocol.Queue.{queue_total}
use Rattle.model.proofs.Protocol.Waiting.{waiting_true}
use Rattle.model.proofs.Protocol.Turn.{serve-length, serve_begun}
use Rattle.model.proofs.Protocol.Run.{run_on, run_done}
use Rattle.model.proofs.Protocol.RunWords.{words_on, words_done}

-- The releases of a log stand, in their order, at the places `at` of a whole log.
pub record Part (log whole : List ℕ) (at : ℕ → ℕ) : Type 0 where
  pub below : (i : ℕ) → i < releases log → at i < releases whole
  pub rising : (i j : ℕ) → i < j → j < releases log → at i < at j
  pub ticks : (i : ℕ) → i < releases log → release_tick log i ≡ release_tick whole (at i)
  pub streams : (i : ℕ) → i < releases log → release_stream log i ≡ release_stream whole (at i)

-- The begin words of the two logs agree there, and all other releases of the whole log have begun, or come at the horizon or later.
pub record SameBegins (log whole : List ℕ) (horizon : ℕ) (at : ℕ → ℕ) (begins whole_begins : List ℕ) : Type 0 where
  pub short : length begins ≡ releases log
  pub long : length whole_begins ≡ releases whole
  pub words : (i : ℕ) → i < releases log → word begins i ≡ word whole_begins (at i)
  pub covers : (n : ℕ)
      → n < releases whole
      → word whole_begins n ≡ not_begun
      → release_tick whole n < horizon
      → (i : ℕ) × (i < releases log) × (at i ≡ n)

-- What a turn writes at places of the one list it writes at theirs of the other.
begins_mapped : (ticks tick n : ℕ) (at : ℕ → ℕ) (taken begins others : List ℕ)
    → ((i j : ℕ) → i < n → j < n → at i ≡ at j → i ≡ j)
    → ((p i : ℕ) → At taken p i → i < n)
    → ((i : ℕ) → i < n → i < length begins)
    → ((i : ℕ) → i < n → at i < length others)
    → ((i : ℕ) → i < n → word begins i ≡ word others (at i))
    → (i : ℕ)
    → i < n
    → word (begins_from ticks tick taken begins) i ≡ word (begins_from ticks tick (map at taken) others) (at i)
unfolding begins_from
begins_mapped ticks tick n at [] begins others apart low fits wide same i less = same i less
begins_mapped ticks tick n at (x ∷ taken) begins others apart low fits wide same i less =
    begins_mapped ticks (tick + ticks) n at taken (set begins x tick) (set others (at x) tick) apart
    (λ p j a. low (suc p) j (later a))
    (λ j h. omega (arith, fits j h, length-set begins x tick))
    (λ j h. omega (arith, wide j h, length-set others (at x) tick))
    (λ j h. one j h (ℕ_discrete j x))
    i
    less
  where
    one : (j : ℕ) → j < n → Dec (j ≡ x) → word (set begins x tick) j ≡ word (set others (at x) tick) (at j)
    one j h (yes e) =
        ap (word (set begins x tick)) e
        ∙ get_or-set_same begins x tick 0 (omega (arith, fits j h))
        ∙ sym (ap (λ k. word (set others (at x) tick) (at k)) e ∙ get_or-set_same others (at x) tick 0 (omega (arith, wide j h, ap at e)))
    one j h (no other) =
        get_or-set_other begins x j tick 0 other
        ∙ same j h
        ∙ sym (get_or-set_other others (at x) (at j) tick 0 (λ e. other (apart j x h (low 0 x here) e)))

-- Their release numbers and begin ticks are the same, where the numbers are.
words_mapped : (ticks tick n : ℕ) (at : ℕ → ℕ) (taken numbers others : List ℕ)
    → ((p i : ℕ) → At taken p i → i < n)
    → ((i : ℕ) → i < n → word numbers i ≡ word others (at i))
    → begin_words ticks tick numbers taken ≡ begin_words ticks tick others (map at taken)
unfolding begin_words
words_mapped ticks tick n at [] numbers others low same = refl
words_mapped ticks tick n at (x ∷ taken) numbers others low same =
    ap (λ w. w ∷ tick ∷ begin_words ticks (tick + ticks) numbers taken) (same x (low 0 x here))
    ∙ ap (λ ws. word others (at x) ∷ tick ∷ ws)
    (words_mapped ticks (tick + ticks) n at taken numbers others (λ p i a. low (suc p) i (later a)) same)

module _ (s : List ℕ) {log whole : List ℕ} {at : ℕ → ℕ} (part : Part log whole at) where
  -- Different releases stand at different places.
  apart : (i j : ℕ) → i < releases log → j < releases log → at i ≡ at j → i ≡ j
  apart i j low high e = go (dec_lt i j) (dec_lt j i)
    where
      go : Dec (i < j) → Dec (j < i) → i ≡ j
      go (yes less) d = absurd (omega (arith, part.rising i j less high))
      go (no d) (yes less) = absurd (omega (arith, part.rising j i less low))
      go (no d) (no d') = omega arith

  -- Which is earlier in the log is the same in both.
  same_order : (i j : ℕ) → i < releases log → j < releases log → ltb i j ≡ ltb (at i) (at j)
  same_order i j low high = go (dec_lt i j) (dec_lt j i)
    where
      go : Dec (i < j) → Dec (j < i) → ltb i j ≡ ltb (at i) (at j)
      go (yes less) d = lt-ltb i j less ∙ sym (lt-ltb (at i) (at j) (part.rising i j less high))
      go (no d) (yes less) = le-ltb i j (omega arith) ∙ sym (le-ltb (at i) (at j) (omega (arith, part.rising j i less low)))
      go (no d) (no d') =
          let same : i ≡ j = omega arith in
          le-ltb i j (omega arith) ∙ sym (le-ltb (at i) (at j) (omega (arith, ap at same)))

  -- So is who comes before whom in a queue.
  same_before : (k i j : ℕ)
      → i < releases log
      → j < releases log
      → queued_before s log k i j ≡ queued_before s whole k (at i) (at j)
  unfolding queued_before
  same_before k i j low high = rw (part.streams i low, part.streams j high, same_order i j low high) refl

  module _ {horizon : ℕ} {begins whole_begins : List ℕ} (same : SameBegins log whole horizon at begins whole_begins) where
    same_waiting : (k tick i : ℕ) → i < releases log → waiting s log k tick begins i ≡ waiting s whole k tick whole_begins (at i)
    unfolding waiting
    same_waiting k tick i low = rw (part.ticks i low, part.streams i low, same.words i low) refl

    module _ (k tick m : ℕ) (early : tick < horizon) where
      abbrev taken : List ℕ
      taken = taken_by s log k tick m begins

      abbrev whole_taken : List ℕ
      whole_taken = taken_by s whole k tick m whole_begins

      -- The log's queue before the horizon stands in the whole log's,
      queue_within : Within (queue_of s log k tick begins) (queue_of s whole k tick whole_begins) at
      queue_within =
          record {
            below = part.below;
            apart = apart;
            waits = same_waiting k tick;
            before = same_before k;
            covers = λ n low waits.
                let w = waiting_true s whole k tick whole_begins n waits in
                same.covers n low w.unbegun (omega (arith, w.released));
          }

      -- so a turn takes the same.
      pub same_taken : whole_taken ≡ map at taken
      same_taken =
          ones_within m (queue_of s log k tick begins) (queue_of s whole k tick whole_begins)
          (queue_total s log k) (λ n h. (waiting_true s log k tick begins n h).own)
          (queue_total s whole k) (λ n h. (waiting_true s whole k tick whole_begins n h).own)
          queue_within

      taken_below : (p i : ℕ) → At taken p i → i < releases log
      taken_below p i a = (taken_waits (taking m (queue_of s log k tick begins)) a).0

      -- A release that has not begun after a turn had not begun before it.
      was_unbegun : (n : ℕ) → word (serve s whole k tick m whole_begins).begins n ≡ not_begun → word whole_begins n ≡ not_begun
      was_unbegun n after = go (ℕ_discrete (word whole_begins n) (word (serve s whole k tick m whole_begins).begins n))
        where
          go : Dec (word whole_begins n ≡ word (serve s whole k tick m whole_begins).begins n) → word whole_begins n ≡ not_begun
          go (yes kept) = kept ∙ after
          go (no differ) =
              let w = serve_begun s whole k tick m whole_begins (omega (arith, same.long)) n differ in
              (waiting_true s whole k tick whole_begins n w.2.waited).unbegun

      -- The turn leaves the begin words the same,
      serve_same : SameBegins log whole horizon at (serve s log k tick m begins).begins (serve s whole k tick m whole_begins).begins
      unfolding serve
      serve_same =
          record {
            short = serve-length s log k tick m begins ∙ same.short;
            long = serve-length s whole k tick m whole_begins ∙ same.long;
            words = λ i low. rw same_taken
                (begins_mapped (message_ticks s) tick (releases log) at taken begins whole_begins apart taken_below
                (λ j h. omega (arith, same.short)) (λ j h. omega (arith, same.long, part.below j h)) same.words i low);
            covers = λ n low after. same.covers n low (was_unbegun n after);
          }

      -- takes as many,
      serve_many : (serve s log k tick m begins).taken ≡ (serve s whole k tick m whole_begins).taken
      unfolding serve
      serve_many = sym (ap length same_taken ∙ length-map taken at)

      -- and has the same words, where the numbers are the same.
      serve_words : (numbers whole_numbers : List ℕ)
          → ((i : ℕ) → i < releases log → word numbers i ≡ word whole_numbers (at i))
          → begin_words (message_ticks s) tick numbers taken ≡ begin_words (message_ticks s) tick whole_numbers whole_taken
      serve_words numbers whole_numbers agree =
          words_mapped (message_ticks s) tick (releases log) at taken numbers whole_numbers taken_below agree
          ∙ ap (begin_words (message_ticks s) tick whole_numbers) (sym same_taken)

-- Two states with the same next turn and the same begin words.
pub record Embedded (log whole : List ℕ) (horizon : ℕ) (at : ℕ → ℕ) (st whole_st : State) : Type 0 where
  pub bus : st.bus ≡ whole_st.bus
  pub same : SameBegins log whole horizon at st.begins whole_st.begins

module _ (s : List ℕ) {log whole : List ℕ} {at : ℕ → ℕ} (part : Part log whole at) {horizon : ℕ} where
  -- A turn that starts before the horizon leaves such states again,
  turn_embedded : (st whole_st : State)
      → st.bus.tick < horizon
      → Embedded log whole horizon at st whole_st
      → Embedded log whole horizon at (turn s log st) (turn s whole whole_st)
  unfolding turn
  turn_embedded st whole_st early e =
      subst (λ (b : Bus). Embedded log whole horizon at (turn s log st) (turn s whole (record { bus = b; begins = whole_st.begins }))) e.bus
      (record { bus = ap (next_bus s st.bus) (serve_many s part e.same k tick m early); same = serve_same s part e.same k tick m early })
    where
      k : ℕ
      k = st.bus.node

      tick : ℕ
      tick = st.bus.tick

      m : ℕ
      m = budget s k

  module _ (numbers whole_numbers : List ℕ) (agree : (i : ℕ) → i < releases log → word numbers i ≡ word whole_numbers (at i)) where
    -- and has the same words.
    turn_words_lem : (st whole_st : State)
        → st.bus.tick < horizon
        → Embedded log whole horizon at st whole_st
        → turn_words s log numbers st ≡ turn_words s whole whole_numbers whole_st
    turn_words_lem st whole_st early e =
        subst (λ (b : Bus). turn_words s log numbers st ≡ turn_words s whole whole_numbers (record { bus = b; begins = whole_st.begins })) e.bus
        (serve_words s part e.same st.bus.node st.bus.tick (budget s st.bus.node) early numbers whole_numbers agree)

    -- So the runs have the same words,
    pub words_embedded : (fuel : ℕ) (st whole_st : State)
        → Embedded log whole horizon at st whole_st
        → run_words s log numbers horizon fuel st ≡ run_words s whole whole_numbers horizon fuel whole_st
    unfolding run_words
    words_embedded zero st whole_st e = refl
    words_embedded (suc fuel) st whole_st e =
        go (ltb st.bus.tick horizon) refl (words_embedded fuel (turn s log st) (turn s whole whole_st))
      where
        go : (b : Bool)
            → ltb st.bus.tick horizon ≡ b
            → (Embedded log whole horizon at (turn s log st) (turn s whole whole_st)
            → run_words s log numbers horizon fuel (turn s log st) ≡ run_words s whole whole_numbers horizon fuel (turn s whole whole_st))
            → run_words s log numbers horizon (suc fuel) st ≡ run_words s whole whole_numbers horizon (suc fuel) whole_st
        go true test ih =
            let early : st.bus.tick < horizon = ltb-true st.bus.tick horizon test in
            words_on s log numbers horizon fuel st test
            ∙ ap (λ ws. ws ++ run_words s log numbers horizon fuel (turn s log st)) (turn_words_lem st whole_st early e)
            ∙ ap (λ ws. turn_words s whole whole_numbers whole_st ++ ws) (ih (turn_embedded st whole_st early e))
            ∙ sym (words_on s whole whole_numbers horizon fuel whole_st (sym (ap (λ (b : Bus). ltb b.tick horizon) e.bus) ∙ test))
        go false test ih =
            let done : horizon ≤ st.bus.tick = ltb-false st.bus.tick horizon test in
            words_done s log numbers horizon (suc fuel) st done
            ∙ sym (words_done s whole whole_numbers horizon (suc fuel) whole_st (omega (arith, ap (λ (b : Bus). b.tick) e.bus)))

  -- and end in such states.
  pub run_embedded : (fuel : ℕ) (st whole_st : State)
      → Embedded log whole horizon at st whole_st
      → Embedded log whole horizon at (run s log horizon fuel st) (run s whole horizon fuel whole_st)
  unfolding run
  run_embedded zero st whole_st e = e
  run_embedded (suc fuel) st whole_st e =
      go (ltb st.bus.tick horizon) refl (run_embedded fuel (turn s log st) (turn s whole whole_st))
    where
      go : (b : Bool)
          → ltb st.bus.tick horizon ≡ b
          → (Embedded log whole horizon at (turn s log st) (turn s whole whole_st)
          → Embedded log whole horizon at (run s log horizon fuel (turn s log st)) (run s whole horizon fuel (turn s whole whole_st)))
          → Embedded log whole horizon at (run s log horizon (suc fuel) st) (run s whole horizon (suc fuel) whole_st)
      go true test ih =
          rw (
            run_on s log horizon fuel st test,
            run_on s whole horizon fuel whole_st (sym (ap (λ (b : Bus). ltb b.tick horizon) e.bus) ∙ test),
          )
          (ih (turn_embedded st whole_st (ltb-true st.bus.tick horizon test) e))
      go false test ih =
          let done : horizon ≤ st.bus.tick = ltb-false st.bus.tick horizon test in
          rw (
            run_done s log horizon (suc fuel) st done,
            run_done s whole horizon (suc fuel) whole_st (omega (arith, ap (λ (b : Bus). b.tick) e.bus)),
          )
          e
