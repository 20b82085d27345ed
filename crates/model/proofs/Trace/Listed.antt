-- The words of a run: two for each message begun, its number and its begin tick. They list each release that begins, once, with the begin
-- that the run gives it, and no other. Assumes nothing.
use Prim.Native.Nat.{ℕ, zero, suc, ◌+◌, ◌*◌, ◌≤◌, ◌<◌}
use native.Mathlib.Decide.{ℕ_discrete, dec_lt}
use native.Mathlib.Omega.{arith}
use mathlib.Core.Path.{◌≡◌, refl, sym, ◌∙◌, ap}
use mathlib.Core.Bool.{Bool, true, false}
use mathlib.Core.List.{List, [], ◌++◌}
use lib.ListN.{length, length-replicate, get_or-replicate}
use lib.Dec.{ltb}
use borrow.Author.Tests.{ltb-true, ltb-false}
use Rattle.theory.specs.Listing.{values_from}
use Rattle.theory.proofs.Listing.{values_at}
use Rattle.theory.proofs.Places.{At, at_place, at?}
use Rattle.theory.proofs.FirstOnes.{taken_waits, taken_once}
use Rattle.model.specs.Limits.{release_words, max_time, not_begun}
use Rattle.model.specs.Sheet.{word, message_ticks}
use Rattle.model.specs.Protocol.{releases, release_tick, State, turn, none_begun, first_turn, start, run, replayed}
use Rattle.model.specs.Demand.{Accepts}
use Rattle.model.specs.Trace.{turn_words, run_words, begin_listed, replay_words}
use Rattle.model.proofs.Sheet.ValidSheet.{SheetFits, valid_fits}
use Rattle.model.proofs.Answers.NotRefused.{replay_accepted}
use Rattle.model.proofs.Protocol.Waiting.{waiting_true}
use Rattle.model.proofs.Protocol.Run.{run_on, run_done}
use Rattle.model.proofs.Protocol.RunWords.{words_on, words_done}
use Rattle.model.proofs.Trace.JoinedLog.{joined_even, of_piece_lem, tick_of_log, tick_of_piece}
use Rattle.model.proofs.Trace.TurnWords.{listed_count, listed_even, listed_number, listed_taken, listed_else, taken_at, Ready, ready_next, turn_account, untaken, begun_stays, taken_begins, taken_begun}

-- The account of a run that lists its messages: the run is done, or a turn starts before the horizon and the account goes on after it.
pub data Running (s log numbers : List ℕ) (horizon : ℕ) : (st end : State) (words : List ℕ) → Type 0 where
  done : {st : State} → Running s log numbers horizon st st []
  goes : {st end : State} {rest : List ℕ}
      → st.bus.tick < horizon
      → Running s log numbers horizon (turn s log st) end rest
      → Running s log numbers horizon st end (turn_words s log numbers st ++ rest)

-- A release of the log that place p of some words has the number of, and that has not begun.
pub record ListedAs (log numbers begins words : List ℕ) (p : ℕ) : Type 0 where
  pub release : ℕ
  pub in_log : release < releases log
  pub named : release_tick words p ≡ word numbers release
  pub unbegun : word begins release ≡ not_begun

-- No two releases have the same number.
abbrev pub Distinct : List ℕ → List ℕ → Type 0
Distinct log numbers = (a b : ℕ) → a < releases log → b < releases log → word numbers a ≡ word numbers b → a ≡ b

module _ (s log numbers : List ℕ) (horizon : ℕ) where
  -- Every run has such an account.
  pub running : (fuel : ℕ) (st : State)
      → Running s log numbers horizon st (run s log horizon fuel st) (run_words s log numbers horizon fuel st)
  unfolding run run_words
  running zero st = done
  running (suc fuel) st = go (ltb st.bus.tick horizon) refl (running fuel (turn s log st))
    where
      go : (b : Bool)
          → ltb st.bus.tick horizon ≡ b
          → Running s log numbers horizon (turn s log st) (run s log horizon fuel (turn s log st)) (run_words s log numbers horizon fuel (turn s log st))
          → Running s log numbers horizon st (run s log horizon (suc fuel) st) (run_words s log numbers horizon (suc fuel) st)
      go true early rest =
          rw (run_on s log horizon fuel st early, words_on s log numbers horizon fuel st early) (goes (ltb-true st.bus.tick horizon early) rest)
      go false late rest =
          let over : horizon ≤ st.bus.tick = ltb-false st.bus.tick horizon late in
          rw (run_done s log horizon (suc fuel) st over, words_done s log numbers horizon (suc fuel) st over) done

  turn_even : (st : State) → length (turn_words s log numbers st) ≡ release_words * releases (turn_words s log numbers st)
  turn_even st = listed_even (message_ticks s) numbers st.bus.tick (taken_at s log st)

  running_even : {st end : State} {words : List ℕ} → Running s log numbers horizon st end words → length words ≡ release_words * releases words
  running_even done = refl
  running_even (goes {st = st} {rest = rest} early more) = joined_even (turn_words s log numbers st) rest (turn_even st) (running_even more)

  -- The words of a run are two for each message begun.
  pub words_even : (fuel : ℕ) (st : State)
      → length (run_words s log numbers horizon fuel st) ≡ release_words * releases (run_words s log numbers horizon fuel st)
  words_even fuel st = running_even (running fuel st)

  -- A release that has begun keeps its begin to the end of the run.
  pub begun_kept : {st end : State} {words : List ℕ} (i : ℕ)
      → Running s log numbers horizon st end words
      → (word st.begins i ≡ not_begun → ⊥)
      → word end.begins i ≡ word st.begins i
  begun_kept i done begun = refl
  begun_kept i (goes {st = st} early more) begun =
      let stays = begun_stays s log st i begun in
      begun_kept i more (λ e. begun (sym stays ∙ e)) ∙ stays

  -- A place of a turn's words has the number of one that it takes.
  turn-place : (st : State) (rest : List ℕ) (p : ℕ)
      → p < releases (turn_words s log numbers st)
      → (i : ℕ) × At (taken_at s log st) p i × (release_tick (turn_words s log numbers st ++ rest) p ≡ word numbers i)
  turn-place st rest p inside =
      let w = at_place (taken_at s log st) p (omega (arith, listed_count (message_ticks s) numbers st.bus.tick (taken_at s log st))) in
      let number = listed_number (message_ticks s) numbers st.bus.tick w.1 in
      (w.0, w.1, tick_of_log (turn_words s log numbers st) rest (turn_even st) p inside ∙ number)

  -- A place after them has the number that the rest has there.
  rest_place : (st : State) (rest : List ℕ) (p : ℕ)
      → releases (turn_words s log numbers st) ≤ p
      → p < releases (turn_words s log numbers st ++ rest)
      → (j : ℕ) × (p ≡ releases (turn_words s log numbers st) + j)
      × (j < releases rest)
      × (release_tick (turn_words s log numbers st ++ rest) p ≡ release_tick rest j)
  rest_place st rest p past inside =
      let words = turn_words s log numbers st in
      let w = of_piece_lem words rest (turn_even st) p past inside in
      (w.0, w.1, w.2, ap (release_tick (words ++ rest)) w.1 ∙ tick_of_piece words rest (turn_even st) w.0)

  -- Every number that a run lists is that of a release that has not begun at its start.
  pub each_listed : {st end : State} {words : List ℕ} (p : ℕ)
      → Running s log numbers horizon st end words
      → p < releases words
      → ListedAs log numbers st.begins words p
  each_listed p done inside = absurd (omega arith)
  each_listed p (goes {st = st} {rest = rest} early more) inside =
      go (dec_lt p (releases (turn_words s log numbers st))) (λ j within. each_listed j more within)
    where
      back : (i : ℕ) → Dec (word st.begins i ≡ not_begun) → word (turn s log st).begins i ≡ not_begun → word st.begins i ≡ not_begun
      back i (yes unbegun) still = unbegun
      back i (no begun) still = sym (begun_stays s log st i begun) ∙ still

      go : Dec (p < releases (turn_words s log numbers st))
          → ((j : ℕ) → j < releases rest → ListedAs log numbers (turn s log st).begins rest j)
          → ListedAs log numbers st.begins (turn_words s log numbers st ++ rest) p
      go (yes taken) ih =
          let w = turn-place st rest p taken in
          let waits = taken_waits (turn_account s log st) w.1 in
          record {
            release = w.0;
            in_log = waits.0;
            named = w.2;
            unbegun = (waiting_true s log st.bus.node st.bus.tick st.begins w.0 waits.1).unbegun;
          }
      go (no past) ih =
          let w = rest_place st rest p (omega arith) inside in
          let l = ih w.0 w.2 in
          record {
            release = l.release;
            in_log = l.in_log;
            named = w.3 ∙ l.named;
            unbegun = back l.release (ℕ_discrete (word st.begins l.release) not_begun) l.unbegun;
          }

  module _ (fits : SheetFits s) (horizon_to : horizon ≤ max_time) (distinct : Distinct log numbers) where
    -- The words of a run list a release that has not begun at its start with the begin that the run gives it, or nowhere.
    pub run_listed : {st end : State} {words : List ℕ} (i : ℕ)
        → Running s log numbers horizon st end words
        → Ready s log st
        → i < releases log
        → word st.begins i ≡ not_begun
        → begin_listed words (word numbers i) ≡ word end.begins i
    unfolding begin_listed
    run_listed i done ready in_log unbegun = sym unbegun
    run_listed i (goes {st = st} {end = end} {rest = rest} early more) ready in_log unbegun =
        go (at? (taken_at s log st) i) (λ still. run_listed i more (ready_next s log st ready) in_log still)
      where
        own : (p x : ℕ) → At (taken_at s log st) p x → word numbers x ≡ word numbers i → x ≡ i
        own p x a = distinct x i (taken_waits (turn_account s log st) a).0 in_log

        go : Dec ((p : ℕ) × At (taken_at s log st) p i)
            → (word (turn s log st).begins i ≡ not_begun → begin_listed rest (word numbers i) ≡ word end.begins i)
            → begin_listed (turn_words s log numbers st ++ rest) (word numbers i) ≡ word end.begins i
        go (yes w) ih =
            listed_taken (message_ticks s) numbers rest st.bus.tick (λ p r j. taken_once (turn_account s log st)) own w.1
            ∙ sym (begun_kept i more (taken_begun s log st fits ready (omega arith) w.1) ∙ taken_begins s log st ready.worded w.1)
        go (no absent) ih =
            listed_else (message_ticks s) numbers rest st.bus.tick (taken_at s log st) (word numbers i)
            (λ p x a e. absent (p, rw (sym (own p x a e)) a))
            ∙ ih (untaken s log st i (λ p a. absent (p, a)) ∙ unbegun)

    -- No number is listed twice in a run.
    pub run_once : {st end : State} {words : List ℕ} (p r : ℕ)
        → Running s log numbers horizon st end words
        → Ready s log st
        → p < r
        → r < releases words
        → release_tick words p ≡ release_tick words r
        → ⊥
    run_once p r done ready before inside same = omega arith
    run_once p r (goes {st = st} {rest = rest} early more) ready before inside same =
        go (dec_lt p (releases turned)) (dec_lt r (releases turned)) (λ a b less within e. run_once a b more (ready_next s log st ready) less within e)
      where
        turned : List ℕ
        turned = turn_words s log numbers st

        go : Dec (p < releases turned)
            → Dec (r < releases turned)
            → ((a b : ℕ) → a < b → b < releases rest → release_tick rest a ≡ release_tick rest b → ⊥)
            → ⊥
        go (yes first) (yes second) ih =
            let v = turn-place st rest p first in
            let w = turn-place st rest r second in
            let in_log = (taken_waits (turn_account s log st) w.1).0 in
            let one = distinct v.0 w.0 (taken_waits (turn_account s log st) v.1).0 in_log (sym v.2 ∙ same ∙ w.2) in
            omega (arith, taken_once (turn_account s log st) (rw one at v.1) w.1)
        go (yes first) (no later) ih =
            let v = turn-place st rest p first in
            let w = rest_place st rest r (omega arith) inside in
            let l = each_listed w.0 more w.2 in
            let one = distinct v.0 l.release (taken_waits (turn_account s log st) v.1).0 l.in_log (sym v.2 ∙ same ∙ w.3 ∙ l.named) in
            taken_begun s log st fits ready (omega arith) v.1 (rw one l.unbegun)
        go (no past) (yes second) ih = omega arith
        go (no past) (no later) ih =
            let v = rest_place st rest p (omega arith) (omega arith) in
            let w = rest_place st rest r (omega arith) inside in
            ih v.0 w.0 (omega (arith, v.1, w.1)) w.2 (sym v.3 ∙ same ∙ w.3)

-- The numbers of a whole log's releases, from 1.
whole_numbers : (log : List ℕ) (i : ℕ) → i < releases log → word (values_from suc 0 (releases log)) i ≡ suc i
whole_numbers log i h = values_at suc 0 (releases log) i h ∙ (omega arith)

whole_distinct : (log : List ℕ) → Distinct log (values_from suc 0 (releases log))
whole_distinct log a b below-a below-b same = omega (arith, whole_numbers log a below-a, whole_numbers log b below-b, same)

-- Before the first turn of a whole log's replay.
first_ready : (s log : List ℕ) → SheetFits s → Ready s log (none_begun log first_turn)
first_ready s log fits =
    record { node_from = omega arith; node_to = fits.header.nodes_from; worded = omega (arith, length-replicate (releases log) not_begun) }

-- The words of a whole log's replay give each release the begin that the replay gives it, and none where it has not begun.
pub words_begins : (s log : List ℕ) (horizon : ℕ)
    → Accepts s log horizon
    → (i : ℕ)
    → i < releases log
    → begin_listed (replay_words s log horizon) (suc i) ≡ word (replayed s log horizon).begins i
unfolding replayed start
words_begins s log horizon accepts i h =
    let ok = replay_accepted accepts in
    let fits = valid_fits s ok.valid in
    ap (begin_listed (replay_words s log horizon)) (sym (whole_numbers log i h))
    ∙ run_listed s log (values_from suc 0 (releases log)) horizon fits ok.horizon_to (whole_distinct log) i
    (running s log (values_from suc 0 (releases log)) horizon horizon (none_begun log first_turn))
    (first_ready s log fits)
    h
    (get_or-replicate (releases log) i not_begun 0 h)

-- No release is listed twice in the words of a whole log's replay.
pub once_listed : (s log : List ℕ) (horizon : ℕ)
    → Accepts s log horizon
    → (p r : ℕ)
    → p < r
    → r < releases (replay_words s log horizon)
    → release_tick (replay_words s log horizon) p ≡ release_tick (replay_words s log horizon) r
    → ⊥
unfolding start
once_listed s log horizon accepts p r =
    let ok = replay_accepted accepts in
    let fits = valid_fits s ok.valid in
    run_once s log (values_from suc 0 (releases log)) horizon fits ok.horizon_to (whole_distinct log) p r
    (running s log (values_from suc 0 (releases log)) horizon horizon (none_begun log first_turn))
    (first_ready s log fits)
