-- A log with a piece after it whose releases all come at a horizon or later: up to that horizon the replay is the log's own, and none of the
-- piece has begun. Assumes nothing.
use Prim.Native.Nat.{ℕ, zero, suc, ◌+◌, ◌-◌, ◌*◌, ◌≤◌, ◌<◌}
use native.Mathlib.Decide.{dec_lt}
use native.Mathlib.Omega.{arith}
use mathlib.Core.Path.{◌≡◌, refl, sym, ◌∙◌, ap}
use mathlib.Core.Bool.{Bool, true, false}
use mathlib.Core.List.{List, ◌++◌}
use lib.Dec.{ltb, eqb}
use lib.ListN.{length, length-replicate, get_or-replicate}
use borrow.Author.Tests.{ltb-true, ltb-false, eq-eqb}
use Rattle.theory.specs.Listing.{values_from, holding_below}
use Rattle.theory.proofs.Listing.{values_at}
use Rattle.theory.proofs.Holding.{holding_all, holding_agrees}
use Rattle.model.specs.Limits.{release_words, not_begun}
use Rattle.model.specs.Sheet.{word, budget}
use Rattle.model.specs.Protocol.{releases, release_tick, State, turn, none_begun, first_turn, start, run, replayed}
use Rattle.model.specs.Trace.{unbegun, replay_words}
use Rattle.model.proofs.Protocol.Waiting.{waiting_later}
use Rattle.model.proofs.Protocol.Turn.{serve_kept}
use Rattle.model.proofs.Protocol.Run.{run_on, run_done}
use Rattle.model.proofs.Trace.JoinedLog.{joined_releases, tick_of_log, stream_of_log, tick_of_piece}
use Rattle.model.proofs.Trace.Embedding.{Part, Embedded, run_embedded, words_embedded}

-- True where release i has not begun.
abbrev pub has_not_begun : List ℕ → ℕ → Bool
has_not_begun begins i = eqb (word begins i) not_begun

-- The places, in a log with a piece after it, of some releases of the log and all those of the piece.
abbrev pub places_in : List ℕ → List ℕ → List ℕ → List ℕ
places_in log piece xs = xs ++ values_from (λ i. i) (releases log) (releases piece)

module _ (s log : List ℕ) (horizon i : ℕ) (late : horizon ≤ release_tick log i) where
  -- A turn that starts before the horizon leaves the word of a release that comes at the horizon or later,
  turn_later : (st : State) → st.bus.tick < horizon → word (turn s log st).begins i ≡ word st.begins i
  unfolding turn
  turn_later st early =
      serve_kept s log st.bus.node st.bus.tick (budget s st.bus.node) st.begins i
      (λ h. waiting_later s log st.bus.node st.bus.tick st.begins i (omega arith))

  -- and so does the run to the horizon.
  pub run_later : (fuel : ℕ) (st : State) → word (run s log horizon fuel st).begins i ≡ word st.begins i
  unfolding run
  run_later zero st = refl
  run_later (suc fuel) st = go (ltb st.bus.tick horizon) refl (run_later fuel (turn s log st))
    where
      go : (b : Bool)
          → ltb st.bus.tick horizon ≡ b
          → word (run s log horizon fuel (turn s log st)).begins i ≡ word (turn s log st).begins i
          → word (run s log horizon (suc fuel) st).begins i ≡ word st.begins i
      go true test ih =
          ap (λ (end : State). word end.begins i) (run_on s log horizon fuel st test)
          ∙ ih
          ∙ turn_later st (ltb-true st.bus.tick horizon test)
      go false test ih =
          ap (λ (end : State). word end.begins i)
          (run_done s log horizon (suc fuel) st (ltb-false st.bus.tick horizon test))

module _ (s log piece : List ℕ) (horizon : ℕ)
    (even : length log ≡ release_words * releases log)
    (from : (j : ℕ) → j < releases piece → horizon ≤ release_tick piece j)
  where
    abbrev whole : List ℕ
    whole = log ++ piece

    count : releases whole ≡ releases log + releases piece
    count = joined_releases log piece even

    -- A release past those of the log comes at the horizon or later.
    past : (n : ℕ) → releases log ≤ n → n < releases whole → horizon ≤ release_tick whole n
    past n high inside =
        let j : ℕ = n - releases log in
        let same : n ≡ releases log + j = omega arith in
        omega (arith, ap (release_tick whole) same, tick_of_piece log piece even j, from j (omega (arith, count)))

    -- The log is the front of the whole.
    front : Part log whole (λ i. i)
    front =
        record {
          below = λ i low. omega (arith, count);
          rising = λ i j less low. less;
          ticks = λ i low. sym (tick_of_log log piece even i low);
          streams = λ i low. sym (stream_of_log log piece even i low);
        }

    at_start : Embedded log whole horizon (λ i. i) (none_begun log first_turn) (none_begun whole first_turn)
    at_start =
        record {
          bus = refl;
          same = record {
            short = length-replicate (releases log) not_begun;
            long = length-replicate (releases whole) not_begun;
            words = λ i low. get_or-replicate (releases log) i not_begun 0 low
                ∙ sym (get_or-replicate (releases whole) i not_begun 0 (omega (arith, count)));
            covers = λ n inside unbegun early. in_front n inside early (dec_lt n (releases log));
          };
        }
      where
        in_front : (n : ℕ)
            → n < releases whole
            → release_tick whole n < horizon
            → Dec (n < releases log)
            → (i : ℕ) × (i < releases log) × (i ≡ n)
        in_front n inside early (yes low) = (n, low, refl)
        in_front n inside early (no high) = absurd (omega (arith, past n (omega arith) inside))

    -- The replay up to the horizon is the log's own,
    pub cut_replayed : Embedded log whole horizon (λ i. i) (replayed s log horizon) (replayed s whole horizon)
    unfolding replayed start
    cut_replayed = run_embedded s front horizon (none_begun log first_turn) (none_begun whole first_turn) at_start

    -- with its words.
    pub cut_words : replay_words s log horizon ≡ replay_words s whole horizon
    unfolding start
    cut_words =
        words_embedded s front (values_from suc 0 (releases log)) (values_from suc 0 (releases whole))
        (λ i low. values_at suc 0 (releases log) i low ∙ sym (values_at suc 0 (releases whole) i (omega (arith, count))))
        horizon (none_begun log first_turn) (none_begun whole first_turn) at_start

    -- None of the piece has begun.
    later_unbegun : (n : ℕ) → releases log ≤ n → n < releases whole → word (replayed s whole horizon).begins n ≡ not_begun
    unfolding replayed start
    later_unbegun n high inside =
        run_later s whole horizon n (past n high inside) horizon (none_begun whole first_turn)
        ∙ get_or-replicate (releases whole) n not_begun 0 inside

    -- Those that have not begun are the log's, and all those of the piece.
    pub cut_unbegun : unbegun (replayed s whole horizon).begins ≡ places_in log piece (unbegun (replayed s log horizon).begins)
    cut_unbegun =
        ap (holding_below test) (cut_replayed.same.long ∙ count)
        ∙ holding_all test (releases log) (releases piece) (λ n high inside. eq-eqb _ not_begun (later_unbegun n high (omega (arith, count))))
        ∙ ap (λ ns. ns ++ values_from (λ i. i) (releases log) (releases piece))
        (holding_agrees test own (releases log) (λ i low. ap (λ w. eqb w not_begun) (sym (cut_replayed.same.words i low)))
        ∙ ap (holding_below own) (sym cut_replayed.same.short))
      where
        test : ℕ → Bool
        test = has_not_begun (replayed s whole horizon).begins

        own : ℕ → Bool
        own = has_not_begun (replayed s log horizon).begins
