-- The trace of a run, as document 02 ("Seven") has it: "release numbers and begin ticks in the order begun". Rules 5.6 to 5.9. Assumes nothing.
use Rattle.std.specs.Prelude.{ℕ, zero, suc, ◌+◌, true, false, cond, not, List, [], ◌∷◌, ◌++◌, length, ltb, eqb}
use Rattle.theory.specs.Count.{count_below}
use Rattle.theory.specs.Listing.{values_from, holding_below}
use Rattle.model.specs.Limits.{not_begun}
use Rattle.model.specs.Sheet.{word, message_ticks, budget}
use Rattle.model.specs.Protocol.{releases, taken_by, State, turn, start}

-- "release numbers and begin ticks" of messages that begin one after the other, the first of them at `tick`.
unfoldable pub begin_words : ℕ → ℕ → List ℕ → List ℕ → List ℕ
begin_words ticks tick numbers [] = []
begin_words ticks tick numbers (i ∷ taken) = word numbers i ∷ tick ∷ begin_words ticks (tick + ticks) numbers taken

-- Those of one turn.
abbrev pub turn_words : List ℕ → List ℕ → List ℕ → State → List ℕ
turn_words s log numbers st =
    begin_words (message_ticks s) st.bus.tick numbers
    (taken_by s log st.bus.node st.bus.tick (budget s st.bus.node) st.begins)

-- Those of a run, "in the order begun": turn by turn, while the next one starts before the horizon, at most `fuel` of them.
unfoldable pub run_words : List ℕ → List ℕ → List ℕ → ℕ → ℕ → State → List ℕ
run_words s log numbers horizon zero st = []
run_words s log numbers horizon (suc fuel) st =
    elim (ltb st.bus.tick horizon) [
      | true ↦ turn_words s log numbers st ++ run_words s log numbers horizon fuel (turn s log st)
      | false ↦ []
    ]

-- The begin tick that such words give a release, by its number; 4294967295 for one that they do not list.
unfoldable pub begin_listed : List ℕ → ℕ → ℕ
begin_listed [] number = not_begun
begin_listed (n ∷ []) number = not_begun
begin_listed (n ∷ begin ∷ words) number = cond (eqb n number) begin (begin_listed words number)

-- The words that list all begins of a whole log's replay in their order.
abbrev pub replay_words : List ℕ → List ℕ → ℕ → List ℕ
replay_words s log horizon = run_words s log (values_from suc 0 (releases log)) horizon horizon (start log)

-- How many of the first n releases have begun.
abbrev pub begun_below : List ℕ → ℕ → ℕ
begun_below begins n = count_below (λ i. not (eqb (word begins i) not_begun)) n

-- The releases that have not begun, in log order.
abbrev pub unbegun : List ℕ → List ℕ
unbegun begins = holding_below (λ i. eqb (word begins i) not_begun) (length begins)
