-- What one turn lists: for each message it takes, its number and its begin tick; and what the turn leaves of the begin words. Assumes nothing.
use Prim.Native.Nat.{ℕ, suc, ◌+◌, ◌*◌, ◌≤◌, ◌<◌}
use native.Mathlib.Nat.{mul-le-mul, div-add-mod, mod-lt}
use native.Mathlib.Omega.{arith}
use mathlib.Core.Path.{◌≡◌, refl, sym, ◌∙◌}
use mathlib.Core.List.{List, [], ◌∷◌, ◌++◌}
use lib.ListN.{length}
use borrow.Author.Tests.{eq-eqb, ne_eqb}
use Rattle.theory.proofs.Places.{At, here, later, at_below}
use Rattle.theory.proofs.FirstOnes.{Taking, taking, taken_few, taken_waits, taken_once}
use Rattle.model.specs.Limits.{release_words, max_budget, max_time, not_begun}
use Rattle.model.specs.Sheet.{word, nodes, message_ticks, budget}
use Rattle.model.specs.Protocol.{releases, release_tick, queue_of, taken_by, serve, next_bus, State, turn}
use Rattle.model.specs.Trace.{begin_words, begin_listed}
use Rattle.model.proofs.Sheet.ValidSheet.{SheetFits}
use Rattle.model.proofs.Protocol.Waiting.{waiting_begun}
use Rattle.model.proofs.Protocol.Turn.{begins_other, begins_at, serve-length, serve_kept}
use Rattle.model.proofs.Protocol.Clock.{next_range}

module _ (ticks : ℕ) (numbers : List ℕ) where
  -- Two words are listed for each one taken,
  listed_length : (tick : ℕ) (taken : List ℕ) → length (begin_words ticks tick numbers taken) ≡ release_words * length taken
  unfolding begin_words
  listed_length tick [] = refl
  listed_length tick (i ∷ taken) = omega (arith, listed_length (tick + ticks) taken)

  -- so that as many messages are listed as are taken,
  pub listed_count : (tick : ℕ) (taken : List ℕ) → releases (begin_words ticks tick numbers taken) ≡ length taken
  listed_count tick taken =
      let words : ℕ = length (begin_words ticks tick numbers taken) in
      omega (arith, listed_length tick taken, div-add-mod words release_words, mod-lt words {m = release_words} (omega arith))

  -- each with two words,
  pub listed_even : (tick : ℕ) (taken : List ℕ)
      → length (begin_words ticks tick numbers taken) ≡ release_words * releases (begin_words ticks tick numbers taken)
  listed_even tick taken = omega (arith, listed_length tick taken, listed_count tick taken)

  -- the first of them its number.
  pub listed_number : (tick : ℕ) {taken : List ℕ} {p i : ℕ} → At taken p i → release_tick (begin_words ticks tick numbers taken) p ≡ word numbers i
  unfolding begin_words
  listed_number tick here = refl
  listed_number tick (later {p = p} a) =
      let place : release_words * suc p ≡ suc (suc (release_words * p)) = omega arith in
      rw place (listed_number (tick + ticks) a)

  module _ (rest : List ℕ) where
    -- One that is taken is listed with the tick of its place, where none is taken twice and no other has its number.
    pub listed_taken : (tick : ℕ) {taken : List ℕ} {p i : ℕ}
        → ((p r i : ℕ) → At taken p i → At taken r i → p ≡ r)
        → ((p x : ℕ) → At taken p x → word numbers x ≡ word numbers i → x ≡ i)
        → At taken p i
        → begin_listed (begin_words ticks tick numbers taken ++ rest) (word numbers i) ≡ tick + p * ticks
    unfolding begin_words begin_listed
    listed_taken tick once own (here {x = i}) = rw (eq-eqb (word numbers i) (word numbers i) refl) (omega arith)
    listed_taken tick once own (later {x = i} {y = y} {p = p} {xs = taken} a) =
        let other : word numbers y ≡ word numbers i → ⊥ =
        λ e. omega (arith, once 0 (suc p) i (rw (sym (own 0 y here e)) here) (later a))
        in
        rw (ne_eqb (word numbers y) (word numbers i) other)
        (listed_taken (tick + ticks) (λ q r j b c. omega (arith, once (suc q) (suc r) j (later b) (later c))) (λ q x b. own (suc q) x (later b)) a
        ∙ (omega arith))

    -- One that is not taken is listed after those taken, or nowhere.
    pub listed_else : (tick : ℕ) (taken : List ℕ) (number : ℕ)
        → ((p x : ℕ) → At taken p x → word numbers x ≡ number → ⊥)
        → begin_listed (begin_words ticks tick numbers taken ++ rest) number ≡ begin_listed rest number
    unfolding begin_words begin_listed
    listed_else tick [] number absent = refl
    listed_else tick (x ∷ taken) number absent =
        rw (ne_eqb (word numbers x) number (absent 0 x here))
        (listed_else (tick + ticks) taken number (λ p y a. absent (suc p) y (later a)))

-- Those that a turn takes.
abbrev pub taken_at : List ℕ → List ℕ → State → List ℕ
taken_at s log st = taken_by s log st.bus.node st.bus.tick (budget s st.bus.node) st.begins

-- A state with a word for each release whose next turn is that of a node on the sheet.
pub record Ready (s log : List ℕ) (st : State) : Type 0 where
  pub node_from : 1 ≤ st.bus.node
  pub node_to : st.bus.node ≤ nodes s
  pub worded : releases log ≤ length st.begins

module _ (s log : List ℕ) where
  -- A turn leaves such a state.
  pub ready_next : (st : State) → Ready s log st → Ready s log (turn s log st)
  unfolding turn next_bus
  ready_next st ready =
      let next = next_range s st.bus.node ready.node_from ready.node_to in
      record {
        node_from = next.0;
        node_to = next.1;
        worded = omega (arith, ready.worded, serve-length s log st.bus.node st.bus.tick (budget s st.bus.node) st.begins);
      }

  module _ (st : State) where
    -- The account of those that the turn takes.
    pub turn_account : Taking (budget s st.bus.node) (queue_of s log st.bus.node st.bus.tick st.begins) (taken_at s log st)
    turn_account = taking (budget s st.bus.node) (queue_of s log st.bus.node st.bus.tick st.begins)

    -- A release that is not taken keeps its word,
    pub untaken : (i : ℕ) → ((p : ℕ) → At (taken_at s log st) p i → ⊥) → word (turn s log st).begins i ≡ word st.begins i
    unfolding turn serve
    untaken i absent = begins_other (message_ticks s) st.bus.tick (taken_at s log st) st.begins i absent

    -- as does one that has begun,
    pub begun_stays : (i : ℕ) → (word st.begins i ≡ not_begun → ⊥) → word (turn s log st).begins i ≡ word st.begins i
    unfolding turn
    begun_stays i begun =
        serve_kept s log st.bus.node st.bus.tick (budget s st.bus.node) st.begins i
        (λ h. waiting_begun s log st.bus.node st.bus.tick st.begins i begun)

    -- and one that is taken gets the tick of its place.
    pub taken_begins : {p i : ℕ}
        → releases log ≤ length st.begins
        → At (taken_at s log st) p i
        → word (turn s log st).begins i ≡ st.bus.tick + p * message_ticks s
    unfolding turn serve
    taken_begins worded a =
        begins_at (message_ticks s) st.bus.tick st.begins (λ q r j. taken_once turn_account) a (omega (arith, (taken_waits turn_account a).0))

    -- Before a horizon in range, one that is taken has begun: no begin tick is the word for "not begun".
    pub taken_begun : {p i : ℕ}
        → SheetFits s
        → Ready s log st
        → st.bus.tick < max_time
        → At (taken_at s log st) p i
        → word (turn s log st).begins i ≡ not_begun
        → ⊥
    taken_begun {p} fits ready early a e =
        let few : p ≤ max_budget =
        omega (arith, at_below a, taken_few turn_account, (fits.rows st.bus.node ready.node_from ready.node_to).budget_to)
        in
        omega (arith, taken_begins ready.worded a, mul-le-mul few fits.header.message_to)
