-- One turn, `serve`: which releases it takes, and what it leaves of the begin words. Those taken are the first ones of the queue at
-- the turn's start; each gets the tick of its place, and all other words stay. Assumes nothing.
use Prim.Native.Nat.{ℕ, suc, ◌+◌, ◌*◌, ◌≤◌, ◌<◌}
use mathlib.Core.Path.{◌≡◌, refl, sym, ◌∙◌}
use mathlib.Core.Bool.{true, false, true≢false}
use mathlib.Core.List.{List, [], ◌∷◌}
use native.Mathlib.Nat.{mul-le-mul_right, lt_of_mul-lt-mul_right}
use native.Mathlib.Omega.{arith}
use lib.ListN.{length, set, length-set}
use lib.Seq.{get_or-set_same, get_or-set_other}
use Rattle.theory.specs.Queue.{first}
use Rattle.theory.proofs.Places.{At, here, later, at_place, at_below, at?}
use Rattle.theory.proofs.FirstOnes.{Taking, taking, ones_stop, taken_few, taken_waits, taken_once, none_left, taken_in_order, taken_ahead}
use Rattle.model.specs.Limits.{not_begun}
use Rattle.model.specs.Sheet.{word, message_ticks}
use Rattle.model.specs.Protocol.{releases, queued_before, waiting, queue_of, taken_by, begins_from, serve}
use Rattle.model.proofs.Protocol.Queue.{queue_total}
use Rattle.model.proofs.Protocol.Waiting.{waiting_true, waiting_same}

module _ (ticks : ℕ) where
  -- No word is added.
  pub begins_length : (tick : ℕ) (taken begins : List ℕ) → length (begins_from ticks tick taken begins) ≡ length begins
  unfolding begins_from
  begins_length tick [] begins = refl
  begins_length tick (i ∷ taken) begins = begins_length (tick + ticks) taken _ ∙ length-set begins _ tick

  -- A release that is not taken keeps its word.
  pub begins_other : (tick : ℕ) (taken begins : List ℕ) (i : ℕ)
      → ((p : ℕ) → At taken p i → ⊥)
      → word (begins_from ticks tick taken begins) i ≡ word begins i
  unfolding begins_from
  begins_other tick [] begins i absent = refl
  begins_other tick (x ∷ taken) begins i absent =
      begins_other (tick + ticks) taken _ i (λ p a. absent (suc p) (later a))
      ∙ get_or-set_other begins _ i tick 0 (λ e. absent 0 (rw e here))

  -- The one taken at place p begins p messages after the first, where none is taken twice.
  pub begins_at : (tick : ℕ) {taken : List ℕ} (begins : List ℕ) {p i : ℕ}
      → ((p r i : ℕ) → At taken p i → At taken r i → p ≡ r)
      → At taken p i
      → i < length begins
      → word (begins_from ticks tick taken begins) i ≡ tick + p * ticks
  unfolding begins_from
  begins_at tick begins once (here {x = i} {xs = taken}) inside =
      begins_other (tick + ticks) taken (set begins i tick) i (λ p a. omega (arith, once 0 (suc p) i here (later a)))
      ∙ get_or-set_same begins i tick 0 inside
      ∙ (omega arith)
  begins_at tick begins once (later {x = i} {y = x} {p = p} a) inside =
      begins_at (tick + ticks) (set begins x tick) (λ q r j b c. omega (arith, once (suc q) (suc r) j (later b) (later c))) a
      (omega (arith, length-set begins x tick))
      ∙ (omega arith)

-- Release i waits at the start of a turn and takes place p of it.
pub record Placed (s log : List ℕ) (k tick : ℕ) (begins after : List ℕ) (p i : ℕ) : Type 0 where
  pub in_log : i < releases log
  pub waited : waiting s log k tick begins i ≡ true
  pub at : word after i ≡ tick + p * message_ticks s

module _ (s log : List ℕ) (k tick m : ℕ) (begins : List ℕ) where
  -- Those taken, and the words after the turn.
  abbrev taken : List ℕ
  taken = taken_by s log k tick m begins

  abbrev after : List ℕ
  after = (serve s log k tick m begins).begins

  -- The account of those taken.
  pub account : Taking m (queue_of s log k tick begins) taken
  account = taking m (queue_of s log k tick begins)

  -- Where nobody waits, the turn takes nobody and leaves the words.
  pub serve_nobody : releases log ≤ first (queue_of s log k tick begins)
      → serve s log k tick m begins ≡ record { taken = 0; begins = begins }
  unfolding serve begins_from
  serve_nobody nobody = rw (ones_stop (queue_of s log k tick begins) m nobody) refl

  -- A turn leaves the number of words.
  pub serve-length : length after ≡ length begins
  unfolding serve
  serve-length = begins_length (message_ticks s) tick taken begins

  -- A turn takes at most its budget.
  pub serve_taken : (serve s log k tick m begins).taken ≤ m
  unfolding serve
  serve_taken = taken_few account

  -- A release that is not taken keeps its word,
  serve_other : (i : ℕ) → ((p : ℕ) → At taken p i → ⊥) → word after i ≡ word begins i
  unfolding serve
  serve_other i absent = begins_other (message_ticks s) tick taken begins i absent

  -- as does one that does not wait at the start, and so do the words after those of the releases.
  pub serve_kept : (i : ℕ) → (i < releases log → waiting s log k tick begins i ≡ false) → word after i ≡ word begins i
  serve_kept i out =
      serve_other i (λ p a. let w = taken_waits account a in true≢false (sym w.1 ∙ out w.0))

  -- A release whose word changed is taken.
  pub serve_changed : (i : ℕ) → (word begins i ≡ word after i → ⊥) → (p : ℕ) × At taken p i
  serve_changed i differ = go (at? taken i)
    where
      go : Dec ((p : ℕ) × At taken p i) → (p : ℕ) × At taken p i
      go (yes w) = w
      go (no absent) = absurd (differ (sym (serve_other i (λ p a. absent (p, a)))))

  module _ (fits : releases log ≤ length begins) where
    -- The one at place p begins p messages after the start.
    serve_at : {p i : ℕ} → At taken p i → word after i ≡ tick + p * message_ticks s
    unfolding serve
    serve_at {p} {i} a =
        begins_at (message_ticks s) tick begins (λ q r j. taken_once account) a (omega (arith, (taken_waits account a).0))

    -- Who is taken waits at the start and takes its place.
    pub placed : {p i : ℕ} → At taken p i → Placed s log k tick begins after p i
    placed a = let w = taken_waits account a in record { in_log = w.0; waited = w.1; at = serve_at a }

    -- Each place of a turn is taken, by a release that waits at its start and begins at that place's tick.
    pub serve_places : (p : ℕ) → p < (serve s log k tick m begins).taken → (i : ℕ) × Placed s log k tick begins after p i
    unfolding serve
    serve_places p h = let w = at_place taken p h in (w.0, placed w.1)

    -- A release whose word changed takes such a place.
    pub serve_begun : (i : ℕ)
        → (word begins i ≡ word after i → ⊥)
        → (p : ℕ) × (p < (serve s log k tick m begins).taken) × Placed s log k tick begins after p i
    unfolding serve
    serve_begun i differ = let w = serve_changed i differ in (w.0, at_below w.1, placed w.1)

    -- Of two that are taken, the one that begins earlier comes before the other.
    pub serve_in_order : (a b : ℕ)
        → (word begins a ≡ word after a → ⊥)
        → (word begins b ≡ word after b → ⊥)
        → word after a < word after b
        → queued_before s log k a b ≡ true
    serve_in_order a b differ-a differ-b sooner =
        let v = serve_changed a differ-a in
        let w = serve_changed b differ-b in
        taken_in_order account (queue_total s log k) (λ i h. (waiting_true s log k tick begins i h).own)
        v.0 w.0 a b (lt_of_mul-lt-mul_right (message_ticks s) (omega (arith, serve_at v.1, serve_at w.1))) v.1 w.1

    module _ (early : tick + (serve s log k tick m begins).taken * message_ticks s < not_begun) where
      -- Who waits after the turn waited at its start and is not taken: no begin tick is the word for "not begun".
      left_waiting : (i : ℕ) → waiting s log k tick after i ≡ true → (p : ℕ) → At taken p i → ⊥
      unfolding serve
      left_waiting i still p a =
          let c : p * message_ticks s ≤ length taken * message_ticks s =
          mul-le-mul_right (message_ticks s) (omega (arith, at_below a))
          in
          omega (arith, serve_at a, (waiting_true s log k tick after i still).unbegun)

      waited : (i : ℕ) → waiting s log k tick after i ≡ true → waiting s log k tick begins i ≡ true
      waited i still =
          sym (waiting_same s log k tick begins after i (serve_other i (left_waiting i still))) ∙ still

      -- Who is taken comes before who waits on.
      pub serve_ahead : (a b : ℕ)
          → (word begins a ≡ word after a → ⊥)
          → b < releases log
          → waiting s log k tick after b ≡ true
          → queued_before s log k a b ≡ true
      serve_ahead a b differ h still =
          let w = serve_changed a differ in
          taken_ahead account (queue_total s log k) (λ i h. (waiting_true s log k tick begins i h).own)
          w.0 a b w.1 h (waited b still) (left_waiting b still)

      -- Where the budget is not spent, nobody waits after the turn.
      pub serve-emptied : (serve s log k tick m begins).taken < m
          → (i : ℕ)
          → i < releases log
          → waiting s log k tick after i ≡ true
          → ⊥
      unfolding serve
      serve-emptied less i h still =
          let w = none_left account less i h (waited i still) in
          left_waiting i still w.0 w.1
