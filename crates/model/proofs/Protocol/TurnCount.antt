-- How many releases have begun: a turn adds those that it takes, which are different ones that had not begun. Assumes nothing.
use Prim.Native.Nat.{ℕ, ◌+◌, ◌*◌, ◌≤◌, ◌<◌}
use native.Mathlib.Nat.{mul-le-mul_right}
use native.Mathlib.Omega.{arith}
use mathlib.Core.Path.{◌≡◌, sym, ap, ◌∙◌}
use mathlib.Core.Bool.{true, not, true≢false, Bool-discrete}
use mathlib.Core.List.{List}
use lib.Dec.{eqb}
use lib.ListN.{length}
use borrow.Author.Tests.{eq-eqb, ne_eqb}
use Rattle.theory.proofs.Counting.{count, count_disjoint, count_places, count_below_count, count_below_most}
use Rattle.theory.proofs.Places.{At, at_place, at_below, at?}
use Rattle.theory.proofs.FirstOnes.{taken_few, taken_once}
use Rattle.model.specs.Limits.{not_begun}
use Rattle.model.specs.Sheet.{word, message_ticks}
use Rattle.model.specs.Protocol.{releases, taken_by, serve}
use Rattle.model.specs.Trace.{begun_below}
use Rattle.model.proofs.Protocol.Waiting.{waiting_true, waiting_begun}
use Rattle.model.proofs.Protocol.Turn.{account, placed, serve_kept}

-- Those of the first n that have begun are at most n.
pub begun_most : (begins : List ℕ) (n : ℕ) → begun_below begins n ≤ n
begun_most begins n = count_below_most (λ i. not (eqb (word begins i) not_begun)) n

-- Release i has begun, as the test says it.
abbrev Begun : List ℕ → ℕ → Type 0
Begun begins i = not (eqb (word begins i) not_begun) ≡ true

module _ (begins : List ℕ) where
  begun? : (i : ℕ) → Dec (Begun begins i)
  begun? i = Bool-discrete (not (eqb (word begins i) not_begun)) true

  begun_counted : (n : ℕ) → begun_below begins n ≡ count begun? n
  unfolding begun?
  begun_counted n = count_below_count (λ i. not (eqb (word begins i) not_begun)) n

  -- Its word says so,
  has_begun : (i : ℕ) → (word begins i ≡ not_begun → ⊥) → Begun begins i
  has_begun i other = ap not (ne_eqb (word begins i) not_begun other)

  -- and the test says what its word is not.
  begun_other : (i : ℕ) → Begun begins i → word begins i ≡ not_begun → ⊥
  begun_other i begun same = true≢false (sym begun ∙ ap not (eq-eqb (word begins i) not_begun same))

module _ (s log : List ℕ) (k tick m : ℕ) (begins : List ℕ) (fits : releases log ≤ length begins) where
  -- Those taken, and the words after the turn.
  abbrev taken : List ℕ
  taken = taken_by s log k tick m begins

  abbrev after : List ℕ
  after = (serve s log k tick m begins).begins

  -- Those taken are different releases of the log.
  taken_counted : length taken ≤ count (at? taken) (releases log)
  taken_counted =
      count_places (at? taken) (At taken) (releases log) (length taken)
      (λ p h. let w = at_place taken p h in (w.0, (placed s log k tick m begins fits w.1).in_log, (p, w.1), w.1))
      (λ p q i less a b. omega (arith, taken_once (account s log k tick m begins) a b))

  -- One that had begun keeps its word.
  stays_begun : (i : ℕ) → Begun begins i → Begun after i
  stays_begun i begun =
      let other = begun_other begins i begun in
      let same = serve_kept s log k tick m begins i (λ h. waiting_begun s log k tick begins i other) in
      has_begun after i (rw same other)

  -- One that is taken had not begun.
  was_unbegun : {p i : ℕ} → At taken p i → Begun begins i → ⊥
  was_unbegun {i = i} a begun =
      let waits = waiting_true s log k tick begins i (placed s log k tick m begins fits a).waited in
      begun_other begins i begun waits.unbegun

  module _ (early : tick + m * message_ticks s < not_begun) where
    -- One that is taken has begun after the turn: its begin tick is not the word for "not begun".
    now_begun : {p i : ℕ} → At taken p i → Begun after i
    now_begun {p} {i} a =
        let below : p ≤ m = omega (arith, at_below a, taken_few (account s log k tick m begins)) in
        let ticks : p * message_ticks s ≤ m * message_ticks s = mul-le-mul_right (message_ticks s) below in
        has_begun after i (λ same. omega (arith, (placed s log k tick m begins fits a).at))

    -- After a turn those have begun that had, and as many more as it took.
    pub serve-counted : begun_below begins (releases log) + (serve s log k tick m begins).taken ≤ begun_below after (releases log)
    unfolding serve
    serve-counted =
        omega (
          arith,
          taken_counted,
          begun_counted begins (releases log),
          begun_counted after (releases log),
          count_disjoint (begun? after) (begun? begins) (at? taken) (releases log)
              (λ i h. stays_begun i) (λ i h w. now_begun w.1) (λ i h begun w. was_unbegun w.1 begun),
        )
