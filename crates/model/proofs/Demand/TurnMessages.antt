-- The messages of a turn, counted by their written begin ticks: no more than its node's budget. A release whose written tick lies in a
-- turn began in that turn, as no tick lies in two turns; so they are no more than the turn took. Assumes nothing.
use Prim.Native.Nat.{ℕ, zero, suc, ◌≤◌, ◌<◌}
use mathlib.Core.Path.{◌≡◌}
use mathlib.Core.Logic.{◌↔◌}
use mathlib.Core.Bool.{Bool, true, Bool-discrete}
use mathlib.Core.List.{List}
use native.Mathlib.Omega.{arith}
use native.Mathlib.Nat.{le_refl, mul-le-mul_right}
use native.Mathlib.Decide.{ℕ_discrete, dec_lt}
use lib.Dec.{leb, ltb}
use lib.ListN.{length, get_or-replicate}
use borrow.Author.Tests.{leb-true, ltb-true, le-leb, lt-ltb}
use Rattle.model.specs.Limits.{not_begun}
use Rattle.model.specs.Sheet.{word, message_ticks, budget}
use Rattle.model.specs.Protocol.{releases, taken_by, serve, turn, start, state_at, start_of, node_of}
use Rattle.model.specs.Demand.{began_within, messages_of}
use Rattle.theory.proofs.Tests.{and_reading}
use Rattle.theory.proofs.Counting.{count_below_count}
use Rattle.theory.proofs.Places.{At, count_listed}
use Rattle.model.proofs.Protocol.Turn.{serve_taken, serve_changed, serve_begun}
use Rattle.model.proofs.Protocol.Clock.{taken_in, next_start, begins_length, starts_grow}
use Rattle.model.proofs.Demand.Accepted.{Replay}

-- A tick lies in turn t: at or after its start, and before the tick at which the next turn starts.
abbrev pub InTurn : List ℕ → List ℕ → ℕ → ℕ → Type 0
InTurn s log t tick = (start_of s log t ≤ tick) × (tick < start_of s log (suc t))

-- That the written begin tick of release i does, as a test.
pub within_turn : (s log words : List ℕ) (t i : ℕ)
    → (began_within words (start_of s log t) (start_of s log (suc t)) i ≡ true) ↔ InTurn s log t (word words i)
within_turn s log words t i =
    let w = word words i in
    let from = start_of s log t in
    let next = start_of s log (suc t) in
    let both = and_reading (leb from w) (ltb w next) in (
      λ e. (leb-true from w (both.0 e).0, ltb-true w next (both.0 e).1),
      λ h. both.1 (le-leb from w h.0, lt-ltb w next h.1),
    )

-- No tick lies in two turns.
one_turn : (s log : List ℕ) (t u tick : ℕ) → InTurn s log t tick → InTurn s log u tick → t ≡ u
one_turn s log t u tick a b = go (dec_lt t u) (dec_lt u t)
  where
    go : Dec (t < u) → Dec (u < t) → t ≡ u
    go (yes h) d = absurd (omega (arith, starts_grow s log (suc t) u h))
    go (no c) (yes h) = absurd (omega (arith, starts_grow s log (suc u) t h))
    go (no c) (no d) = omega arith

module _ {s log : List ℕ} {horizon turns : ℕ} (r : Replay s log horizon turns) where
  -- There are words for all releases.
  words : (t : ℕ) → releases log ≤ length (state_at s log t).begins
  words t = omega (arith, begins_length s log t)

  -- The word that a release gets in a turn is a tick of that turn.
  pub gets_tick : (t i : ℕ)
      → t < turns
      → (word (state_at s log t).begins i ≡ word (state_at s log (suc t)).begins i → ⊥)
      → InTurn s log t (word (state_at s log (suc t)).begins i)
  unfolding state_at turn
  gets_tick t i h differ =
      let b = serve_begun s log (node_of s log t) (start_of s log t) (budget s (node_of s log t)) (state_at s log t).begins (words t) i differ in
      let below : b.0 ≤ taken_in s log t = omega (arith, b.1) in
      let m = mul-le-mul_right (message_ticks s) below in
      (omega (arith, b.2.at), omega (arith, b.2.at, next_start s log t, r.fits.header.slot_from))

  -- A release whose word changes in a turn is one of those that the turn takes.
  changed : (t i : ℕ)
      → (word (state_at s log t).begins i ≡ word (state_at s log (suc t)).begins i → ⊥)
      → (p : ℕ) × At (taken_by s log (node_of s log t) (start_of s log t) (budget s (node_of s log t)) (state_at s log t).begins) p i
  unfolding state_at turn
  changed t i = serve_changed s log (node_of s log t) (start_of s log t) (budget s (node_of s log t)) (state_at s log t).begins i

  -- A release whose word before turn t is a tick of turn u got it in turn u.
  got_in : (t u i : ℕ)
      → t ≤ turns
      → u < turns
      → i < releases log
      → InTurn s log u (word (state_at s log t).begins i)
      → word (state_at s log u).begins i ≡ word (state_at s log (suc u)).begins i
      → ⊥
  unfolding state_at start
  got_in zero u i h l n tick same = omega (arith, get_or-replicate (releases log) i not_begun 0 n, r.over u l)
  got_in (suc t) u i h l n tick same =
      go (ℕ_discrete (word (state_at s log t).begins i) (word (state_at s log (suc t)).begins i)) (got_in t u i (omega arith) l n)
    where
      go : Dec (word (state_at s log t).begins i ≡ word (state_at s log (suc t)).begins i)
          → (InTurn s log u (word (state_at s log t).begins i)
          → word (state_at s log u).begins i ≡ word (state_at s log (suc u)).begins i
          → ⊥)
          → ⊥
      go (yes e) earlier = earlier (rw e tick) same
      go (no d) earlier =
          let e = one_turn s log t u (word (state_at s log (suc t)).begins i) (gets_tick t i h d) tick in
          d (rw e same)

  -- No turn has more messages than its node's budget.
  pub messages_most : (u : ℕ) → u < turns → messages_of s log (state_at s log turns).begins u ≤ budget s (node_of s log u)
  unfolding serve
  messages_most u h =
      omega (
        arith,
        count_below_count in_turn (releases log),
        count_listed (λ i. Bool-discrete (in_turn i) true) (releases log) (taken_by s log node tick (budget s node) begins) took,
        serve_taken s log node tick (budget s node) begins,
      )
    where
      node : ℕ
      node = node_of s log u

      tick : ℕ
      tick = start_of s log u

      begins : List ℕ
      begins = (state_at s log u).begins

      in_turn : ℕ → Bool
      in_turn = began_within (state_at s log turns).begins tick (start_of s log (suc u))

      took : (i : ℕ) → i < releases log → in_turn i ≡ true → (p : ℕ) × At (taken_by s log node tick (budget s node) begins) p i
      took i n e = changed u i (got_in turns u i (le_refl turns) h n ((within_turn s log (state_at s log turns).begins u i).0 e))
