-- A line: what one node sees of a run of turns, with no sheet, stream or period in it. Its own turns serve its queue in the
-- queue's order, as many as the budget allows; all other turns leave its words. Assumes nothing.
use Prim.Native.Nat.{ℕ, suc, ◌+◌, ◌*◌, ◌≤◌, ◌<◌}
use mathlib.Core.Path.{◌≡◌}
use mathlib.Core.Bool.{Bool, true, false}
use Rattle.theory.proofs.Order.{TotalOn}

-- The numbers of a line. Begin words are numbers, as the bus keeps them: a release waits while its word is `not_begun`. As that
-- is a number too, a line has a last turn: one that starts late enough could write it for a release that begins.
pub record Line : Type 0 where
  -- the releases, counted from 0: how many, the tick of each, which are the node's, and its queue order
  pub releases : ℕ
  pub tick : ℕ → ℕ
  pub own : ℕ → Bool
  pub before : ℕ → ℕ → Bool
  -- the node's budget, and the ticks that a message takes
  pub budget : ℕ
  pub message_ticks : ℕ
  -- the turns, counted from 0: how many, the tick at which each starts, and whether it is the node's own
  pub turns : ℕ
  pub start : ℕ → ℕ
  pub own_turn : ℕ → Bool
  -- the begin word of a release before a turn, and that of a release that has not begun
  pub word : ℕ → ℕ → ℕ
  pub not_begun : ℕ

-- Release i is in the node's queue at a tick, by the words before turn t.
pub record Waiting (l : Line) (at t i : ℕ) : Type 0 where
  pub in_log : i < l.releases
  pub own : l.own i ≡ true
  pub released : l.tick i ≤ at
  pub unbegun : l.word t i ≡ l.not_begun

-- Turn t takes release i at place p: it was in the queue at the turn's start, and begins p messages later.
pub record Took (l : Line) (t p i : ℕ) : Type 0 where
  pub waited : Waiting l (l.start t) t i
  pub begun : l.word (suc t) i ≡ l.not_begun → ⊥
  pub word : l.word (suc t) i ≡ l.start t + p * l.message_ticks

-- Turn t serves the queue: it takes the first ones in the queue's order, as many as the budget allows or fewer if fewer wait.
pub record Serves (l : Line) (t : ℕ) : Type 0 where
  pub taken : ℕ
  pub in_budget : taken ≤ l.budget
  pub each_place : (p : ℕ) → p < taken → (i : ℕ) × Took l t p i
  pub only_taken : (i : ℕ) → i < l.releases → l.word t i ≡ l.not_begun → (l.word (suc t) i ≡ l.not_begun → ⊥) →
      (p : ℕ) × (p < taken) × Took l t p i
  pub in_order : (p q a b : ℕ) → p < q → Took l t p a → Took l t q b → l.before a b ≡ true
  pub first_ones : (p a b : ℕ) → Took l t p a → Waiting l (l.start t) (suc t) b → l.before a b ≡ true
  pub none_left : taken < l.budget → (i : ℕ) → Waiting l (l.start t) (suc t) i → ⊥

-- The node's queue is in a strict total order and its turns serve it.
pub record IsServed (l : Line) : Type 0 where
  pub order : TotalOn (λ i. l.own i ≡ true) l.before
  -- nothing has begun before the first turn, and what has begun keeps its word
  pub at_first : (i : ℕ) → i < l.releases → l.word 0 i ≡ l.not_begun
  pub kept : (t i : ℕ) → t < l.turns → i < l.releases → (l.word t i ≡ l.not_begun → ⊥) → l.word (suc t) i ≡ l.word t i
  -- the clock does not fall
  pub clock : (t : ℕ) → t < l.turns → l.start t ≤ l.start (suc t)
  pub own_turn : (t : ℕ) → t < l.turns → l.own_turn t ≡ true → Serves l t
  pub other_turn : (t i : ℕ) → t < l.turns → l.own_turn t ≡ false → i < l.releases → l.own i ≡ true →
      l.word (suc t) i ≡ l.word t i
