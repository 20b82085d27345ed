-- Who waits: what the test `waiting` says of a release. Assumes nothing.
use Prim.Native.Nat.{ℕ, ◌≤◌, ◌<◌}
use mathlib.Core.Path.{◌≡◌}
use mathlib.Core.Bool.{Bool, true, false, ◌&&◌, and-false, and-eq-true_iff}
use mathlib.Core.List.{List}
use lib.Dec.{leb, eqb}
use borrow.Author.Tests.{leb-true, le-leb, lt-leb, eqb-true, eq-eqb, ne_eqb}
use Rattle.model.specs.Limits.{not_begun}
use Rattle.model.specs.Sheet.{word}
use Rattle.model.specs.Protocol.{release_tick, release_stream, of_node, waiting}

-- Release i is in node k's queue at a tick, in plain facts.
pub record Waits (s log : List ℕ) (k tick : ℕ) (begins : List ℕ) (i : ℕ) : Type 0 where
  pub released : release_tick log i ≤ tick
  pub own : of_node s k (release_stream log i) ≡ true
  pub unbegun : word begins i ≡ not_begun

module _ (s log : List ℕ) (k tick : ℕ) (begins : List ℕ) where
  -- What the test says where it holds.
  pub waiting_true : (i : ℕ) → waiting s log k tick begins i ≡ true → Waits s log k tick begins i
  unfolding waiting
  waiting_true i h =
      let early : Bool = leb (release_tick log i) tick in
      let own : Bool = of_node s k (release_stream log i) in
      let outer = (and-eq-true_iff (early && own) (eqb (word begins i) not_begun)).0 h in
      let inner = (and-eq-true_iff early own).0 outer.0 in
      record {
        released = leb-true (release_tick log i) tick inner.0;
        own = inner.1;
        unbegun = eqb-true (word begins i) not_begun outer.1;
      }

  -- The test holds where those facts do.
  pub waiting_holds : (i : ℕ) → Waits s log k tick begins i → waiting s log k tick begins i ≡ true
  unfolding waiting
  waiting_holds i w =
      rw (le-leb (release_tick log i) tick w.released, w.own, eq-eqb (word begins i) not_begun w.unbegun)

  -- A release that has begun does not wait.
  pub waiting_begun : (i : ℕ) → (word begins i ≡ not_begun → ⊥) → waiting s log k tick begins i ≡ false
  unfolding waiting
  waiting_begun i begun = rw (ne_eqb (word begins i) not_begun begun, and-false)

  -- A release after the tick does not wait.
  pub waiting_later : (i : ℕ) → tick < release_tick log i → waiting s log k tick begins i ≡ false
  unfolding waiting
  waiting_later i late = rw (lt-leb (release_tick log i) tick late)

  -- A release of another node does not wait.
  pub waiting_other : (i : ℕ) → of_node s k (release_stream log i) ≡ false → waiting s log k tick begins i ≡ false
  unfolding waiting
  waiting_other i other = rw (other, and-false)

  -- Only the release's own word matters.
  pub waiting_same : (after : List ℕ) (i : ℕ)
      → word after i ≡ word begins i
      → waiting s log k tick after i ≡ waiting s log k tick begins i
  unfolding waiting
  waiting_same after i same = rw same
