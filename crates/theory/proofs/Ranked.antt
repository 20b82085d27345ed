-- A ranked node's message begins within its wait bound: the theorem about the queue, with a count H of the most that comes of the
-- class besides the message itself. Assumes nothing.
use Prim.Native.Nat.{ℕ, suc, pred, ◌+◌, ◌-◌, ◌*◌, ◌≤◌, ◌<◌}
use mathlib.Core.Path.{◌≡◌, ap, subst}
use mathlib.Core.Logic.{◌⊎◌, inl, inr, ⊎_elim}
use mathlib.Core.Bool.{true}
use native.Mathlib.Omega.{arith}
use native.Mathlib.Decide.{dec_lt}
use native.Mathlib.Nat.{mul-le-mul_right}
use Rattle.theory.proofs.Line.{Line, Took, IsServed}
use Rattle.theory.proofs.Window.{came, came_mono}
use Rattle.theory.proofs.BusyWindow.{Near, TurnsSuffice}
use Rattle.theory.proofs.QueueTheorem.{InWindow, began, still_waits}

-- What the analysis knows of a message M of a ranked node: J turns are enough for H messages and M itself, and a turn before the
-- last of them is over before the last must start.
pub record Ranked (l : Line) (D : ℕ → ℕ) (J H M : ℕ) : Type 0 where
  pub in_log : M < l.releases
  pub own : l.own M ≡ true
  pub from_one : 1 ≤ J
  pub near : Near l D
  pub sooner : (d : ℕ) → d < J → D d + l.budget * l.message_ticks ≤ D J
  pub suffices : H < J * l.budget
  pub most : (lo : ℕ) → lo ≤ l.tick M → came l M lo (lo + D J) ≤ suc H

-- Wait bound, "the listed wait": all turns before the last, and in the last a place for what the earlier ones cannot take.
abbrev pub wait : Line → (ℕ → ℕ) → ℕ → ℕ → ℕ
wait l D J H = D J - 1 + (H - pred J * l.budget) * l.message_ticks

-- M has begun before turn t: an own turn that starts within D J ticks of its release took it, and it began within its wait bound.
pub record BeganInTime (l : Line) (D : ℕ → ℕ) (J H M t : ℕ) : Type 0 where
  pub turn : ℕ
  pub place : ℕ
  pub earlier : turn < t
  pub own : l.own_turn turn ≡ true
  pub in_budget : place < l.budget
  pub took : Took l turn place M
  pub still : l.word t M ≡ l.word (suc turn) M
  pub starts : l.start turn < l.tick M + D J
  pub not_earlier : l.tick M ≤ l.word t M
  pub within : l.word t M ≤ l.tick M + wait l D J H

-- Turns a full cycle apart: one before the last is over in time, as a cycle has room for the node's budget.
pub cycles_sooner : (cycle room J d : ℕ) → room ≤ cycle → d < J → d * cycle + room ≤ J * cycle
cycles_sooner cycle room J d h f = let b : suc d * cycle ≤ J * cycle = mul-le-mul_right cycle f in omega arith

module _ {l : Line} {D : ℕ → ℕ} {J H M : ℕ} (s : IsServed l) (r : Ranked l D J H M) where
  suffice : TurnsSuffice l D J M
  suffice =
      record {
        in_log = r.in_log;
        own = r.own;
        from_one = r.from_one;
        near = r.near;
        enough = λ lo h. omega (arith, r.most lo h, r.suffices);
      }

  -- A turn before the last has all its messages begun within D J ticks of the release; the last one starts in them, and M has a
  -- place there after those of the H messages that are left for it.
  sooner_or_last : (i t : ℕ)
      → InWindow l D J M i t
      → (l.start t + l.budget * l.message_ticks < l.tick M + D J)
      ⊎ ((l.start t < l.tick M + D J) × (i ≤ H - pred J * l.budget))
  sooner_or_last i t w = go (dec_lt (suc w.d) J)
    where
      go : Dec (suc w.d < J) →
          (l.start t + l.budget * l.message_ticks < l.tick M + D J)
          ⊎ ((l.start t < l.tick M + D J) × (i ≤ H - pred J * l.budget))
      go (yes f) = inl (omega (arith, w.near, w.opened, r.sooner (suc w.d) f))
      go (no f) =
          let last : suc w.d ≡ J = omega (arith, w.fewer) in
          let n : l.start t < w.lo + D J = subst (λ (k : ℕ). l.start t < w.lo + D k) last w.near in
          let c = came_mono l M w.lo (suc (l.start t)) (w.lo + D J) n in
          let e : pred J ≡ w.d = omega arith in
          let b : pred J * l.budget ≡ w.d * l.budget = ap (λ (k : ℕ). k * l.budget) e in
          inr (omega (arith, w.opened), omega (arith, w.filled, r.most w.lo w.opened))

  -- A turn in a window of M starts within D J ticks of its release.
  starts_within : (i t : ℕ) → InWindow l D J M i t → l.start t < l.tick M + D J
  starts_within i t w = ⊎_elim (λ a. omega arith) (λ b. b.0) (sooner_or_last i t w)

  -- A place in a window of M, of a turn that starts at or after its release, begins within the wait bound.
  begins_within : (i t : ℕ)
      → i < l.budget
      → l.tick M ≤ l.start t
      → InWindow l D J M i t
      → l.start t + i * l.message_ticks ≤ l.tick M + wait l D J H
  begins_within i t f e w = ⊎_elim sooner last (sooner_or_last i t w)
    where
      sooner : l.start t + l.budget * l.message_ticks < l.tick M + D J
          → l.start t + i * l.message_ticks ≤ l.tick M + wait l D J H
      sooner a =
          let p : i * l.message_ticks ≤ l.budget * l.message_ticks = mul-le-mul_right l.message_ticks (omega arith) in
          omega arith

      last : (l.start t < l.tick M + D J) × (i ≤ H - pred J * l.budget)
          → l.start t + i * l.message_ticks ≤ l.tick M + wait l D J H
      last b =
          let p : i * l.message_ticks ≤ (H - pred J * l.budget) * l.message_ticks = mul-le-mul_right l.message_ticks b.1 in
          omega arith

  -- If M has begun, it began within its wait bound.
  pub ranked_began : (t : ℕ) → t ≤ l.turns → (l.word t M ≡ l.not_begun → ⊥) → BeganInTime l D J H M t
  ranked_began t h n =
      let g = began s suffice t h n in
      let released : l.tick M ≤ l.start g.turn = g.took.waited.released in
      record {
        turn = g.turn;
        place = g.place;
        earlier = g.earlier;
        own = g.own;
        in_budget = g.in_budget;
        took = g.took;
        still = g.still;
        starts = starts_within g.place g.turn g.window;
        not_earlier = omega (arith, g.still, g.took.word, released);
        within = omega (arith, g.still, g.took.word, begins_within g.place g.turn g.in_budget released g.window);
      }

  -- If M is released at or before the start of turn t and has not begun, that start is within D J ticks of the release.
  pub ranked_waits : (t : ℕ)
      → t ≤ l.turns
      → l.word t M ≡ l.not_begun
      → l.tick M ≤ l.start t
      → l.start t < l.tick M + D J
  ranked_waits t h w e = starts_within 0 t (still_waits s suffice t h w e)
