-- The busy window of a message M that waits: a window since lo, opened by its release, with d own turns in each of which the node
-- took as many of the class of M as its budget allows. So what is in the queue of the class and d × budget are no more than what
-- came of it since lo; and as J turns suffice for what can come, d is below J. Assumes nothing.
use Prim.Native.Nat.{ℕ, zero, suc, ◌+◌, ◌*◌, ◌≤◌, ◌<◌}
use mathlib.Core.Path.{◌≡◌, refl, ap, subst}
use mathlib.Core.Bool.{Bool, true, false}
use native.Mathlib.Omega.{arith}
use native.Mathlib.Decide.{dec_lt}
use Rattle.theory.proofs.Line.{Line, Waiting, IsServed}
use Rattle.theory.proofs.Window.{Since, at_first, opens, own_turn, other_turn, since_from, came, came_mono, came_split}
use Rattle.theory.proofs.Backlog.{queued, left, backlog_later, backlog_came, backlog_positive, backlog_witness, waited, backlog_falls, left_queued}

-- Whenever since lo there were d own turns before turn t, that turn starts before lo + D (d + 1).
abbrev pub Near : Line → (ℕ → ℕ) → Type 0
Near l D = (lo d t : ℕ) → t ≤ l.turns → Since l lo d t → l.start t < lo + D (suc d)

-- J own turns suffice for message M of the node: for every lo at or before its release, what comes of its class before lo + D J
-- fits into them.
pub record TurnsSuffice (l : Line) (D : ℕ → ℕ) (J M : ℕ) : Type 0 where
  pub in_log : M < l.releases
  pub own : l.own M ≡ true
  pub from_one : 1 ≤ J
  pub near : Near l D
  pub enough : (lo : ℕ) → lo ≤ l.tick M → came l M lo (lo + D J) ≤ J * l.budget

-- A busy window of M before turn t.
pub record Busy (l : Line) (J M t : ℕ) : Type 0 where
  pub lo : ℕ
  pub d : ℕ
  pub opened : lo ≤ l.tick M
  pub fewer : d < J
  pub since : Since l lo d t
  pub behind : queued l M t + d * l.budget ≤ came l M lo (suc (l.start t))

module _ {l : Line} {D : ℕ → ℕ} {J M : ℕ} (s : IsServed l) (m : TurnsSuffice l D J M) where
  -- M in its node's queue at a tick.
  pub in_queue : (at t : ℕ) → l.tick M ≤ at → l.word t M ≡ l.not_begun → Waiting l at t M
  in_queue at t r w = record { in_log = m.in_log; own = m.own; released = r; unbegun = w }

  -- A window after turn t is busy if it is so by what turn t left: what comes until the next turn counts on both sides.
  later : (t lo d : ℕ) →
      t < l.turns →
      lo ≤ suc (l.start t) →
      lo ≤ l.tick M →
      d < J →
      Since l lo d (suc t) →
      left l M t + d * l.budget ≤ came l M lo (suc (l.start t)) →
      Busy l J M (suc t)
  later t lo d h from o f w b =
      let c : l.start t ≤ l.start (suc t) = s.clock t h in
      let g = backlog_later l M (suc t) (suc (l.start t)) (suc (l.start (suc t))) in
      let p = came_split l M lo (suc (l.start t)) (suc (l.start (suc t))) from (omega arith) in
      record { lo = lo; d = d; opened = o; fewer = f; since = w; behind = omega arith }

  -- Where more of the class came than d + 1 turns take, d + 1 is below J still: J turns suffice.
  fewer_turns : (t lo d : ℕ) →
      t ≤ l.turns →
      lo ≤ l.tick M →
      d < J →
      Since l lo d t →
      suc d * l.budget < came l M lo (suc (l.start t)) →
      suc d < J
  fewer_turns t lo d h o f w b = go (dec_lt (suc d) J)
    where
      go : Dec (suc d < J) → suc d < J
      go (yes e) = e
      go (no e) =
          let last : suc d ≡ J = omega arith in
          let n : l.start t < lo + D J = subst (λ (k : ℕ). l.start t < lo + D k) last (m.near lo d t h w) in
          let c = came_mono l M lo (suc (l.start t)) (lo + D J) n in
          absurd (omega (arith, m.enough lo o, ap (λ (k : ℕ). k * l.budget) last))

  -- An own turn that leaves one of the class: the window goes on, with one own turn more.
  goes_on : (t : ℕ) → t < l.turns → l.own_turn t ≡ true → Busy l J M t → 1 ≤ left l M t → Busy l J M (suc t)
  goes_on t h o y one =
      let w = backlog_witness l M (suc t) (l.start t) one in
      let f = left_queued s M t w.0 h (s.own_turn t h o) w.1 w.2 in
      let b : left l M t + suc y.d * l.budget ≤ came l M y.lo (suc (l.start t)) = omega (arith, y.behind) in
      let e : suc y.d < J = fewer_turns t y.lo y.d (omega arith) y.opened y.fewer y.since (omega arith) in
      later t y.lo (suc y.d) h (since_from s (omega arith) y.since) y.opened e (own_turn o y.since) b

  -- An own turn that leaves none of the class: M is not yet released, and a window opens.
  opens_anew : (t : ℕ) → t < l.turns → l.own_turn t ≡ true → l.word (suc t) M ≡ l.not_begun → left l M t ≡ 0 → Busy l J M (suc t)
  opens_anew t h o w none = go (dec_lt (l.start t) (l.tick M))
    where
      go : Dec (l.start t < l.tick M) → Busy l J M (suc t)
      go (yes r) = later t (suc (l.start t)) 0 h (omega arith) r m.from_one (opens o) (omega arith)
      go (no r) = absurd (omega (arith, backlog_positive l M (suc t) (l.start t) (in_queue (l.start t) (suc t) (omega arith) w)))

  -- Another node's turn: the window stays.
  stays : (t : ℕ) → t < l.turns → l.own_turn t ≡ false → Busy l J M t → Busy l J M (suc t)
  stays t h o y =
      let f : left l M t ≤ queued l M t = backlog_falls s M t (suc (l.start t)) h in
      let b : left l M t + y.d * l.budget ≤ came l M y.lo (suc (l.start t)) = omega (arith, y.behind) in
      later t y.lo y.d h (since_from s (omega arith) y.since) y.opened y.fewer (other_turn o y.since) b

  -- While M has not begun there is a busy window.
  pub busy : (t : ℕ) → t ≤ l.turns → l.word t M ≡ l.not_begun → Busy l J M t
  busy zero h w =
      record {
        lo = 0;
        d = 0;
        opened = omega arith;
        fewer = m.from_one;
        since = at_first;
        behind = omega (arith, backlog_came l M 0 (suc (l.start 0)));
      }
  busy (suc t) h w = turn (busy t (omega arith) (waited s t M h m.in_log w)) (l.own_turn t) refl
    where
      at_own_turn : l.own_turn t ≡ true → Busy l J M t → (k : ℕ) → left l M t ≡ k → Busy l J M (suc t)
      at_own_turn o y zero e = opens_anew t h o w e
      at_own_turn o y (suc k) e = goes_on t h o y (omega arith)

      turn : Busy l J M t → (b : Bool) → l.own_turn t ≡ b → Busy l J M (suc t)
      turn y true o = at_own_turn o y (left l M t) refl
      turn y false o = stays t h o y
