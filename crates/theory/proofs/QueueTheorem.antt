-- The theorem about a node's queue, for one message M: it begins, or still waits, within J own turns of a window that opened by its
-- release, and what came of its class since then fills the places before its own. Assumes nothing.
use Prim.Native.Nat.{ℕ, zero, suc, ◌+◌, ◌*◌, ◌≤◌, ◌<◌}
use mathlib.Core.Path.{◌≡◌, refl, ◌∙◌}
use mathlib.Core.Bool.{Bool, true, false}
use native.Mathlib.Omega.{arith}
use native.Mathlib.Decide.{ℕ_discrete}
use Rattle.theory.proofs.Line.{Line, Took, Serves, IsServed}
use Rattle.theory.proofs.Window.{Since, came}
use Rattle.theory.proofs.Backlog.{queued, backlog_positive, place_queued}
use Rattle.theory.proofs.BusyWindow.{TurnsSuffice, in_queue, busy}

-- Place i of turn t lies in a window of M: one that opened by the release of M, with d < J own turns before t, near enough, and
-- where more of the class came than those d turns and the places before i can have taken.
pub record InWindow (l : Line) (D : ℕ → ℕ) (J M i t : ℕ) : Type 0 where
  pub lo : ℕ
  pub d : ℕ
  pub opened : lo ≤ l.tick M
  pub fewer : d < J
  pub since : Since l lo d t
  pub near : l.start t < lo + D (suc d)
  pub filled : i + d * l.budget < came l M lo (suc (l.start t))

-- M has begun before turn t: an own turn took it, at a place that lies in a window of M, and its word is still the one it got there.
pub record Began (l : Line) (D : ℕ → ℕ) (J M t : ℕ) : Type 0 where
  pub turn : ℕ
  pub place : ℕ
  pub earlier : turn < t
  pub own : l.own_turn turn ≡ true
  pub in_budget : place < l.budget
  pub took : Took l turn place M
  pub still : l.word t M ≡ l.word (suc turn) M
  pub window : InWindow l D J M place turn

module _ {l : Line} {D : ℕ → ℕ} {J M : ℕ} (s : IsServed l) (m : TurnsSuffice l D J M) where
  in_window : (i t : ℕ) → t ≤ l.turns → l.word t M ≡ l.not_begun → i < queued l M t → InWindow l D J M i t
  in_window i t h w b =
      let y = busy s m t h w in
      record {
        lo = y.lo;
        d = y.d;
        opened = y.opened;
        fewer = y.fewer;
        since = y.since;
        near = m.near y.lo y.d t h y.since;
        filled = omega (arith, y.behind);
      }

  -- If M has not begun before turn t and is released at or before its start, the turn lies in a window of M.
  pub still_waits : (t : ℕ) → t ≤ l.turns → l.word t M ≡ l.not_begun → l.tick M ≤ l.start t → InWindow l D J M 0 t
  still_waits t h w r = in_window 0 t h w (backlog_positive l M t (l.start t) (in_queue s m (l.start t) t r w))

  -- If M has begun before turn t, it began in an own turn, at a place that lies in a window of M.
  pub began : (t : ℕ) → t ≤ l.turns → (l.word t M ≡ l.not_begun → ⊥) → Began l D J M t
  began zero h n = absurd (n (s.at_first M m.in_log))
  began (suc t) h n = go (began t (omega arith)) (ℕ_discrete (l.word t M) l.not_begun)
    where
      earlier_turn : Began l D J M t → l.word (suc t) M ≡ l.word t M → Began l D J M (suc t)
      earlier_turn g kept =
          record {
            turn = g.turn;
            place = g.place;
            earlier = omega (arith, g.earlier);
            own = g.own;
            in_budget = g.in_budget;
            took = g.took;
            still = kept ∙ g.still;
            window = g.window;
          }

      this_turn : (v : Serves l t)
          → l.own_turn t ≡ true
          → l.word t M ≡ l.not_begun
          → (p : ℕ) × (p < v.taken) × Took l t p M
          → Began l D J M (suc t)
      this_turn v o w (p, b, k) =
          record {
            turn = t;
            place = p;
            earlier = omega arith;
            own = o;
            in_budget = omega (arith, v.in_budget);
            took = k;
            still = refl;
            window = in_window p t (omega arith) w (place_queued s M t p v b k);
          }

      turn : l.word t M ≡ l.not_begun → (b : Bool) → l.own_turn t ≡ b → Began l D J M (suc t)
      turn w true o = let v = s.own_turn t h o in this_turn v o w (v.only_taken M m.in_log w n)
      turn w false o = absurd (n (s.other_turn t M h o m.in_log m.own ∙ w))

      go : ((l.word t M ≡ l.not_begun → ⊥) → Began l D J M t) → Dec (l.word t M ≡ l.not_begun) → Began l D J M (suc t)
      go ih (yes w) = turn w (l.own_turn t) refl
      go ih (no x) = earlier_turn (ih x) (s.kept t M h m.in_log x)
