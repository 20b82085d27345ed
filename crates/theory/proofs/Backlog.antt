-- The backlog of a message's class: how many of it came and have not begun. It grows by what comes, and a turn of the node takes
-- from it. Assumes nothing.
use Prim.Native.Nat.{ℕ, suc, ◌+◌, ◌≤◌, ◌<◌}
use mathlib.Core.Path.{◌≡◌, refl, sym, subst, ◌∙◌}
use mathlib.Core.Logic.Dec
use mathlib.Core.Logic.{◌⊎◌, inl, inr}
use mathlib.Core.Bool.{true}
use native.Mathlib.Omega.{arith}
use native.Mathlib.Decide.{ℕ_discrete, dec_lt}
use Rattle.theory.proofs.Counting.{count, count_positive, count_witness, count_cover, count_disjoint, count_mono, count_places}
use Rattle.theory.proofs.Line.{Line, Waiting, Took, Serves, IsServed}
use Rattle.theory.proofs.Window.{InClass, in_class?, all_three, Came, came?, came}

-- A member of the class of M with its tick before hi that has not begun before turn t.
abbrev Held : Line → ℕ → ℕ → ℕ → ℕ → Type 0
Held l M t hi i = InClass l M i × (l.tick i < hi) × (l.word t i ≡ l.not_begun)

held? : (l : Line) (M t hi i : ℕ) → Dec (Held l M t hi i)
held? l M t hi i = all_three (in_class? l M i) (dec_lt (l.tick i) hi) (ℕ_discrete (l.word t i) l.not_begun)

-- How many of the class of M with ticks before hi have not begun before turn t.
pub backlog : Line → ℕ → ℕ → ℕ → ℕ
backlog l M t hi = count (held? l M t hi) l.releases

-- How many of the class are in the queue when turn t starts.
abbrev pub queued : Line → ℕ → ℕ → ℕ
queued l M t = backlog l M t (suc (l.start t))

-- How many of those are in the queue after turn t.
abbrev pub left : Line → ℕ → ℕ → ℕ
left l M t = backlog l M (suc t) (suc (l.start t))

module _ (l : Line) (M t : ℕ) where
  -- The backlog grows at most by what came.
  pub backlog_later : (hi hi' : ℕ) → backlog l M t hi' ≤ backlog l M t hi + came l M hi hi'
  unfolding backlog came
  backlog_later hi hi' =
      count_cover (held? l M t hi') (held? l M t hi) (came? l M hi hi') l.releases (λ i n h. part i h (dec_lt (l.tick i) hi))
    where
      part : (i : ℕ) → Held l M t hi' i → Dec (l.tick i < hi) → Held l M t hi i ⊎ Came l M hi hi' i
      part i (c, u, w) (yes h) = inl (c, h, w)
      part i (c, u, w) (no h) = inr (c, omega arith, u)

  -- What waits has come.
  pub backlog_came : (hi : ℕ) → backlog l M t hi ≤ came l M 0 hi
  unfolding backlog came
  backlog_came hi = count_mono (held? l M t hi) (came? l M 0 hi) l.releases (λ i n (c, u, w). (c, omega arith, u))

  -- Where the backlog is at least one, one of the class waits.
  pub backlog_witness : (at : ℕ) → 1 ≤ backlog l M t (suc at) → (i : ℕ) × InClass l M i × Waiting l at t i
  unfolding backlog
  backlog_witness at h = go (count_witness (held? l M t (suc at)) l.releases h)
    where
      go : (i : ℕ) × (i < l.releases) × Held l M t (suc at) i → (i : ℕ) × InClass l M i × Waiting l at t i
      go (i, n, (c, r, w)) = (i, c, record { in_log = n; own = c.0; released = omega arith; unbegun = w })

  -- A message that waits counts in its own backlog.
  pub backlog_positive : (at : ℕ) → Waiting l at t M → 1 ≤ backlog l M t (suc at)
  unfolding backlog
  backlog_positive at w =
      count_positive
      (held? l M t (suc at))
      l.releases
      M
      w.in_log
      ((w.own, inl refl), omega (arith, w.released), w.unbegun)

-- One of the class that turn t begins: it is in the queue when the turn starts, and has begun after it.
abbrev Begun : Line → ℕ → ℕ → ℕ → Type 0
Begun l M t i = Held l M t (suc (l.start t)) i × (l.word (suc t) i ≡ l.not_begun → ⊥)

begun? : (l : Line) (M t i : ℕ) → Dec (Begun l M t i)
begun? l M t i = Dec.and (held? l M t (suc (l.start t)) i) (Dec.not (ℕ_discrete (l.word (suc t) i) l.not_begun))

took_held : {l : Line} {M t p i : ℕ} → InClass l M i → Took l t p i → Held l M t (suc (l.start t)) i
took_held c k = (c, omega (arith, k.waited.released), k.waited.unbegun)

module _ {l : Line} (s : IsServed l) where
  -- What waits after a turn waited before it.
  pub waited : (t i : ℕ) → t < l.turns → i < l.releases → l.word (suc t) i ≡ l.not_begun → l.word t i ≡ l.not_begun
  waited t i h n w = go (ℕ_discrete (l.word t i) l.not_begun)
    where
      go : Dec (l.word t i ≡ l.not_begun) → l.word t i ≡ l.not_begun
      go (yes e) = e
      go (no d) = sym (s.kept t i h n d) ∙ w

  -- A turn adds nothing to the backlog of the same releases.
  pub backlog_falls : (M t hi : ℕ) → t < l.turns → backlog l M (suc t) hi ≤ backlog l M t hi
  unfolding backlog
  backlog_falls M t hi h =
      count_mono (held? l M (suc t) hi) (held? l M t hi) l.releases (λ i n (c, u, w). (c, u, waited t i h n w))

  -- What the node queues before a member of the class is a member.
  closed : (M a b : ℕ) → l.own a ≡ true → l.before a b ≡ true → InClass l M b → InClass l M a
  closed M a b o h (_, inl e) = (o, inr (subst (λ (x : ℕ). l.before a x ≡ true) e h))
  closed M a b o h (_, inr k) = (o, inr (s.order.transitive a b M h k))

  -- No release stands at two places of a turn.
  one_place : (t : ℕ) → Serves l t → (p q i : ℕ) → p < q → Took l t p i → Took l t q i → ⊥
  one_place t v p q i h a b = s.order.irreflexive i (v.in_order p q i i h a b)

  -- Where M is taken at place i, more than i of its class are in the queue.
  pub place_queued : (M t i : ℕ) (v : Serves l t) → i < v.taken → Took l t i M → i < queued l M t
  unfolding backlog
  place_queued M t i v h m =
      count_places
      (held? l M t (suc (l.start t)))
      (Took l t)
      l.releases
      (suc i)
      (λ p b. each p b (ℕ_discrete p i))
      (one_place t v)
    where
      Member : ℕ → Type 0
      Member p = (a : ℕ) × (a < l.releases) × Held l M t (suc (l.start t)) a × Took l t p a

      earlier : (p : ℕ) → p < i → (a : ℕ) × Took l t p a → Member p
      earlier p b (a, k) = (a, k.waited.in_log, took_held (k.waited.own, inr (v.in_order p i a M b k m)) k, k)

      each : (p : ℕ) → p < suc i → Dec (p ≡ i) → Member p
      each p b (yes e) =
          (M, m.waited.in_log, took_held (m.waited.own, inl refl) m, subst (λ (x : ℕ). Took l t x M) (sym e) m)
      each p b (no d) = earlier p (omega arith) (v.each_place p (omega arith))

  -- Where a turn leaves one of the class, it took as many of the class as the budget allows.
  pub left_queued : (M t b : ℕ) → t < l.turns → Serves l t → InClass l M b → Waiting l (l.start t) (suc t) b →
      left l M t + l.budget ≤ queued l M t
  unfolding backlog
  left_queued M t b h v c w = omega (arith, full (dec_lt v.taken l.budget), begun, parts)
    where
      full : Dec (v.taken < l.budget) → l.budget ≤ v.taken
      full (yes e) = absurd (v.none_left e b w)
      full (no e) = omega arith

      member : (p : ℕ) → (a : ℕ) × Took l t p a → (a : ℕ) × (a < l.releases) × Begun l M t a × Took l t p a
      member p (a, k) =
          let m : InClass l M a = closed M a b k.waited.own (v.first_ones p a b k w) c in
          (a, k.waited.in_log, (took_held m k, k.begun), k)

      begun : v.taken ≤ count (begun? l M t) l.releases
      begun = count_places (begun? l M t) (Took l t) l.releases v.taken (λ p b. member p (v.each_place p b)) (one_place t v)

      parts : left l M t + count (begun? l M t) l.releases ≤ queued l M t
      parts =
          count_disjoint
          (held? l M t (suc (l.start t)))
          (held? l M (suc t) (suc (l.start t)))
          (begun? l M t)
          l.releases
          (λ i n (m, r, u). (m, r, waited t i h n u))
          (λ i n (m, x). m)
          (λ i n (m, r, u) (m', x). x u)
