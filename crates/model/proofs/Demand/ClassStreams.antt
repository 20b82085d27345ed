-- The streams of a message's class: the message and what its node queues before it are of the message's own stream or of one ranked
-- above it. So where those keep their least periods, there come of the class, in a window that with the jitter of the message's own
-- stream is no longer than its period, at most the message itself and the interference of the streams above. Assumes nothing.
use Prim.Native.Nat.{ℕ, suc, ◌+◌, ◌-◌, ◌≤◌, ◌<◌}
use mathlib.Core.Path.{◌≡◌, refl, ◌∙◌}
use mathlib.Core.Logic.Dec
use mathlib.Core.Logic.{◌⊎◌, inl, inr, ⊎_elim}
use mathlib.Core.Bool.{true}
use mathlib.Core.List.Memᴰ
use mathlib.Core.List.{List, ◌∷◌, Memᴰ}
use native.Mathlib.Omega.{arith}
use native.Mathlib.Decide.{ℕ_discrete}
use Rattle.theory.specs.Sum.{sum}
use Rattle.theory.proofs.Sums.{sum_to_split}
use Rattle.theory.proofs.Counting.{count}
use Rattle.theory.proofs.Arrivals.{Apart, successive_apart}
use Rattle.theory.proofs.ClassArrivals.{came_sum}
use Rattle.theory.proofs.Window.{InClass, came?, came}
use Rattle.model.specs.declared.Stream.{Stream}
use Rattle.model.specs.Sheet.{period, jitter, stream_count, streams_before, running_number, OnSheet}
use Rattle.model.specs.Analysis.{stream_of, streams_of, outranks, most_releases, interference, higher_streams}
use Rattle.model.specs.Protocol.{releases, release_tick, release_stream, stream_of_release, EventsFit, KeepsPeriod}
use Rattle.model.specs.Demand.{PeriodsKept}
use Rattle.model.proofs.Sheet.ValidSheet.{SheetFits}
use Rattle.model.proofs.Analysis.NodeStreams.{in_streams, from_streams, in_above, from_above}
use Rattle.model.proofs.Analysis.Interference.{releases_once, releases_most}
use Rattle.model.proofs.Protocol.Queue.{of_node_reading, before_reading}
use Rattle.model.proofs.Demand.NodeLine.{line_of}

-- Release i is of stream y of node k.
abbrev pub OfStream : List ℕ → List ℕ → ℕ → Stream → ℕ → Type 0
OfStream s log k y i = release_stream log i ≡ running_number s k y.number

-- Whether it is can be decided.
pub of_stream? : (s log : List ℕ) (k : ℕ) (y : Stream) (i : ℕ) → Dec (OfStream s log k y i)
of_stream? s log k y i = ℕ_discrete (release_stream log i) (running_number s k y.number)

-- Events that fit a stream's releases are any two a period apart.
events_apart : (s log : List ℕ) (k j : ℕ) (latest : ℕ → ℕ)
    → EventsFit s log k j latest
    → Apart (OfStream s log k (stream_of s k j)) latest (period s k j) (releases log)
events_apart s log k j latest fit =
    successive_apart
    (of_stream? s log k (stream_of s k j))
    latest
    (period s k j)
    (releases log)
    (λ a b l h m n none.
    omega (arith, fit.apart a b (record { ordered = l; in_log = h; first = m; second = n; none_between = none })))

-- Stream j of node k and those above it.
abbrev up_to_rank : List ℕ → ℕ → ℕ → List Stream
up_to_rank s k j = stream_of s k j ∷ higher_streams s k j

-- A member of the class of a message is of its stream or of one above it.
class_stream : (s log : List ℕ) (k j M turns : ℕ)
    → 1 ≤ k
    → release_stream log M ≡ running_number s k j
    → (i : ℕ)
    → InClass (line_of s log k turns) M i
    → (y : Stream) × Memᴰ y (up_to_rank s k j) × OfStream s log k y i
class_stream s log k j M turns from of_stream i (own, inl e) = (stream_of s k j, Memᴰ.head refl, rw e of_stream)
class_stream s log k j M turns from of_stream i (own, inr b) = go ((before_reading s log k i M).0 b)
  where
    number : ℕ
    number = release_stream log i - streams_before s k

    go : (outranks (stream_of s k number) (stream_of_release s log k M) ≡ true)
        ⊎ ((release_stream log i ≡ release_stream log M) × (i < M))
        → (y : Stream) × Memᴰ y (up_to_rank s k j) × OfStream s log k y i
    go (inl o) =
        let h = (of_node_reading s k (release_stream log i)).0 own in
        let all = sum_to_split (stream_count s) k from in
        let same : release_stream log M - streams_before s k ≡ j = omega arith in
        let there = in_streams s k number 1 (stream_count s k) (omega arith) (omega arith) in (
          stream_of s k number,
          Memᴰ.tail (in_above (stream_of s k j) (stream_of s k number) (streams_of s k) (rw same at o) there),
          omega arith,
        )
    go (inr (same, l)) = (stream_of s k j, Memᴰ.head refl, same ∙ of_stream)

-- The releases of a stream have events at least its period apart, and each is queued up to its jitter after its event.
record EventsApart (s log : List ℕ) (k : ℕ) (y : Stream) : Type 0 where
  some : 1 ≤ y.period
  latest : ℕ → ℕ
  apart : Apart (OfStream s log k y) latest y.period (releases log)
  not_after : (i : ℕ) → i < releases log → OfStream s log k y i → release_tick log i ≤ latest i
  not_before : (i : ℕ) → i < releases log → OfStream s log k y i → latest i ≤ release_tick log i + y.jitter

-- So it is with a stream that keeps its least period,
kept_events : {s log : List ℕ} {k j : ℕ}
    → SheetFits s
    → OnSheet s k j
    → KeepsPeriod s log k j
    → EventsApart s log k (stream_of s k j)
kept_events {s} {log} {k} {j} fits on (latest, fit) =
    record {
      some = (fits.streams k j on).period_from;
      latest = latest;
      apart = events_apart s log k j latest fit;
      -- by `omega`, so that a stronger premise would be enough here and fall at its use
      not_after = λ i h o. omega (arith, fit.not_after i h o);
      not_before = λ i h o. omega (arith, fit.not_before i h o);
    }

-- and so with a stream whose period is kept, and those above it.
all_apart : {s log : List ℕ} {k j : ℕ}
    → SheetFits s
    → OnSheet s k j
    → PeriodsKept s log k j
    → (y : Stream)
    → Memᴰ y (up_to_rank s k j)
    → EventsApart s log k y
all_apart {s} {log} {k} {j} fits on kept y m = ⊎_elim itself higher (Memᴰ.cases_cons m)
  where
    itself : y ≡ stream_of s k j → EventsApart s log k y
    itself e = rw e (kept_events fits on kept.itself)

    higher : Memᴰ y (higher_streams s k j) → EventsApart s log k y
    higher l =
        let a = from_above (stream_of s k j) y (streams_of s k) l in
        let w = from_streams s k y 1 (stream_count s k) a.0 in
        let there : OnSheet s k w.0 = record {
          node_from = on.node_from;
          node_to = on.node_to;
          stream_from = w.1;
          stream_to = omega (arith, w.2);
        } in
        rw w.3 (kept_events fits there (kept.ranked_above w.0 there (rw w.3 at a.1)))

-- In w ticks, with the stream's jitter at most its period, there come of the class of a message of it at most the message itself and
-- the interference of the streams above.
pub class_came : {s log : List ℕ} {k j : ℕ} (turns M : ℕ)
    → SheetFits s
    → OnSheet s k j
    → PeriodsKept s log k j
    → release_stream log M ≡ running_number s k j
    → (lo w : ℕ)
    → 1 ≤ w
    → w + jitter s k j ≤ period s k j
    → came (line_of s log k turns) M lo (lo + w) ≤ suc (interference (higher_streams s k j) (w - 1))
unfolding interference sum
class_came {s} {log} {k} {j} turns M fits on kept of_stream lo w one short =
    let inside : w - 1 + jitter s k j < period s k j = omega arith in
    omega (
      arith,
      releases_once (period s k j) (jitter s k j) (w - 1) inside,
      came_sum (line_of s log k turns) M lo (lo + w) (of_stream? s log k) (λ y. most_releases y.period y.jitter (w - 1)) (up_to_rank s k j)
          (λ i h. class_stream s log k j M turns on.node_from of_stream i) most,
    )
  where
    most : (y : Stream)
        → Memᴰ y (up_to_rank s k j)
        → count (λ i. Dec.and (came? (line_of s log k turns) M lo (lo + w) i) (of_stream? s log k y i)) (releases log)
        ≤ most_releases y.period y.jitter (w - 1)
    most y m =
        let e = all_apart fits on kept y m in
        releases_most
        (λ i. Dec.and (came? (line_of s log k turns) M lo (lo + w) i) (of_stream? s log k y i))
        e.latest
        y.period
        y.jitter
        lo
        (w - 1)
        (releases log)
        e.some
        (λ a b l h (c, o) (c', o'). e.apart a b l h o o')
        (λ i h ((c, f, u), o). (omega (arith, e.not_after i h o), omega (arith, e.not_before i h o)))
