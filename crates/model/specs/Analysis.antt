-- "The listed wait": how long a message of a stream can wait at most before it begins. The search for J knows nothing of a sheet:
-- it goes by the interference as a function of the window, "H", and by the node's timing. Rules 2.4, 2.6 and 3. Assumes nothing.
use Rattle.std.specs.Prelude.{ℕ, zero, suc, pred, ◌+◌, ◌-◌, ◌*◌, ◌/◌, ◌≤◌, ◌<◌, ◌≡◌, Bool, true, false, cond, ◌||◌, ◌&&◌, List, [], ◌∷◌, ltb, eqb}
use Rattle.theory.specs.Sum.{sum}
use Rattle.model.specs.declared.Stream.{Stream}
use Rattle.model.specs.declared.Timing.{Timing}
use Rattle.model.specs.declared.Verdict.{Verdict}
use Rattle.model.specs.declared.Verdict.TheVariants.{Late, Listed}
use Rattle.model.specs.Sheet.{word, message_ticks, slot_ticks, stream_count, budget, period, deadline, jitter, cycle}

-- Stream j of node k, as the sheet has it.
abbrev pub stream_of : List ℕ → ℕ → ℕ → Stream
stream_of s k j = record { number = j; period = period s k j; deadline = deadline s k j; jitter = jitter s k j }

-- The same by the place where its words stand.
abbrev pub stream_in : List ℕ → ℕ → ℕ → Stream
stream_in s at j = record { number = j; period = word s at; deadline = word s (at + 1); jitter = word s (at + 2) }

-- The streams of node k from number j on, `count` of them.
unfoldable pub streams_from : List ℕ → ℕ → ℕ → ℕ → List Stream
streams_from s k j zero = []
streams_from s k j (suc count) = stream_of s k j ∷ streams_from s k (suc j) count

-- All streams of node k.
abbrev pub streams_of : List ℕ → ℕ → List Stream
streams_of s k = streams_from s k 1 (stream_count s k)

-- Priority, "rank": "shorter deadline first, then shorter period, then lower stream number". True where x is ranked above y.
unfoldable pub outranks : Stream → Stream → Bool
outranks x y =
    ltb x.deadline y.deadline
    || eqb x.deadline y.deadline
    && (ltb x.period y.period || eqb x.period y.period && ltb x.number y.number)

-- Those of a list that are "ranked above" a stream.
unfoldable pub above : Stream → List Stream → List Stream
above x [] = []
above x (y ∷ ys) = cond (outranks y x) (y ∷ above x ys) (above x ys)

-- The most messages that a stream of that least period and jitter can release in a window of w + 1 ticks: "1 + floor((w + jitter) /
-- period)". Each is queued up to the jitter after its event, so the events lie in a window that is longer by the jitter; the 1 counts
-- one at its very first tick.
unfoldable pub most_releases : ℕ → ℕ → ℕ → ℕ
most_releases period jitter w = 1 + (w + jitter) / period

-- Interference, "H": the most messages that streams can release in a window of w + 1 ticks, the sum over the streams, each with its
-- own jitter.
unfoldable pub interference : List Stream → ℕ → ℕ
interference ys w = sum (λ y. most_releases y.period y.jitter w) ys

-- "H(J × C − 1) < J × m": in J cycles the node has a place left beyond those that the higher streams can take.
abbrev pub Suffices : (ℕ → ℕ) → Timing → ℕ → Type 0
Suffices H t J = H (J * t.cycle - 1) < J * t.budget

-- "Let J be the smallest whole number from 1 up for which H(J × C − 1) < J × m", over all whole numbers.
pub record IsLeastJ (H : ℕ → ℕ) (t : Timing) (J : ℕ) : Type 0 where
  pub from_one : 1 ≤ J
  pub suffices : Suffices H t J
  pub smallest : (i : ℕ) → 1 ≤ i → Suffices H t i → J ≤ i

-- "x = H(J × C − 1) − (J − 1) × m": the place of the message in the turn that takes it. (That it is no negative number
-- follows where J is the smallest: it is part of demand 2.)
abbrev pub place_in_turn : (ℕ → ℕ) → Timing → ℕ → ℕ
place_in_turn H t J = H (J * t.cycle - 1) - pred J * t.budget

-- Wait bound, "the listed wait", for a J: "J × C − 1 + x × TMS".
unfoldable pub wait_for : (ℕ → ℕ) → Timing → ℕ → ℕ
wait_for H t J = J * t.cycle - 1 + place_in_turn H t J * t.message

-- The longest turn of a node: its budget of messages and its protocol slot, "budget × TMS + TPR".
abbrev pub longest_turn : Timing → ℕ
longest_turn t = t.budget * t.message + t.slot

-- The latest delivery after a message is queued, for a J: "J × C − 1 + budget × TMS + TPR". A message is delivered "at the end of the
-- turn's protocol slot", so the whole turn counts, whatever the place in it.
abbrev pub delivered_after : Timing → ℕ → ℕ
delivered_after t J = J * t.cycle - 1 + longest_turn t

-- The late test of stream x at a J: "jitter + J × C − 1 + budget × TMS + TPR" is "more than its deadline". "The deadline runs from the
-- event", and the message is queued up to the stream's own jitter after it.
unfoldable pub late_at : Timing → Stream → ℕ → Bool
late_at t x J = ltb x.deadline (x.jitter + delivered_after t J)

-- How many J are worth a try: the largest with jitter + J × C − 1 + budget × TMS + TPR not above the deadline, 0 if there is none.
-- proofs/Analysis/Wait says that these are the J from 1 up at which the late test does not hold.
abbrev pub tries_worth : Timing → Stream → ℕ
tries_worth t x = (x.deadline + 1 - (x.jitter + longest_turn t)) / t.cycle

-- Stream x has the listed wait w, at J, and the late test does not hold there. The wait is from queuing, and so without its jitter.
pub record HasWait (H : ℕ → ℕ) (t : Timing) (x : Stream) (J w : ℕ) : Type 0 where
  pub least : IsLeastJ H t J
  pub wait : w ≡ wait_for H t J
  pub in_time : late_at t x J ≡ false

-- "a stream is late if there is no J or if" the late test holds: whatever number is the smallest J, if one is, it holds at it.
abbrev pub IsLate : (ℕ → ℕ) → Timing → Stream → Type 0
IsLate H t x = (J : ℕ) → IsLeastJ H t J → late_at t x J ≡ true

-- The search for J, as it computes the verdict: J = from, from + 1 and so on, `tries` of them; late where none suffices.
unfoldable pub search : (ℕ → ℕ) → Timing → ℕ → ℕ → Verdict
search H t zero from = Late
search H t (suc tries) from =
    elim (ltb (H (from * t.cycle - 1)) (from * t.budget)) [
      | true ↦ Listed (wait_for H t from) from
      | false ↦ search H t tries (suc from)
    ]

-- The verdict on stream x by the interference of those above it and its node's timing. Demand 2 says that it is the one above:
-- `Listed w J` exactly for HasWait, `Late` exactly for IsLate.
unfoldable pub verdict : (ℕ → ℕ) → Timing → Stream → Verdict
verdict H t x = search H t (tries_worth t x) 1

-- The streams ranked above stream j of node k.
abbrev pub higher_streams : List ℕ → ℕ → ℕ → List Stream
higher_streams s k j = above (stream_of s k j) (streams_of s k)

-- The timing of a node of the sheet with a full cycle and a budget.
abbrev pub timing_with : List ℕ → ℕ → ℕ → Timing
timing_with s C m = record { cycle = C; budget = m; message = message_ticks s; slot = slot_ticks s }

-- The verdict on stream j of node k of a sheet, with a full cycle and a budget of the node that need not be the sheet's own.
unfoldable pub verdict_with : List ℕ → ℕ → ℕ → ℕ → ℕ → Verdict
verdict_with s C m k j = verdict (interference (higher_streams s k j)) (timing_with s C m) (stream_of s k j)

-- The timing of node k, with the sheet's own cycle and budget.
abbrev pub timing_of : List ℕ → ℕ → Timing
timing_of s k = timing_with s (cycle s) (budget s k)

-- The verdict on stream j of node k of a sheet.
abbrev pub verdict_of : List ℕ → ℕ → ℕ → Verdict
verdict_of s k j = verdict_with s (cycle s) (budget s k) k j
