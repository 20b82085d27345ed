-- Every message of a stream with a listed wait begins within that wait: the theorem about ranked nodes, on the line of its node, with
-- turns at most a full cycle apart and the interference of the streams above. Assumes nothing.
use Prim.Native.Nat.{ℕ, suc, ◌+◌, ◌-◌, ◌*◌, ◌≤◌, ◌<◌}
use mathlib.Core.Path.{◌≡◌}
use mathlib.Core.Bool.{true}
use mathlib.Core.List.{List}
use native.Mathlib.Omega.{arith}
use native.Mathlib.Nat.{le_refl, one-le-mul}
use Rattle.model.specs.Limits.{not_begun}
use Rattle.model.specs.Sheet.{word, message_ticks, stream_count, budget, period, deadline, jitter, cycle, running_number, OnSheet}
use Rattle.model.specs.Analysis.{stream_of, interference, wait_for, longest_turn, higher_streams, timing_of}
use Rattle.model.specs.Protocol.{releases, release_tick, release_stream, of_node, state_at, start_of}
use Rattle.model.specs.Demand.{StreamWait, PeriodsKept, Premises, BeginsWithin, DueBefore}
use Rattle.model.proofs.Sheet.ValidSheet.{SheetFits}
use Rattle.model.proofs.Sheet.NodeSums.{cycle_least}
use Rattle.model.proofs.Analysis.Wait.{in_time_cycles}
use Rattle.model.proofs.Analysis.StreamVerdict.{stream_exact}
use Rattle.model.proofs.Protocol.Queue.{of_node_reading}
use Rattle.model.proofs.Demand.Accepted.{Replay}
use Rattle.theory.proofs.Line.{IsServed}
use Rattle.theory.proofs.Sums.{sum_to_split}
use Rattle.theory.proofs.Ranked.{Ranked, BeganInTime, cycles_sooner, ranked_began, ranked_waits}
use Rattle.model.proofs.Demand.NodeLine.{line_of, line_served}
use Rattle.model.proofs.Demand.Distance.{turn_in_cycle, near_cycles}
use Rattle.model.proofs.Demand.ClassStreams.{class_came}

-- A message of a stream of node k is one of the node's.
own_message : {s : List ℕ} {k j : ℕ} (n : ℕ) → OnSheet s k j → n ≡ running_number s k j → of_node s k n ≡ true
own_message {s} {k} n on e =
    (of_node_reading s k n).1 (omega (arith, sum_to_split (stream_count s) k on.node_from, on.stream_from, on.stream_to))

-- The cycles of a listed wait are, with the stream's jitter, within its deadline. (Of a turn's ticks, either those of messages or the
-- slot are enough.)
pub cycles_within : {s : List ℕ} {k j J wait : ℕ}
    → SheetFits s
    → OnSheet s k j
    → StreamWait s k j J wait
    → jitter s k j + J * cycle s ≤ deadline s k j
cycles_within {s} {k} {j} {J} fits on listed =
    let messages = one-le-mul (fits.rows k on.node_from on.node_to).budget_from fits.header.message_from in
    let some : 1 ≤ longest_turn (timing_of s k) = omega (arith, messages, fits.header.slot_from) in
    in_time_cycles (timing_of s k) (stream_of s k j) J some listed.in_time

-- What the theorem about ranked nodes asks of a message. (J cycles and the jitter are within the deadline, and so within the period.)
ranked : {s log : List ℕ} {k j J wait M : ℕ} (turns : ℕ)
    → SheetFits s
    → OnSheet s k j
    → StreamWait s k j J wait
    → PeriodsKept s log k j
    → M < releases log
    → release_stream log M ≡ running_number s k j
    → Ranked (line_of s log k turns) (λ d. d * cycle s) J (interference (higher_streams s k j) (J * cycle s - 1)) M
ranked {s} {log} {k} {j} {J} {M} turns fits on listed kept in_log of_stream =
    let one = listed.least.from_one in
    let some : 1 ≤ J * cycle s = one-le-mul one (omega (arith, cycle_least s fits)) in
    let room : budget s k * message_ticks s ≤ cycle s = omega (arith, turn_in_cycle s k on.node_from on.node_to) in
    let short : J * cycle s + jitter s k j ≤ period s k j = omega (arith, cycles_within fits on listed, (fits.streams k j on).deadline_to) in
    record {
      in_log = in_log;
      own = own_message (release_stream log M) on of_stream;
      from_one = one;
      near = near_cycles fits log k on.node_from on.node_to turns;
      sooner = λ d h. cycles_sooner (cycle s) (budget s k * message_ticks s) J d room h;
      suffices = listed.least.suffices;
      most = λ lo h. class_came turns M fits on kept of_stream lo (J * cycle s) some short;
    }

-- What is known of message i of a stream of node k that has begun in the replay: which turn took it, and when.
abbrev pub BeganInReplay : List ℕ → List ℕ → ℕ → ℕ → ℕ → ℕ → ℕ → Type 0
BeganInReplay s log k j J turns i =
    BeganInTime (line_of s log k turns) (λ d. d * cycle s) J (interference (higher_streams s k j) (J * cycle s - 1)) i turns

module _ {s log : List ℕ} {horizon turns k j wait J : ℕ} (r : Replay s log horizon turns) (p : Premises s log k j wait J) where
  -- The stream has that listed wait, at J.
  pub listed_wait : StreamWait s k j J wait
  listed_wait = ((stream_exact s k j (omega (arith, cycle_least s r.fits))).listed wait J).0 p.listed

  module _ (ticks i : ℕ) (enough : J * cycle s ≤ suc ticks) (due : DueBefore s log horizon k j ticks i) where
    served : IsServed (line_of s log k turns)
    served = line_served r k p.on_sheet.node_from

    message : Ranked (line_of s log k turns) (λ d. d * cycle s) J (interference (higher_streams s k j) (J * cycle s - 1)) i
    message = ranked turns r.fits p.on_sheet listed_wait p.kept due.in_log due.of_stream

    -- A message that is due before the horizon, in at least J cycles, has begun: had it not, the next turn would start before the
    -- horizon.
    has_begun : word (state_at s log turns).begins i ≡ not_begun → ⊥
    has_begun w =
        let late : release_tick log i ≤ start_of s log turns = omega (arith, due.in_time, r.counted.ended) in
        let next = ranked_waits served message turns (le_refl turns) w late in
        omega (arith, due.in_time, r.counted.ended)

    -- So it began in time.
    pub begun_in_time : BeganInReplay s log k j J turns i
    begun_in_time = ranked_began served message turns (le_refl turns) has_begun

-- A message that is due before the horizon begins within the listed wait of its stream.
pub begins_within_wait : {s log : List ℕ} {horizon turns k j wait J : ℕ}
    → Replay s log horizon turns
    → Premises s log k j wait J
    → (i : ℕ)
    → DueBefore s log horizon k j wait i
    → BeginsWithin log (state_at s log turns).begins wait i
unfolding wait_for
begins_within_wait {s} {log} {k} {j} {wait} {J} r p i due =
    let same = (listed_wait r p).wait in
    let enough : J * cycle s ≤ suc wait = omega arith in
    let b = begun_in_time r p wait i enough due in
    record {
      written = has_begun r p wait i enough due;
      not_earlier = omega (arith, b.not_earlier);
      within = omega (arith, b.within);
    }
