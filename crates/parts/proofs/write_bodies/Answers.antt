-- `parts::write_bodies` meets its contract: the bodies passed stand after the contents, the rest is as it was. The next is written
-- into the part that is lent from its place on. Assumes nothing.
use Prim.Native.Nat.{ℕ, pred, ◌≤◌, ◌*◌, ◌-◌, ◌+◌}
use mathlib.Core.Path.{◌≡◌, sym, ◌∙◌, ap, ap₂}
use mathlib.Core.List.{List, ◌++◌}
use native.Mathlib.Omega.{arith}
use lib.ListN.{length, take, drop}
use Rattle.theory.specs.Listing.{joined_from, replaced_at}
use Rattle.theory.proofs.Listing.{joined_nil}
use Rattle.theory.proofs.Overwriting.{over_none, over_next}
use Rattle.theory.proofs.Sums.{sum_to_none}
use Rattle.model.specs.Limits.{stream_words}
use Rattle.model.specs.Sheet.{first_body_at, body_at}
use Rattle.tables.specs.Tables.{node_entry, counts_before}
use Rattle.tables.specs.Writing.{body_of}
use Rattle.tables.proofs.WrittenWords.{streams_length, bodies_length}
use Rattle.parts.proofs.Counting.{counts_next, counts_room, joined_upto}
use Rattle.parts.proofs.write_bodies.Goals as goal
use Rattle.parts.proofs.write_bodies.Lts as lts
use Rattle.parts.proofs.write_bodies.Tie as tie
use Rattle.parts.proofs.write_bodies.Reads as reads

-- The body of node k.
abbrev node_body : List ℕ → List ℕ → List ℕ → List ℕ → ℕ → List ℕ
node_body counts periods deadlines jitters k = body_of periods deadlines jitters (counts_before counts k) (node_entry counts k)

-- Node k's body, written into the part that is lent from its place on.
next-body : (counts periods deadlines jitters old room part : List ℕ) (k place n : ℕ) {before count : ℕ}
    → 1 ≤ k
    → body_at n (counts_before counts k) ≤ length old
    → place ≡ body_at n before
    → room ≡ replaced_at old (first_body_at n) (joined_from (node_body counts periods deadlines jitters) 1 (pred k))
    → before ≡ counts_before counts k
    → count ≡ node_entry counts k
    → part ≡ body_of periods deadlines jitters before count ++ drop (stream_words * count) (take (length room - place) (drop place room))
    → take place room ++ (part ++ drop (length room - place) (drop place room))
    ≡ replaced_at old (first_body_at n) (joined_from (node_body counts periods deadlines jitters) 1 k)
next-body counts periods deadlines jitters old room part k place n {before} {count} low fits placed so_far sum counted back =
    let long = bodies_length counts periods deadlines jitters (pred k) in
    let own = streams_length periods deadlines jitters before count in
    let passed : List ℕ = joined_from (node_body counts periods deadlines jitters) 1 (pred k) in
    over_next old room part passed (body_of periods deadlines jitters before count) (first_body_at n) place
    (omega (arith, fits, long))
    (omega (arith, placed, sum, long))
    so_far
    (rw own back)
    ∙ ap (λ more. replaced_at old (first_body_at n) (passed ++ more)) (ap₂ (body_of periods deadlines jitters) sum counted)
    ∙ ap (replaced_at old (first_body_at n)) (joined_upto (node_body counts periods deadlines jitters) k low)

-- Node k's body is written: the last one too, after which the loop ends.
body_written : (c : lts.After-body_words tie.the-claims reads.Pre reads.Post goal.the-invariant-loop-k goal.the-decreases-loop-k)
    → take c.loop-k.at c.loop-k.room ++ (c.write_body.new.body ++ drop (length c.loop-k.room - c.loop-k.at) (drop c.loop-k.at c.loop-k.room))
    ≡ replaced_at c.args.room.now (first_body_at (length c.args.tables.now.counts.now)) (joined_from (node_body c.args.tables.now.counts.now c.args.tables.now.periods.now c.args.tables.now.deadlines.now c.args.tables.now.jitters.now) 1 c.loop-k.k)
body_written c =
    let a = c.args in
    let t = a.tables.now in
    let l = c.loop-k in
    let room = counts_room t.counts.now l.k l.auto.k (omega arith) in
    next-body t.counts.now t.periods.now t.deadlines.now t.jitters.now a.room.now l.room c.write_body.new.body l.k l.at (length t.counts.now)
    l.auto.k
    (omega arith)
    l.invariant.2
    l.invariant.3
    l.invariant.1
    c.node_entry-count.ensures
    c.write_body.ensures

pub loop-k-init : goal.loop-k-init
loop-k-init c =
    let a = c.args in
    let t = a.tables.now in (
      omega arith,
      sym (sum_to_none (node_entry t.counts.now)),
      omega (arith, c.first_body_at-at.ensures.0),
      over_none a.room.now (first_body_at (length t.counts.now)) ∙ ap (replaced_at a.room.now (first_body_at (length t.counts.now))) (sym (joined_nil (node_body t.counts.now t.periods.now t.deadlines.now t.jitters.now) 1)),
    )

pub loop-k-preserved : goal.loop-k-preserved
loop-k-preserved c =
    let l = c.loop-k in
    let passed : pred (l.k + 1) ≡ l.k = omega arith in
    let more = counts_next c.args.tables.now.counts.now l.k l.auto.k in
    (omega arith, omega arith, omega arith, rw passed (body_written c.before.before))

pub returns-2 : goal.returns-2
returns-2 c = let last : c.loop-k.k ≡ length c.args.tables.now.counts.now = omega arith in rw last at (body_written c.before.before)
