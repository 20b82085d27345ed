-- `parts::write_bodies` meets its contract: the bodies passed stand after the contents, the rest is as it was. The next is written
-- into the part that is lent from its place on. Assumes nothing.
use Prim.Native.Nat.{ℕ, pred, ◌+◌, ◌≤◌}
use mathlib.Core.Path.{◌≡◌}
use mathlib.Core.List.{List}
use lib.ListN.{length}
use Rattle.theory.specs.Listing.{joined_from, replaced_at}
use Rattle.model.specs.Sheet.{first_body_at, body_at}
use Rattle.tables.specs.Tables.{node_entry, counts_before}
use Rattle.tables.specs.Writing.{body_of}
use Rattle.parts.proofs.write_bodies.Given as goal

-- The body of node k.
abbrev node_body : List ℕ → List ℕ → List ℕ → List ℕ → ℕ → List ℕ
node_body counts periods deadlines jitters k = body_of periods deadlines jitters (counts_before counts k) (node_entry counts k)

abbrev pub invariant-loop-k : goal.invariant-loop-k
invariant-loop-k l =
    let t = l.tables in
    let n : ℕ = length t.counts.now in
    (l.k ≤ n + 1)
    × (l.before ≡ counts_before t.counts.now l.k)
    × (l.at ≡ body_at n l.before)
    × (l.room ≡ replaced_at l.initial.room (first_body_at n) (joined_from (node_body t.counts.now t.periods.now t.deadlines.now t.jitters.now) 1 (pred l.k)))
