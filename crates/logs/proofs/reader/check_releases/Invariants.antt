-- `logs::reader::check_releases` meets its contract: what is left of the row of checks equals the whole, and `before` is the tick that
-- the next release must not be below. Assumes nothing.
use Prim.Native.Nat.{◌+◌}
use mathlib.Core.Path.{◌≡◌}
use Rattle.model.specs.Refusal.{first_of}
use Rattle.model.specs.Sheet.{total_streams}
use Rattle.model.specs.Protocol.{releases}
use Rattle.model.specs.Answers.{tick_before, piece_release_refusal}
use Rattle.model.proofs.Sheet.Refusals.{rest}
use Rattle.logs.proofs.reader.check_releases.Given as goal

abbrev pub invariant-loop-i : goal.invariant-loop-i
invariant-loop-i l =
    (l.before ≡ tick_before l.log (l.i + 1)) × (l.streams ≡ total_streams l.sheet)
    × (rest (piece_release_refusal l.sheet l.old l.new l.log) l.i (releases l.log) ≡ first_of (piece_release_refusal l.sheet l.old l.new l.log) 1 (releases l.log))
