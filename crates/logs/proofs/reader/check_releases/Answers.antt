-- `logs::reader::check_releases` meets its contract: what is left of the row of checks equals the whole, and `before` is the tick that
-- the next release must not be below. Assumes nothing.
use Prim.Native.Nat.{◌+◌}
use mathlib.Core.Path.{refl}
use native.Mathlib.Numerals.{add-one}
use Rattle.model.specs.Answers.{tick_before, piece_release_refusal}
use Rattle.model.proofs.Sheet.Refusals.{rest_start}
use Rattle.refusals.proofs.Chains.{rest_goes_on}
use Rattle.logs.proofs.reader.check_releases.Goals as goal

pub loop-i-init : goal.loop-i-init
unfolding tick_before
loop-i-init c =
    let a = c.args in (
      refl,
      rw c.word_at.ensures at c.streams_up_to-streams.ensures,
      rest_start (piece_release_refusal a.sheet.now a.old a.new a.log.now) _,
    )

pub loop-i-preserved : goal.loop-i-preserved
unfolding tick_before
loop-i-preserved c =
    let a = c.args in
    let inv = c.loop-i.invariant in
    let i = c.loop-i.i in (
      rw (add-one (i + 1), add-one i) refl,
      inv.1,
      rest_goes_on (piece_release_refusal a.sheet.now a.old a.new a.log.now) _ _ c.loop-i-test.true c.in_ok-check_release.ensures inv.2,
    )
