-- `contents::check_rows` meets its contract: what is left of the row of checks equals the whole, and `at` is where the next body must be.
-- Assumes nothing.
use Prim.Native.Nat.{◌+◌}
use mathlib.Core.Path.{refl, sym, ap}
use native.Mathlib.Omega.{arith}
use Rattle.model.proofs.Sheet.Refusals.{rest_start}
use Rattle.refusals.proofs.Chains.{rest_goes_on}
use Rattle.model.proofs.Sheet.ValidSheet.{row_fits}
use Rattle.model.proofs.Sheet.NodeSums.{streams_next}
use Rattle.theory.proofs.Sums.{sum_to_none}
use Rattle.model.specs.Sheet.{stream_count, row_refusal}
use Rattle.contents.proofs.check_rows.Goals as goal

pub loop-i-init : goal.loop-i-init
loop-i-init c = (omega (arith, sum_to_none (stream_count c.args.sheet.now)), omega arith, rest_start (row_refusal c.args.sheet.now) _)

pub loop-i-preserved : goal.loop-i-preserved
loop-i-preserved c =
    let i = c.loop-i.i in
    let inv = c.loop-i.invariant in
    let row = c.in_ok-check_row.ensures in
    let fits = row_fits c.args.sheet.now (i + 1) (sym (ap (λ a. a.number) row)) in
    let count = c.stream_count.ensures in
    let sum = streams_next c.args.sheet.now i refl count in (
      omega (arith, inv.0, sum, c.body_words-at.ensures.0),
      omega (arith, inv.1, count, fits.streams_to, c.body_words-at.ensures.0),
      rest_goes_on (row_refusal c.args.sheet.now) i _ c.loop-i-test.true row inv.2,
    )
