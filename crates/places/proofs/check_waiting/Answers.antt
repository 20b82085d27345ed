-- `places::check_waiting` meets its contract: what is left of the row of checks equals the whole. Assumes nothing.
use Rattle.std.proofs.Common.{rules}
use Prim.Native.Nat.{pred, ◌+◌}
use mathlib.Core.Path.{◌≡◌}
use native.Mathlib.Omega.{arith}
use Rattle.model.specs.Answers.{waiting_refusal}
use Rattle.refusals.proofs.Chains.{rest_stops, rest_goes_on}
use Rattle.places.proofs.check_waiting.Goals as goal

pub returns-in_err-refuse_if : goal.returns-in_err-refuse_if
unfolding waiting_refusal
returns-in_err-refuse_if c =
    let a = c.args in
    let inv = c.loop-i.invariant in
    let place : pred (c.loop-i.i + 1) ≡ c.loop-i.i = omega arith in
    let check = c.in_err-refuse_if in
    let stop = rest_stops (waiting_refusal a.sheet.now a.streams.now) _ _ check.field-0.0 (omega arith) (rw place (rw (c.stream_is_unknown.ensures, inv.0) at check.ensures)) inv.1 in
    grind (rules, stop)

pub loop-i-preserved : goal.loop-i-preserved
unfolding waiting_refusal
loop-i-preserved c =
    let a = c.args in
    let inv = c.loop-i.invariant in
    let place : pred (c.loop-i.i + 1) ≡ c.loop-i.i = omega arith in (
      inv.0,
      rest_goes_on (waiting_refusal a.sheet.now a.streams.now) _ _ c.loop-i-test.true (rw place (rw (c.stream_is_unknown.ensures, inv.0) at c.in_ok-refuse_if.ensures)) inv.1,
    )
