-- `verdicts::higher::collect_above` meets its contract: what is collected, and the words of those above among the streams that are
-- left, are the whole, of the periods and of the jitters. Assumes nothing.
use Prim.Native.Nat.{◌+◌}
use mathlib.Core.Path.{◌≡◌, sym, ap, ◌∙◌}
use native.Mathlib.Omega.{arith}
use Rattle.model.specs.Analysis.{stream_of, streams_from, above}
use Rattle.verdicts.specs.Periods.{periods_of, jitters_of}
use Rattle.theory.proofs.Filling.{fill_one, fill_none, fill_end}
use Rattle.verdicts.proofs.Above.{left_ranked, left_unranked, left_none}
use Rattle.verdicts.proofs.higher.collect_above.Goals as goal
use Rattle.verdicts.proofs.higher.collect_above.Goals.{then-is_above, else-is_above}

pub loop-i-preserved : goal.loop-i-preserved
loop-i-preserved c =
    let a = c.args in
    let l = c.loop-i in
    let inside = c.loop-i-test.true in
    let few = c.requires.0.few in
    let read : c.stream_there-y.result ≡ stream_of a.sheet.now a.k (l.i + 1) = rw (c.place_in_body.ensures.0, c.requires.0.placed) at c.stream_there-y.ensures in
    let ranks = sym (rw read at c.is_above.ensures) in
    elim c.if-is_above.branch [
      | then-is_above w ↦
          let ranked = ranks ∙ w.if-is_above.true in
          let period = left_ranked (λ y. y.period) a.sheet.now a.k a.x l.i a.count inside ranked in
          let jitter = left_ranked (λ y. y.jitter) a.sheet.now a.k a.x l.i a.count inside ranked in (
            omega arith,
            simp (w.n-is, read) (fill_one l.periods l.n _ (omega (arith, few)) period l.invariant.1),
            simp (w.n-is, read) (fill_one l.jitters l.n _ (omega (arith, few)) jitter l.invariant.2),
          )
      | else-is_above w ↦
          let unranked = ranks ∙ w.if-is_above.false in
          let period = left_unranked (λ y. y.period) a.sheet.now a.k a.x l.i a.count inside unranked in
          let jitter = left_unranked (λ y. y.jitter) a.sheet.now a.k a.x l.i a.count inside unranked in (
            omega arith,
            rw w.n-is (fill_none l.periods l.n _ period l.invariant.1),
            rw w.n-is (fill_none l.jitters l.n _ jitter l.invariant.2),
          )
    ]

pub returns : goal.returns
returns c =
    let a = c.args in
    let body = c.requires.0 in
    let l = c.loop-i in
    let past = c.loop-i-test.false in record {
      count = omega (arith, body.few);
      periods = fill_end _ (left_none (λ y. y.period) a.sheet.now a.k a.x l.i a.count past) l.invariant.1
          ∙ ap (λ n. periods_of (above a.x (streams_from a.sheet.now a.k 1 n))) body.counted;
      jitters = fill_end _ (left_none (λ y. y.jitter) a.sheet.now a.k a.x l.i a.count past) l.invariant.2
          ∙ ap (λ n. jitters_of (above a.x (streams_from a.sheet.now a.k 1 n))) body.counted;
    }
