-- `queue::arrived_by` meets its contract: from the first release that is after the tick on all are. Assumes nothing.
use native.Mathlib.Omega.{arith}
use Rattle.queue.proofs.Arrivals.{rises_on}
use Rattle.queue.proofs.arrived_by.Goals as goal

pub returns-then-tick-log-clause-arrived : goal.returns-then-tick-log-clause-arrived
returns-then-tick-log-clause-arrived c =
    let rising = c.requires.0 in
    record {
      in_log = omega arith;
      later = rises_on c.args.log.now c.if-tick-log.true (λ i low. rising i (omega arith));
    }
