-- The laws of the records applied to concrete replays. Assumes nothing.
use Prim.Native.Nat.{ℕ, zero, suc, ◌+◌, ◌*◌, ◌<◌}
use native.Mathlib.Omega.{arith}
use mathlib.Core.Path.{◌≡◌}
use mathlib.Core.List.{List}
use Rattle.theory.specs.Sum.{sum, up_to}
use Rattle.model.specs.declared.StreamRecord.{StreamRecord}
use Rattle.model.specs.Sheet.{word}
use Rattle.model.specs.Records.{record_at}
use Rattle.model.specs.Demand.{NoneOver}
use Rattle.model.specs.Bench.{sheet_a, log_periodic}
use Rattle.model.proofs.Demand.Applied.{A, first_premises, second_premises}

-- Demand 3 read off a list: of the list nothing is known here but that. Stream 1's second message is due a tick before the horizon. Neither
-- stream of node 1 has a message that waited longer than listed.
pub periodic_none_over : (list : List StreamRecord)
    → NoneOver A log_periodic 57 list
    → ((record_at list 0).over ≡ 0) × ((record_at list 1).over ≡ 0)
unfolding sheet_a log_periodic sum up_to
periodic_none_over list none = (none 1 1 16 1 first_premises first, none 1 2 33 2 second_premises second)
  where
    first : (i : ℕ) → i < 5 → word log_periodic (2 * i + 1) ≡ 1 → word log_periodic (2 * i) + 16 < 57
    first zero high own = omega arith
    first (suc zero) high own = absurd (omega arith)
    first (suc (suc zero)) high own = absurd (omega arith)
    first (suc (suc (suc zero))) high own = absurd (omega arith)
    first (suc (suc (suc (suc zero)))) high own = omega arith
    first (suc (suc (suc (suc (suc i))))) high own = absurd (omega arith)

    second : (i : ℕ) → i < 5 → word log_periodic (2 * i + 1) ≡ 2 → word log_periodic (2 * i) + 33 < 57
    second zero high own = absurd (omega arith)
    second (suc zero) high own = absurd (omega arith)
    second (suc (suc zero)) high own = absurd (omega arith)
    second (suc (suc (suc zero))) high own = omega arith
    second (suc (suc (suc (suc zero)))) high own = absurd (omega arith)
    second (suc (suc (suc (suc (suc i))))) high own = absurd (omega arith)
