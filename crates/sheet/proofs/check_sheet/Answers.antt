-- `sheet::check_sheet` meets its contract: each part's answer is the chain's where it refuses, and hands on to the next where it
-- does not. What the rows gave bounds the number of streams.
-- Assumes nothing.
use Prim.Native.Nat.{ℕ, ◌≤◌, ◌*◌}
use mathlib.Core.Path.{◌≡◌, ap, sym}
use mathlib.Core.List.{List}
use native.Mathlib.Omega.{arith}
use Rattle.model.specs.Limits.{max_streams}
use Rattle.model.specs.Refusal.{accepted, first_of}
use Rattle.model.specs.Sheet.{stream_count, streams_up_to, row_refusal}
use Rattle.model.proofs.Sheet.Refusals.{first_none}
use Rattle.model.proofs.Sheet.ValidSheet.{header_fits, row_fits}
use Rattle.theory.proofs.Sums.{sum_to_most}
use Rattle.sheet.proofs.check_sheet.Goals as goal

-- the streams of rows that are in range
few : (s : List ℕ) (n : ℕ) → accepted ≡ first_of (row_refusal s) 1 n → streams_up_to s n ≤ max_streams * n
few s n e =
    let none = sym (ap (λ a. a.number) e) in
    let most = sum_to_most (stream_count s) max_streams n (λ k low high. (row_fits s k (first_none (row_refusal s) 1 n none k low (omega arith))).streams_to) in
    omega (arith, most)

pub check_rows-requires : goal.check_rows-requires
check_rows-requires c =
    let header = header_fits c.args.sheet.now (sym (ap (λ a. a.number) c.in_ok-check_header.ensures)) in
    (c.word_at-n.ensures, omega (arith, c.word_at-n.ensures, header.nodes_to))

pub overflow_cast-streams : goal.overflow_cast-streams
overflow_cast-streams c =
    let sum = few c.args.sheet.now c.word_at-n.result c.in_ok-check_rows.ensures in
    let header = header_fits c.args.sheet.now (sym (ap (λ a. a.number) c.in_ok-check_header.ensures)) in
    omega (arith, sum, c.streams_up_to-streams.ensures, c.word_at-n.ensures, header.nodes_to)
