-- `pieces::Checkpoint::run_piece` meets its contract: what is lent to the run is the open log with its release numbers. Assumes nothing.
use Prim.Native.Nat.{ℕ, ◌+◌, ◌*◌, ◌≤◌}
use native.Mathlib.Omega.{arith}
use mathlib.Core.Path.{◌≡◌, sym, ◌∙◌}
use mathlib.Core.List.{List}
use lib.ListN.{length, take, length-replicate}
use Rattle.model.specs.Limits.{max_waiting}
use Rattle.model.specs.Protocol.{releases}
use Rattle.pieces.specs.Pieces.{open_log, open_numbers, piece_end, piece_words, piece_checkpoint}
use Rattle.pieces.proofs.Taken.{piece_taken}
use Rattle.pieces.specs.declared.Checkpoint.{Checkpoint}
use Rattle.pieces.proofs.Opening.{places}
use Rattle.pieces.proofs.Opened.{open_count, open_rising, open_length, numbers_length}
use Rattle.pieces.proofs.Checkpoint.run_piece.Goals as goal

-- Each of the messages that wait, and of the piece's, has a release number.
many : (held : Checkpoint) (piece : List ℕ)
    → held.waiting ≤ max_waiting
    → length held.numbers ≡ max_waiting
    → length (open_numbers held piece) ≡ held.waiting + releases piece
many held piece few full = numbers_length held piece (omega (arith, few, full))

pub open_log-requires : goal.open_log-requires
open_log-requires c =
    let ok = piece_taken c.args.sheet.now c.args.self c.args.piece.now c.args.horizon (length c.args.room.now) c.requires in
    (ok.even, omega (arith, ok.fits), ok.waiting_to)

pub open_numbers-requires : goal.open_numbers-requires
open_numbers-requires c =
    let ok = piece_taken c.args.sheet.now c.args.self c.args.piece.now c.args.horizon (length c.args.room.now) c.requires in
    (ok.few, ok.fits, length-replicate {A = ℕ} max_waiting 0)

pub overflow_add-total : goal.overflow_add-total
overflow_add-total c =
    let ok = piece_taken c.args.sheet.now c.args.self c.args.piece.now c.args.horizon (length c.args.room.now) c.requires in
    omega (arith, ok.few)

pub slice_bounds-log-end : goal.slice_bounds-log-end
slice_bounds-log-end c =
    let ok = piece_taken c.args.sheet.now c.args.self c.args.piece.now c.args.horizon (length c.args.room.now) c.requires in
    omega (arith, c.wide-held.ensures.0, ok.fits)

pub slice_bounds-run_open-end : goal.slice_bounds-run_open-end
slice_bounds-run_open-end c =
    let ok = piece_taken c.args.sheet.now c.args.self c.args.piece.now c.args.horizon (length c.args.room.now) c.requires in
    let opened : take (2 * (c.wide-held.result + releases c.args.piece.now)) c.open_log.new.log ≡ open_log c.args.self c.args.piece.now = rw c.wide-held.ensures.0 c.open_log.ensures in
    let a = c.args in
    rw (opened, c.wide-held.ensures.0) (sym (open_length a.self a.piece.now ok.even))

pub slice_bounds-numbers-end : goal.slice_bounds-numbers-end
slice_bounds-numbers-end c =
    let ok = piece_taken c.args.sheet.now c.args.self c.args.piece.now c.args.horizon (length c.args.room.now) c.requires in
    omega (arith, c.wide-held.ensures.0, ok.fits)

pub slice_bounds-run_open-end-2 : goal.slice_bounds-run_open-end-2
slice_bounds-run_open-end-2 c =
    let ok = piece_taken c.args.sheet.now c.args.self c.args.piece.now c.args.horizon (length c.args.room.now) c.requires in
    let numbered : take (c.wide-held.result + releases c.args.piece.now) c.open_numbers.new.numbers ≡ open_numbers c.args.self c.args.piece.now = rw c.wide-held.ensures.0 c.open_numbers.ensures in
    rw (numbered, c.wide-held.ensures.0) (sym (many c.args.self c.args.piece.now ok.waiting_to (places c.args.self _ c.well_formed.0).0))

pub run_open-requires : goal.run_open-requires
run_open-requires c =
    let ok = piece_taken c.args.sheet.now c.args.self c.args.piece.now c.args.horizon (length c.args.room.now) c.requires in
    let opened : take (2 * (c.wide-held.result + releases c.args.piece.now)) c.open_log.new.log ≡ open_log c.args.self c.args.piece.now = rw c.wide-held.ensures.0 c.open_log.ensures in
    let a = c.args in
    let held = c.wide-held.ensures.0 in
    let count = open_count a.self a.piece.now in
    rw (opened, held) record {
      valid_node = (record { valid = ok.valid; from = ok.node_from; up_to = ok.node_to }, ok.turns_to, ok.horizon_to, open_rising a.self a.piece.now ok.rising, omega (arith, count));
      log_bound = (omega (arith, count, ok.fits), rw c.open_numbers.ensures (many c.args.self c.args.piece.now ok.waiting_to (places c.args.self _ c.well_formed.0).0 ∙ sym count), omega (arith, count, ok.room_fits));
    }

pub returns : goal.returns
unfolding piece_words piece_end piece_checkpoint
returns c =
    let opened : take (2 * (c.wide-held.result + releases c.args.piece.now)) c.open_log.new.log ≡ open_log c.args.self c.args.piece.now = rw c.wide-held.ensures.0 c.open_log.ensures in
    let numbered : take (c.wide-held.result + releases c.args.piece.now) c.open_numbers.new.numbers ≡ open_numbers c.args.self c.args.piece.now = rw c.wide-held.ensures.0 c.open_numbers.ensures in
    let ran = c.run_open.ensures in
    let all = rw (opened, numbered) at ran in
    record { answer = all.answer; checkpoint = all.checkpoint; buffer = all.buffer }
