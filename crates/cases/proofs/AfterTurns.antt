-- The list of stream records after a turn of the protocol, applied to P9: after its second turn the messages of streams 1 and 3 have begun.
-- Assumes nothing.
use mathlib.Core.Path.{◌≡◌, refl, sym}
use mathlib.Core.List.{[], ◌∷◌, ◌++◌}
use lib.ListN.{drop}
use native.Mathlib.Omega.{arith}
use Rattle.theory.specs.Sum.{sum, up_to}
use Rattle.theory.specs.Count.{count_below, larger, largest_below}
use Rattle.theory.specs.Queue.{first_in, first, first_ones}
use Rattle.theory.specs.Listing.{values_from, joined_from}
use Rattle.model.specs.Refusal.{refuse_if, ◌or_else◌, first_of, outside}
use Rattle.model.specs.Sheet.{total_streams, cycle, ticks_outside, counts_outside, times_outside, row_wrong, row_refusal, stream_refusal, body_refusal, header_refusal, sheet_refusal}
use Rattle.model.specs.Analysis.{streams_from, outranks, above, most_releases, interference, wait_for, search, verdict, verdict_with}
use Rattle.model.specs.Protocol.{of_node, queued_before, waiting, begins_from, serve, next_node, next_bus, turn, start, state_at, run, replayed}
use Rattle.model.specs.Records.{begun_of, longer_than, record_of, records_from, records_of}
use Rattle.model.specs.Answers.{room_refusal, tick_before, release_refusal, log_refusal, horizon_refusal, buffer_after, replay_answer, records_answer, records_list}
use Rattle.model.specs.Bench.{sheet_a, log_p9}
use Rattle.model.proofs.Records.EveryTurn.{every_turn}
use Rattle.cases.specs.Cases.{counted, lent_list}

pub second_turn : records_of (sheet_a 40 40 60) log_p9 (state_at (sheet_a 40 40 60) log_p9 2).begins ++ drop (total_streams (sheet_a 40 40 60)) (lent_list 4)
    ≡ counted 1 0 0 ∷ counted 0 0 0 ∷ counted 1 5 0 ∷ counted 9 9 9 ∷ []
unfolding
    sum up_to first_in first first_ones
    refuse_if ◌or_else◌ first_of outside
    cycle ticks_outside counts_outside times_outside row_wrong row_refusal stream_refusal body_refusal header_refusal sheet_refusal
    streams_from outranks above most_releases interference wait_for search verdict verdict_with
    of_node queued_before waiting begins_from serve next_node next_bus turn start state_at run replayed
    room_refusal tick_before release_refusal log_refusal horizon_refusal values_from joined_from buffer_after
    count_below larger largest_below begun_of longer_than record_of records_from records_of replay_answer records_answer records_list
    sheet_a log_p9 lent_list
second_turn = sym (every_turn (sheet_a 40 40 60) log_p9 (omega arith) 2 3 (lent_list 4) refl)
