-- The cases of the list, and the further ones: the definitions answer every one as stated. Both sides compute to the same.
-- Assumes nothing.
use mathlib.Core.Path.{refl}
use Rattle.theory.specs.Sum.{sum, up_to}
use Rattle.theory.specs.Count.{count_below, larger, largest_below}
use Rattle.theory.specs.Queue.{first_in, first, first_ones}
use Rattle.theory.specs.Listing.{values_from, joined_from}
use Rattle.model.specs.Refusal.{refuse_if, ◌or_else◌, first_of, outside}
use Rattle.model.specs.Sheet.{cycle, ticks_outside, counts_outside, times_outside, row_wrong, row_refusal, stream_refusal, body_refusal, header_refusal, sheet_refusal}
use Rattle.model.specs.Analysis.{streams_from, outranks, above, most_releases, interference, wait_for, search, verdict, verdict_with}
use Rattle.model.specs.Protocol.{of_node, queued_before, waiting, begins_from, serve, next_node, next_bus, turn, start, run, replayed}
use Rattle.model.specs.Answers.{room_refusal, tick_before, release_refusal, log_refusal, horizon_refusal, late_refusal, node_late_with, wait_word, buffer_after, unknown_refusal, verdict_answer, record_refusal, one_stream_answer, admit_answer, admit_buffer, replay_answer, replay_buffer, step_refusal, step_answer, step_bus, step_buffer}
use Rattle.model.specs.Records.{begun_of, longer_than, record_of, records_from, records_of}
use Rattle.model.specs.Answers.{records_answer, records_buffer, records_list}
use Rattle.model.specs.Bench.{sheet_a, sheet_a6, sheet_p7, sheet_pair, sheet_jitter, log_p9, log_p11}
use Rattle.cases.specs.Cases.{AllHold, cases, gives, outcome_of, lent, Further, sheet_equal, sheet_one, log_both, log_burst, log_as_listed, lent_list, made_up_bus, made_up_room}

pub all_hold : AllHold
unfolding
    sum up_to first_in first first_ones
    refuse_if ◌or_else◌ first_of outside
    cycle ticks_outside counts_outside times_outside row_wrong row_refusal stream_refusal body_refusal header_refusal sheet_refusal
    streams_from outranks above most_releases interference wait_for search verdict verdict_with
    of_node queued_before waiting begins_from serve next_node next_bus turn start run replayed
    room_refusal tick_before release_refusal log_refusal horizon_refusal late_refusal node_late_with wait_word values_from joined_from buffer_after
    admit_answer admit_buffer replay_answer replay_buffer
    cases gives outcome_of lent sheet_a sheet_a6 sheet_p7 log_p9 log_p11
all_hold = refl

pub further : Further
unfolding
    sum up_to first_in first first_ones
    refuse_if ◌or_else◌ first_of outside
    cycle ticks_outside counts_outside times_outside row_wrong row_refusal stream_refusal body_refusal header_refusal sheet_refusal
    streams_from outranks above most_releases interference wait_for search verdict verdict_with
    of_node queued_before waiting begins_from serve next_node next_bus turn start run replayed
    unknown_refusal verdict_answer one_stream_answer
    room_refusal tick_before release_refusal log_refusal horizon_refusal late_refusal node_late_with wait_word values_from joined_from buffer_after
    admit_answer admit_buffer replay_answer replay_buffer record_refusal records_from records_of record_of begun_of longer_than count_below larger largest_below records_answer records_buffer records_list step_refusal step_answer step_bus step_buffer
    lent sheet_a sheet_p7 sheet_pair sheet_jitter log_p11 sheet_equal sheet_one log_p9 log_both log_burst log_as_listed lent_list made_up_bus made_up_room
further =
    record {
      second_stream = refl;
      three_cycles = refl;
      other_node = refl;
      at_deadline = refl;
      late_stream = refl;
      unknown_stream = refl;
      late_unwritten = refl;
      first_of_two = refl;
      turn_too_long = refl;
      counted_while_waiting = refl;
      in_time_alone = refl;
      equal_periods = refl;
      equal_deadlines = refl;
      both_equal = refl;
      replay_by_deadline = refl;
      replay_by_period = refl;
      replay_by_number = refl;
      step_by_deadline = refl;
      room_before_late = refl;
      sheet_before_room = refl;
      log_before_horizon = refl;
      horizon_before_room = refl;
      step_numbers = refl;
      step_record = refl;
      step_words = refl;
      step_refused = refl;
      own_jitter = refl;
      own_jitter_late = refl;
      jitter_above = refl;
      whole_period = refl;
      late_by_own = refl;
      jitter_in_time = refl;
      jitter_too_long = refl;
      jitter_is_deadline = refl;
      longest_jitter = refl;
      jitter_is_period = refl;
      rank_without_jitter = refl;
      records_over = refl;
      records_late = refl;
      records_as_listed = refl;
      list_too_short = refl;
      short_list_stays = refl;
      short_list_no_word = refl;
      horizon_before_list = refl;
    }
