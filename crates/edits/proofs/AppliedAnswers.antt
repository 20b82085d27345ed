-- What the sheets alike to A answer, by the laws of Applied. Assumes nothing.
use mathlib.Core.Path.{◌≡◌}
use Rattle.model.specs.Refusal.{success}
use Rattle.model.specs.Answers.{one_stream_answer}
use Rattle.edits.proofs.Independence.{independence}
use Rattle.edits.proofs.Applied.{AsOnA, A, on_a, valid_a_lem, alike_a, crowded, empty, moved, with_crowded, with_empty, with_moved}

-- Those alike for node 1 answer as A.
pub crowded_as_a : AsOnA crowded
crowded_as_a = alike_a crowded with_crowded.0 with_crowded.1

pub empty_as_a : AsOnA empty
empty_as_a = alike_a empty with_empty.0 with_empty.1

-- The stream of node 2 waits on the moved sheet as on A.
pub moved_as_a : one_stream_answer moved 2 1 ≡ success 16 1
moved_as_a = rw (← independence A moved 2 valid_a_lem with_moved.0 with_moved.1 1) on_a.1
