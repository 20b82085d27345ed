-- A stream asked that refusal 8 does not turn down is on the sheet. Assumes nothing.
use Prim.Native.Nat.{ℕ}
use native.Mathlib.Nat.{suc-ne-zero}
use mathlib.Core.Path.{◌≡◌}
use mathlib.Core.Bool.{◌||◌}
use mathlib.Core.List.{List}
use Rattle.model.specs.Refusal.{refuse, outside}
use Rattle.model.specs.Sheet.{nodes, stream_count, OnSheet}
use Rattle.model.specs.Answers.{unknown_refusal}
use Rattle.theory.proofs.Tests.{or_neither}
use Rattle.model.proofs.Sheet.Range.{within}
use Rattle.model.proofs.Sheet.Refusals.{refuse_if_none}

-- Refusal 8 finds nothing: the node and the stream are there.
pub known_on : (s : List ℕ) (k j : ℕ) → (unknown_refusal s k j).number ≡ 0 → OnSheet s k j
unfolding unknown_refusal
known_on s k j e =
    let node = outside 1 (nodes s) k in
    let stream = outside 1 (stream_count s k) j in
    let both = or_neither node stream (refuse_if_none (node || stream) (refuse 8 k j) (suc-ne-zero 7) e) in
    let here = within 1 (nodes s) k both.0 in
    let there = within 1 (stream_count s k) j both.1 in
    record { node_from = here.0; node_to = here.1; stream_from = there.0; stream_to = there.1 }
