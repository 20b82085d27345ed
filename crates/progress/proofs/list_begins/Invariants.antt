-- `progress::list_begins` meets its contract: what is left to list from here makes the whole. Assumes nothing.
use Rattle.std.proofs.Common.{◌≡◌, ◌+◌, ◌*◌, ◌≤◌, take, drop}
use Rattle.theory.specs.Listing.{replaced_at}
use Rattle.model.specs.Limits.{release_words, max_slot_ticks}
use Rattle.model.specs.Trace.{begin_words}
use Rattle.progress.proofs.list_begins.Given as goal

abbrev pub invariant-loop-j : goal.invariant-loop-j
invariant-loop-j l = record {
  bound : l.begin ≤ l.tick + l.j * max_slot_ticks;
  rest : replaced_at l.room (l.at + release_words * l.j) (begin_words l.message l.begin l.numbers (drop l.j (take l.count l.places)))
      ≡ replaced_at l.initial.room l.at (begin_words l.message l.tick l.numbers (take l.count l.places));
}
