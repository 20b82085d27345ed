-- The three numbers of what the bus did. Assumes nothing.
use Rattle.model.specs.declared.Answer.{Answer}
use Rattle.model.specs.Refusal.{success}
use Rattle.bus.specs.declared.Turned.{Turned}
use Rattle.bus.specs.declared.Replayed.{Replayed}

-- "One step": messages taken, and the tick at which the next turn starts.
abbrev pub turned_numbers : Turned → Answer
turned_numbers turned = success turned.taken turned.bus.tick

-- "Replay": turns started, and the tick at which the next would start.
abbrev pub replayed_numbers : Replayed → Answer
replayed_numbers replayed = success replayed.turns replayed.tick
