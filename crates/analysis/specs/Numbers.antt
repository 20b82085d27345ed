-- The two numbers of a success: of one stream, and of a whole sheet. Assumes nothing.
use Rattle.model.specs.declared.Answer.{Answer}
use Rattle.model.specs.Refusal.{success}
use Rattle.analysis.specs.declared.ListedWait.{ListedWait}
use Rattle.analysis.specs.declared.Admitted.{Admitted}

-- The "listed wait" and J.
abbrev pub listed_numbers : ListedWait → Answer
listed_numbers found = success found.wait found.cycles

-- The number of streams and C.
abbrev pub admitted_numbers : Admitted → Answer
admitted_numbers done = success done.streams done.cycle
