-- What the writer's success answers in numbers: the words written and C. Assumes nothing.
use Rattle.model.specs.declared.Answer.{Answer}
use Rattle.model.specs.Refusal.{success}
use Rattle.writer.specs.declared.Written.{Written}

abbrev pub written_numbers : Written → Answer
written_numbers x = success x.words x.cycle
