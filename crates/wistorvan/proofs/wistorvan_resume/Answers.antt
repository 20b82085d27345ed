-- `wistorvan_resume` meets its contract: the three numbers are those of the outcome. Assumes nothing.
use mathlib.Core.Path.{◌∙◌}
use Rattle.refusals.proofs.Chains.{matched}
use Rattle.encoding.specs.Words.{run_numbers}
use Rattle.wistorvan.proofs.wistorvan_resume.Goals as goal

pub returns : goal.returns
returns c =
    let done = c.resume_in.ensures in
    let same = matched run_numbers c.resume_in.result c.answer_of.ensures in
    record {
      answer = same ∙ done.answer;
      checkpoint = done.checkpoint;
      buffer = done.buffer;
      whole = rw same done.whole;
    }
