-- Demand 2, whole: for every valid sheet. Each part is one law of the file that it is cited from. Assumes nothing.
use Rattle.model.specs.Demand.{Demand2}
use Rattle.model.proofs.Demand.OneStream.{stream_judged}
use Rattle.model.proofs.Demand.Admission.{all_judged}

pub demand2 : Demand2
demand2 =
    record {
      one_stream = λ s valid k j. stream_judged s k j valid;
      admission = λ s room valid. all_judged s valid room;
    }
