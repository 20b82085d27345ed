-- `input::load_sheet` meets its contract: the array has the words of the longest sheet.
-- Assumes nothing.
use mathlib.Core.Path.{◌≡◌, ◌∙◌}
use native.Mathlib.Omega.{arith}
use lib.ListN.{length}
use Rattle.model.specs.Limits.{longest_sheet}
use Rattle.input.proofs.Words.{loaded_front, valid_whole}
use Rattle.input.proofs.load_sheet.Goals as goal

pub returns : goal.returns
returns c =
    let size : length c.args.words.now ≡ longest_sheet = omega (arith, c.well_formed) in
    let loaded = rw size at c.load.ensures in
    record {
      loaded = loaded;
      valid = λ even valid. loaded_front loaded ∙ valid_whole c.args.bytes.now even valid;
    }
