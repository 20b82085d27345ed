-- What an accepted log gives: its ticks never fall. Assumes nothing.
use Prim.Native.Nat.{ℕ}
use mathlib.Core.Path.{◌≡◌}
use mathlib.Core.List.{List}
use Rattle.model.specs.Answers.{log_refusal}
use Rattle.model.proofs.Trace.Faultless.{log_fits, fits_rises}
use Rattle.queue.specs.Queue.{Rising}

-- The ticks of an accepted log never fall.
pub log_rises : (s log : List ℕ) → (log_refusal s log).number ≡ 0 → Rising log
log_rises s log e = fits_rises s log (log_fits s log e)
