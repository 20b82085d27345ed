-- `digits::Text::put_number` ends: it calls itself on a tenth of its number. Assumes nothing.
use Rattle.digits.proofs.text.Text.+put_number.Given as goal

abbrev pub decreases-put_number : goal.decreases-put_number
decreases-put_number l = l.n
