-- `digits::Text::put_number` meets its contract: a number's digits but the last are those of a tenth of it. Assumes nothing.
use Rattle.digits.proofs.Decimal.{decimal_one, decimal_more}
use Rattle.digits.proofs.Putting.{adds_then}
use Rattle.digits.proofs.text.Text.+put_number.Goals as goal

pub returns-then-n-lt10 : goal.returns-then-n-lt10
returns-then-n-lt10 t c = rw (decimal_one c.args.n c.if-n-lt10.true) c.put_digit.ensures

pub returns : goal.returns
returns t c = rw (decimal_more c.args.n c.if-n-lt10.false) (adds_then c.put_number.ensures c.put_digit-2.ensures)
