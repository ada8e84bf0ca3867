-- `put_decimal`: the digits of a tenth of the number, and behind them the last. The measure is the number.
-- Assumes nothing.
use Rattle.check_line.proofs.decimal.+put_decimal.Given as goal

abbrev pub decreases-put_decimal : goal.decreases-put_decimal
decreases-put_decimal l = l.n
