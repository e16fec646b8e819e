-- `line::put_field` meets its contract: a space and then a number, of ten digits at most. Assumes nothing.
use native.Mathlib.Omega.{arith}
use Rattle.line.proofs.Decimal.{ten_digits}
use Rattle.line.proofs.Writing.{both}
use Rattle.line.proofs.put_field.Goals as goal

pub put_number-requires : goal.put_number-requires
put_number-requires c = omega (arith, ten_digits _ c.ranges.n.fits)

pub returns : goal.returns
returns c = both (omega arith) c.put-next.ensures c.put_number.ensures
