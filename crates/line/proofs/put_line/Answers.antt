-- `line::put_line` meets its contract: its parts are written one after the other. Assumes nothing.
use native.Mathlib.Omega.{arith}
use Rattle.line.proofs.Decimal.{ten_digits}
use Rattle.line.proofs.Writing.{both}
use Rattle.line.proofs.put_line.Goals as goal

pub put_field-at-requires-2 : goal.put_field-at-requires-2
put_field-at-requires-2 c = omega (arith, ten_digits _ c.ranges.first.fits)

pub put-requires : goal.put-requires
put-requires c = omega (arith, ten_digits _ c.ranges.first.fits, ten_digits _ c.ranges.second.fits)

pub returns : goal.returns
returns c = let fields = both (omega arith) (both (omega arith) c.put-at.ensures c.put_field-at.ensures) c.put_field-at-2.ensures in
    both (omega arith) fields c.put.ensures
