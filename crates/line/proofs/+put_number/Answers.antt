-- `line::put_number` meets its contract: a digit, or the tenth's digits and then the last one. Assumes nothing.
use Rattle.std.proofs.Common.{arith, refl}
use Rattle.model.proofs.Line.{tenth_less}
use Rattle.line.proofs.Decimal.{length_small, length_more}
use Rattle.line.proofs.Writing.{wrote_small, wrote_more}
use Rattle.line.proofs.+put_number.Goals as goal

pub put-requires : goal.put-requires
put-requires t c = omega (arith, length_small _ c.if-n-lt10.true)

pub put_number-end-requires : goal.put_number-end-requires
put_number-end-requires t c =
    (omega (arith, tenth_less _ c.if-n-lt10.false), omega (arith, length_more _ c.if-n-lt10.false))

pub put-requires-2 : goal.put-requires-2
put-requires-2 t c = omega (arith, length_more _ c.if-n-lt10.false)

pub returns-then-n-lt10 : goal.returns-then-n-lt10
returns-then-n-lt10 t c = wrote_small _ c.if-n-lt10.true (omega arith) c.put.ensures

pub returns : goal.returns
returns t c = wrote_more _ c.if-n-lt10.false (omega arith) c.put_number-end.ensures refl c.put-2.ensures
