-- `writer::fill::write_rows` meets its contract: one row is stored behind another. Assumes nothing.
use Rattle.writer.proofs.Storing.{no_unit, unit_behind}
use Rattle.writer.proofs.fill.write_rows.Goals as goal

pub loop-i-init : goal.loop-i-init
loop-i-init g c = no_unit _ g.R.Row.bytes g.met.R.Row.long c.args.rows.now c.args.buffer.now c.args.at

pub loop-i-preserved : goal.loop-i-preserved
loop-i-preserved g c =
    unit_behind _ g.R.Row.bytes g.met.R.Row.long c.args.rows.now c.args.buffer.now c.args.at c.loop-i.i c.loop-i-test.true
    c.index-rows-i.result c.index-rows-i.is c.loop-i.invariant (rw c.SIZE.ensures at c.write.ensures)
