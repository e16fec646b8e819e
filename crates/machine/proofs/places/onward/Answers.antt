-- `machine::places::onward` meets its contract: by its test, which is the definition's. Assumes nothing.
use Rattle.machine.proofs.Going.{goes_onward, strays_onward}
use Rattle.machine.proofs.places.onward.Goals as goal

pub returns-then-pc-last : goal.returns-then-pc-last
returns-then-pc-last c = goes_onward c.args.m.now _ c.if-pc-last.true

pub returns-else-pc-last : goal.returns-else-pc-last
returns-else-pc-last c = strays_onward c.args.m.now _ c.if-pc-last.false
