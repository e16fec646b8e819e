-- `reader::read::targets_in` meets its contract: the third field stands where the second ends. Assumes nothing.
use Rattle.reader.proofs.read.targets_in.Goals as goal

pub returns : goal.returns
returns c = rw c.field_end.ensures.0 at c.field_value.ensures
