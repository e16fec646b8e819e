-- `reader::target::is_indirect` meets its contract: by the kind that was read. Assumes nothing.
use Rattle.reader.proofs.target.is_indirect.Goals as goal

pub returns : goal.returns
returns c = rw c.kind_of.ensures
