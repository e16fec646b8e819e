-- `reader::layout::layout_of` meets its contract: by `layout_is`, from the three reads. Assumes nothing.
use Rattle.reader.proofs.Layouts.{layout_is}
use Rattle.reader.proofs.layout.layout_of.Goals as goal

pub returns : goal.returns
returns c = layout_is _ _ _ _ c.read_u32.ensures c.read_u32-2.ensures c.read_u32-3.ensures
