-- `reader::target::index_of` meets its contract: it is read at the target's start. Assumes nothing.
use mathlib.Core.Path.{ap, ◌∙◌}
use Rattle.model.specs.Words.{read_bytes}
use Rattle.reader.proofs.target.index_of.Goals as goal

pub returns : goal.returns
returns c = c.read_u16.ensures ∙ ap (read_bytes 2 c.args.targets.now) c.target_start.ensures.0
