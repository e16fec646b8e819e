-- `madsjirn::madsjirn_write` meets its contract: the numbers of the answer, and the buffer as it was left. Assumes nothing.
use Rattle.std.proofs.Common.{ap, ◌∙◌}
use Rattle.model.specs.Writer.{Written}
use Rattle.madsjirn.specs.Numbers.{write_numbers}
use Rattle.madsjirn.proofs.madsjirn_write.Goals as goal

pub returns : goal.returns
returns c = record {
  numbers = c.from.ensures ∙ ap (λ (w : Written). write_numbers w.report) c.write.ensures;
  buffer_is = ap (λ (w : Written). w.buffer) c.write.ensures;
}
