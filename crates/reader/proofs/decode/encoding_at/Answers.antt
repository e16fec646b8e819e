-- `reader::decode::encoding_at` meets its contract: the bytes that it reads are those that the definition decodes. Assumes nothing.
use mathlib.Core.Path.{refl}
use Rattle.model.specs.File.{instruction_in}
use Rattle.reader.proofs.decode.encoding_at.Goals as goal

pub returns-then-at-code : goal.returns-then-at-code
returns-then-at-code c = c.whole_encoding.ensures _ refl

pub returns : goal.returns
unfolding instruction_in
returns c = rw (
  c.read_u32.ensures,
  c.byte_at-4.ensures,
  c.byte_at-3.ensures,
  c.byte_at-2.ensures,
  c.byte_at.ensures,
)
