-- `reader::field::field_value` meets its contract: the part that was read, or none of a field that is refused. Assumes nothing.
use mathlib.Core.Path.{refl}
use Rattle.reader.proofs.Judging.{value_or_none}
use Rattle.reader.proofs.field.field_value.Goals as goal

pub returns : goal.returns
returns c = rw c.unwrap_or.ensures (value_or_none _ _ _ _ _ refl c.read_field.ensures.judged c.read_field.ensures.value)
