-- `reader::layout::is_region_size` meets its contract: by the two laws of listed sizes. Assumes nothing.
use native.Mathlib.Omega.{arith}
use Rattle.reader.proofs.Layouts.{size_listed, size_unlisted}
use Rattle.reader.proofs.layout.is_region_size.Goals as goal

pub returns-in-256 : goal.returns-in-256
returns-in-256 c = size_listed _ c.in-256.is

pub returns-in_default : goal.returns-in_default
returns-in_default c = size_unlisted _ (λ listed. omega arith)
