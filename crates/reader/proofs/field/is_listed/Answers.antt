-- `reader::field::is_listed` meets its contract: the definition is read at the tag that the match found. Assumes nothing.
use native.Mathlib.Omega.{arith}
use Rattle.model.specs.File.{is_listed}
use Rattle.reader.proofs.Lengths.{none_listed}
use Rattle.reader.proofs.field.is_listed.Goals as goal

pub returns-in-1 : goal.returns-in-1
unfolding is_listed
returns-in-1 c = rw c.in-1.is

pub returns-in-2 : goal.returns-in-2
unfolding is_listed
returns-in-2 c = rw c.in-2.is c.is_multiple.ensures

pub returns-in-3 : goal.returns-in-3
unfolding is_listed
returns-in-3 c = rw c.in-3.is c.is_multiple-in-3.ensures

pub returns-in_default : goal.returns-in_default
returns-in_default c = none_listed _ _ (omega arith) (omega arith) (omega arith)
