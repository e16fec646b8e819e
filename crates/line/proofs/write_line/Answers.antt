-- `line::write_line` meets its contract: in each arm the line is that of the judgement which the verdict says. Assumes nothing.
use Rattle.std.proofs.Common.{ℕ, List, ◌∙◌, zero-add}
use Rattle.model.specs.Answers.{Judgement, fault_of, judgement_of}
use Rattle.model.specs.Line.{line_of, LinePost}
use Rattle.line.specs.Wrote.{Wrote}
use Rattle.line.proofs.write_line.Goals as goal

-- a line that was written at the start
from_start : {before after : List ℕ} {r : ℕ} (j : Judgement) → Wrote before after 0 (line_of j) r → LinePost j before after r
from_start j wrote = record { count = wrote.ends ∙ zero-add _; buffer = rw zero-add at wrote.buffer }

pub returns-in-Ok : goal.returns-in-Ok
unfolding judgement_of line_of
returns-in-Ok c = rw c.in-Ok.is (from_start _ c.put_line.ensures)

pub returns-in-Err : goal.returns-in-Err
unfolding judgement_of line_of fault_of
returns-in-Err c = rw c.in-Err.is (from_start _ (rw c.from.ensures at c.put_line-in-Err.ensures))
