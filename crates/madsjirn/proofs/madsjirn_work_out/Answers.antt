-- `madsjirn::madsjirn_work_out` meets its contract: the numbers of the verdict, and the file as it was left. Assumes nothing.
use Rattle.std.proofs.Common.{ap, ◌∙◌}
use Rattle.model.specs.Claims.{Answered}
use Rattle.madsjirn.specs.Numbers.{verdict_numbers}
use Rattle.madsjirn.proofs.madsjirn_work_out.Goals as goal

pub returns : goal.returns
returns c = record {
  numbers = c.from.ensures ∙ ap (λ (a : Answered). verdict_numbers a.judgement) c.work_out.ensures;
  file_is = ap (λ (a : Answered). a.bytes) c.work_out.ensures;
}
