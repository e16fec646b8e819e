-- `machine::operations::assign` meets its contract: by where the step goes. Assumes nothing.
use Rattle.std.proofs.Common.{rules, ◌≡◌, Err}
use Rattle.machine.proofs.Settling.{onward_changed, onward_stays}
use Rattle.machine.proofs.operations.assign.Goals as goal

pub returns-in_err-next : goal.returns-in_err-next
returns-in_err-next c = let same : c.from_residual.result ≡ Err c.in_err-next.field-0.0 = search rules in
    λ bs. rw same (onward_stays _ _ bs _ bs _ c.onward.ensures c.in_err-next.was)

pub returns : goal.returns
returns c = λ bs. rw c.put.ensures (onward_changed _ _ bs _ bs _ c.onward.ensures c.in_ok-next.was)
