-- `machine::value::run` meets its contract: the run, or the refusal with the machine as it was. Assumes nothing.
use Rattle.machine.specs.Core.{outcome_of}
use Rattle.machine.proofs.value.run.Goals as goal

pub returns-in-Ok : goal.returns-in-Ok
unfolding outcome_of
returns-in-Ok c = rw c.in-Ok.is at c.run_if_kept.ensures

pub returns-in-Err : goal.returns-in-Err
unfolding outcome_of
returns-in-Err c = rw c.in-Err.is at c.run_if_kept.ensures
