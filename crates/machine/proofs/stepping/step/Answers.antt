-- `machine::stepping::step` meets its contract: the step of the instruction that was fetched. Assumes nothing.
use Rattle.machine.proofs.Looping.{steps_fetched}
use Rattle.machine.proofs.stepping.step.Goals as goal

pub returns : goal.returns
returns c = steps_fetched c.args.indexed.now.module _ c.requires.inside _ c.fetch-instruction.ensures _ _ _ _ _ c.execute.ensures
