-- `machine::places::is_target` meets its contract: by what the lookup found. Assumes nothing.
use mathlib.Core.Path.{◌∙◌}
use Rattle.lookup.proofs.Listed.{found_some}
use Rattle.machine.proofs.Modules.{asked_of_found}
use Rattle.machine.proofs.places.is_target.Goals as goal

pub returns : goal.returns
returns c = c.is_some.ensures ∙ found_some c.args.indexed.now.module.targets.now _ ∙ asked_of_found c.args.indexed.now.module _ _ c.number_at.ensures _
