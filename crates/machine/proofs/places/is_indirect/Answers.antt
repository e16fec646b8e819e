-- `machine::places::is_indirect` meets its contract: by the kind of what the lookup found. Assumes nothing.
use Rattle.std.proofs.Common.{rules}
use mathlib.Core.Path.{◌∙◌}
use Rattle.machine.proofs.Going.{found_indirect}
use Rattle.machine.proofs.Modules.{asked_of_found}
use Rattle.machine.proofs.places.is_indirect.Goals as goal

pub returns : goal.returns
returns c = found_indirect c.args.indexed.now.module.targets.now _ _ _ c.is_some_and.ensures (λ j asked. search rules)
    ∙ asked_of_found c.args.indexed.now.module _ _ c.number_at.ensures _
