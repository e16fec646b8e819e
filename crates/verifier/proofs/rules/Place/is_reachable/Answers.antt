-- `verifier::rules::Place::is_reachable` meets its contract: by the two tests. Assumes nothing.
use mathlib.Core.Path.{◌∙◌}
use Rattle.verifier.proofs.ByRule.{reachable_is}
use Rattle.verifier.proofs.rules.Place.is_reachable.Goals as goal

pub returns-then-self : goal.returns-then-self
returns-then-self c = c.if-self.true ∙ reachable_is c.args.self.now c.if-self.true

pub returns-else-self : goal.returns-else-self
returns-else-self c = reachable_is c.args.self.now c.if-self.false
