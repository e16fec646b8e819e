-- `verifier::rules::Place::is_checked` meets its contract: no jumpr is checked at a target, and elsewhere what stands before it decides.
-- Assumes nothing.
use mathlib.Core.Path.{refl, ◌∙◌}
use Rattle.model.specs.Instructions.{shape}
use Rattle.verifier.proofs.ByKind.{others_go_by_nothing}
use Rattle.verifier.proofs.ByRule.{checked_is}
use Rattle.verifier.proofs.rules.Place.is_checked.Goals as goal

pub returns-then-not-self : goal.returns-then-not-self
unfolding shape
returns-then-not-self c = c.checked_before.ensures ∙ (rw c.if-not-self.true at (checked_is c.args.self.now c.in-Jumpr.is))

pub returns-else-not-self : goal.returns-else-not-self
unfolding shape
returns-else-not-self c = rw c.if-not-self.false (rw c.if-not-self.false at (checked_is c.args.self.now c.in-Jumpr.is))

pub returns-in_default : goal.returns-in_default
returns-in_default c = rw (others_go_by_nothing _ c.in_default.not-Jumpr) at (checked_is c.args.self.now refl)
