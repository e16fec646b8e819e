-- `verifier::rules::Place::jumps_to_target` meets its contract: by whether what is named was found, and no other kind names anything.
-- Assumes nothing.
use mathlib.Core.Path.{refl, ◌∙◌}
use mathlib.Core.Logic.{inl, inr}
use Rattle.model.specs.Instructions.{shape}
use Rattle.verifier.proofs.ByKind.{others_name_nothing}
use Rattle.verifier.proofs.ByRule.{jumps_is}
use Rattle.verifier.proofs.rules.Place.jumps_to_target.Goals as goal

pub returns-in-Jump : goal.returns-in-Jump
unfolding shape
returns-in-Jump c = c.is_some.ensures ∙ elim c.in-Jump.is [
  | inl jump ↦ jumps_is c.args.self.now jump.1
  | inr branch ↦ jumps_is c.args.self.now branch.4
]

pub returns-in_default : goal.returns-in_default
returns-in_default c = rw (others_name_nothing _ c.in_default.not-Jump c.in_default.not-Branch) at (jumps_is c.args.self.now refl)
