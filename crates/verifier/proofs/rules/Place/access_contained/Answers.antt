-- `verifier::rules::Place::access_contained` meets its contract: by the access of a load or store, and no other kind makes one.
-- Assumes nothing.
use mathlib.Core.Path.{refl, ◌∙◌}
use native.Mathlib.Omega.{arith}
use mir.Syntax.{w32}
use mir.ValLaws.{to_z-of_z}
use Rattle.model.specs.Instructions.{shape}
use Rattle.verifier.proofs.ByKind.{others_access_nothing}
use Rattle.verifier.proofs.ByRule.{contained_is}
use Rattle.verifier.proofs.rules.Place.access_contained.Goals as goal

pub returns-in-Load : goal.returns-in-Load
unfolding shape
returns-in-Load c = rw (to_z-of_z w32 c.in-Load.imm (record { sfits = omega arith }), c.width_read.ensures, c.range_of.ensures) at c.is_contained.ensures ∙ contained_is c.args.self.now c.in-Load.is

pub returns-in-Store : goal.returns-in-Store
unfolding shape
returns-in-Store c = rw (to_z-of_z w32 c.in-Store.imm (record { sfits = omega arith }), c.range_of-in-Store.ensures) at c.is_contained-in-Store.ensures ∙ contained_is c.args.self.now c.in-Store.is

pub returns-in_default : goal.returns-in_default
returns-in_default c = rw (others_access_nothing _ c.in_default.not-Load c.in_default.not-Store) at (contained_is c.args.self.now refl)
