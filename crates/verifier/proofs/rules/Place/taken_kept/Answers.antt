-- `verifier::rules::Place::taken_kept` meets its contract: by the claim of the target that is named, if there is one. Assumes nothing.
use mathlib.Core.Path.{ap, ◌∙◌}
use Rattle.model.specs.Ranges.{lies_within}
use Rattle.model.specs.File.{claim_in}
use Rattle.verifier.proofs.ByRule.{taken_is}
use Rattle.verifier.proofs.rules.Place.taken_kept.Goals as goal

pub returns-in-Some : goal.returns-in-Some
returns-in-Some c =
    c.meets_claim.ensures
    ∙ ap (λ k. lies_within k (claim_in c.args.self.now.within.now.targets.now c.in-Some.number)) c.after_taken-taken.ensures
    ∙ taken_is c.args.self.now c.in-Some.is

pub returns-in-None : goal.returns-in-None
returns-in-None c = taken_is c.args.self.now c.in-None.is
