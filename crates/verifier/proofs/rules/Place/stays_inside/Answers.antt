-- `verifier::rules::Place::stays_inside` meets its contract: by whether the instruction goes on. Assumes nothing.
use mathlib.Core.Path.{ap, ◌∙◌}
use mathlib.Core.Bool.{not}
use Rattle.verifier.proofs.ByRule.{inside_is}
use Rattle.verifier.proofs.rules.Place.stays_inside.Goals as goal
use Rattle.verifier.proofs.rules.Place.stays_inside.Goals.{then-falls, else-falls}

pub returns : goal.returns
returns c =
    elim c.if-falls.branch [
      | then-falls w ↦ ap not w.result-is ∙ (rw w.if-falls.true at (inside_is c.args.self.now c.falls.ensures))
      | else-falls w ↦ ap not (w.result-is ∙ w.if-falls.false) ∙ (rw w.if-falls.false at (inside_is c.args.self.now c.falls.ensures))
    ]
