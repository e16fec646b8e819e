-- `verifier::rules::next_kept` meets its contract: by whether the instruction goes on, and the claim of the target there, if one is.
-- Assumes nothing.
use mathlib.Core.Path.{ap, ◌∙◌}
use mathlib.Core.Bool.{not}
use Rattle.std.proofs.Common.{rules}
use Rattle.reader.specs.Readings.{program}
use Rattle.verifier.proofs.ByRule.{kept_or_none, next_is}
use Rattle.verifier.proofs.rules.next_kept.Goals as goal

pub returns-then-not-falls : goal.returns-then-not-falls
returns-then-not-falls c = λ i is_falls is_next is_there.
    ap not c.if-not-falls.true
    ∙ (rw c.if-not-falls.true at (next_is (program c.args.module.now) i is_falls is_next c.args.module.now.targets.now c.args.there is_there))

pub returns-else-not-falls : goal.returns-else-not-falls
returns-else-not-falls c = λ i is_falls is_next is_there.
    kept_or_none c.args.there _ c.is_none_or.ensures (λ j post. search rules)
    ∙ (rw c.if-not-falls.false at (next_is (program c.args.module.now) i is_falls is_next c.args.module.now.targets.now c.args.there is_there))
