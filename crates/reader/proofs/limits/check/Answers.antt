-- `reader::limits::check` meets its contract: either limit is passed, or neither. Assumes nothing.
use Rattle.std.proofs.Common.{arith, sym}
use Rattle.model.specs.Answers.{rule_number, fault_of}
use Rattle.model.proofs.Accepted.{limits_iff, limits_over}
use Rattle.reader.specs.Findings.{fault_in}
use Rattle.reader.proofs.limits.check.Goals.{then-limits-held-via-then-limits-held, then-limits-held-via-else-limits-held+then-limits-held-2}
use Rattle.reader.proofs.limits.check.Goals as goal

pub returns-then-limits-held : goal.returns-then-limits-held
unfolding fault_in fault_of rule_number
returns-then-limits-held c =
    rw c.at.ensures
    (sym (limits_over _ _ _ (λ within.
    elim c.then-limits-held.branch [
      | then-limits-held-via-then-limits-held w ↦ omega (arith, w.if-limits-held, within.instructions)
      | then-limits-held-via-else-limits-held+then-limits-held-2 w ↦ omega (arith, w.if-limits-held-2, within.targets)
    ])))

pub returns : goal.returns
unfolding fault_in
returns c =
    sym ((limits_iff _ _ _).1 (record {
      instructions = omega (arith, c.if-limits-held.false);
      targets = omega (arith, c.if-limits-held-2.false);
    }))
