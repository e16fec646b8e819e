-- `verifier::rules::is_contained` meets its contract: by the two comparisons of raised ends. Assumes nothing.
use borrow.Author.Tests.{le-leb, lt-leb}
use native.Mathlib.Omega.{arith}
use Rattle.model.proofs.Containment.{few_bytes}
use Rattle.verifier.proofs.Zones.{two_tests}
use Rattle.verifier.proofs.rules.is_contained.Goals as goal

pub overflow_add-highest : goal.overflow_add-highest
overflow_add-highest c = record { fits = omega (arith, c.displaced_end.ensures.1, few_bytes c.args.width) }

pub returns-then-base-guard : goal.returns-then-base-guard
returns-then-base-guard c =
    rw (le-leb _ _ c.if-base-guard.true)
    at (two_tests c.args.module.now c.args.x c.args.width c.args.imm c.ranges.imm
    (record { is_lowest = c.displaced_end-lowest.ensures.0; is_highest = c.displaced_end.ensures.0; is_last = c.last_byte.ensures }))

pub returns-else-base-guard : goal.returns-else-base-guard
returns-else-base-guard c =
    rw (lt-leb _ _ c.if-base-guard.false) (rw (lt-leb _ _ c.if-base-guard.false)
    at (two_tests c.args.module.now c.args.x c.args.width c.args.imm c.ranges.imm
    (record { is_lowest = c.displaced_end-lowest.ensures.0; is_highest = c.displaced_end.ensures.0; is_last = c.last_byte.ensures })))
