-- `claims::sweep::arrive` meets its contract: by what stands at the edge's end. Assumes nothing.
use Rattle.claims.proofs.Arriving.{arrives_nowhere, arrives_covered, arrives_reached}
use Rattle.claims.proofs.sweep.arrive.Goals as goal

pub returns-then-is_covered : goal.returns-then-is_covered
returns-then-is_covered c to finds =
    arrives_covered c.args.targets.now c.args.rows.now c.args.ranges c.args.changed c.in-Some.number
    (rw c.is_indirect.ensures at c.is_covered.ensures) c.if-is_covered.true to (rw c.in-Some.is at finds)

pub returns : goal.returns
returns c to finds =
    arrives_reached c.args.targets.now c.args.rows.now c.args.ranges c.args.changed c.in-Some.number
    (rw c.is_indirect.ensures at c.is_covered.ensures) c.if-is_covered.false c.reach.result c.reach.ensures to (rw c.in-Some.is at finds)

pub returns-in_default : goal.returns-in_default
returns-in_default c to finds =
    arrives_nowhere c.args.targets.now c.args.rows.now c.args.ranges c.args.changed to (rw c.in_default.is at finds)
