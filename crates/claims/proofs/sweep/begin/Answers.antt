-- `claims::sweep::begin` meets its contract. The loop's invariant: the rows so far are begun. Assumes nothing.
use Rattle.std.proofs.Common.{arith}
use Rattle.claims.proofs.Filling.{fills, claim_begun, all_begun}
use Rattle.claims.proofs.sweep.begin.Goals as goal

pub loop-j-preserved : goal.loop-j-preserved
loop-j-preserved c = fills c.loop-j.invariant (omega arith) c.fresh.result
    (λ i indirect. cc (claim_begun c.is_indirect.result c.unknown.result, c.fresh.ensures i indirect))

pub returns : goal.returns
returns c l code n loaded = all_begun loaded c.loop-j.auto.rows c.loop-j-test.false c.loop-j.invariant
