-- `claims::sweep::count_growth` meets its contract. The loop's invariant: the rows so far are counted. Assumes nothing.
use Rattle.std.proofs.Common.{ap, ◌∙◌, arith}
use Rattle.std.proofs.Math.Nat.{le_refl}
use Rattle.model.specs.Claims.{counted}
use Rattle.claims.specs.Rows.{entry_of}
use Rattle.claims.proofs.Filling.{fills, all_counted}
use Rattle.claims.proofs.sweep.count_growth.Goals as goal

pub loop-row-preserved : goal.loop-row-preserved
loop-row-preserved c = fills c.loop-row.invariant (omega arith) c.counted.result (λ i indirect. c.counted.ensures i indirect ∙ ap (λ r. counted (entry_of i indirect r)) (c.loop-row.invariant.left _ (le_refl _)))

pub returns : goal.returns
returns c = all_counted c.loop-row.auto.rows c.loop-row-test.false c.loop-row.invariant
