-- `reader::target::is_indirect_claim` meets its contract. The loop's invariant: every register so far passes. Assumes nothing.
use mathlib.Core.Path.{refl}
use Rattle.model.specs.Quantifiers.{all_below}
use Rattle.model.proofs.Loops.{all_fails, all_more, all_passed}
use Rattle.reader.proofs.Targets.{low_claimed, high_claimed, nothing_claimed}
use Rattle.reader.proofs.target.is_indirect_claim.Goals as goal
use Rattle.reader.proofs.target.is_indirect_claim.Goals.{then-lows-r-ne0-via-then-lows-r-ne0, then-lows-r-ne0-via-else-lows-r-ne0+then-highs-r}

pub loop-r-init : goal.loop-r-init
unfolding all_below
loop-r-init c = refl

pub returns-then-lows-r-ne0 : goal.returns-then-lows-r-ne0
returns-then-lows-r-ne0 c = let claim = c.args.claim in
    all_fails 8 _ _ c.loop-r-test.true
    (elim c.then-lows-r-ne0.branch [
      | then-lows-r-ne0-via-then-lows-r-ne0 w ↦ low_claimed claim.lows claim.highs _ c.loop-r-test.true w.if-lows-r-ne0.true
      | then-lows-r-ne0-via-else-lows-r-ne0+then-highs-r w ↦ high_claimed claim.lows claim.highs _ c.loop-r-test.true w.if-lows-r-ne0.false w.if-highs-r.true
    ])

pub loop-r-preserved : goal.loop-r-preserved
loop-r-preserved c = let claim = c.args.claim in
    all_more _ _ c.loop-r.invariant
    (nothing_claimed claim.lows claim.highs _ c.loop-r-test.true c.if-lows-r-ne0.false c.if-highs-r.false)

pub returns : goal.returns
returns c = all_passed 8 _ _ c.loop-r-test.false c.loop-r.invariant
