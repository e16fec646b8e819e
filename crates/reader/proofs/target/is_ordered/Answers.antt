-- `reader::target::is_ordered` meets its contract. The loop's invariant: every register so far passes. Assumes nothing.
use mathlib.Core.Path.{refl}
use borrow.Author.Tests.{le-leb, lt-leb}
use Rattle.model.specs.Quantifiers.{all_below}
use Rattle.model.proofs.Loops.{all_fails, all_more, all_passed}
use Rattle.reader.proofs.target.is_ordered.Goals as goal

pub loop-r-init : goal.loop-r-init
unfolding all_below
loop-r-init c = refl

pub returns-then-highs-r : goal.returns-then-highs-r
returns-then-highs-r c = all_fails 8 _ _ c.loop-r-test.true (lt-leb _ _ c.if-highs-r.true)

pub loop-r-preserved : goal.loop-r-preserved
loop-r-preserved c = all_more _ _ c.loop-r.invariant (le-leb _ _ c.if-highs-r.false)

pub returns : goal.returns
returns c = all_passed 8 _ _ c.loop-r-test.false c.loop-r.invariant
