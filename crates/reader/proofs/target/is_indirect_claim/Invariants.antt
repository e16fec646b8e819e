-- `reader::target::is_indirect_claim` meets its contract. The loop's invariant: every register so far passes. Assumes nothing.
use mathlib.Core.Bool.{true}
use mathlib.Core.Path.{◌≡◌}
use Rattle.model.specs.Quantifiers.{all_below}
use Rattle.reader.proofs.Targets.{anything_at}
use Rattle.reader.proofs.target.is_indirect_claim.Given as goal

abbrev pub invariant-loop-r : goal.invariant-loop-r
invariant-loop-r l = all_below l.r (anything_at l.lows l.highs) ≡ true
