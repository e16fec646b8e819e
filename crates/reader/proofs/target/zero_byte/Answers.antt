-- `reader::target::zero_byte` meets its contract: it is the fourth byte from the target's start. Assumes nothing.
use Prim.Native.Nat.{ℕ, ◌+◌}
use mathlib.Core.Path.{ap, ◌∙◌}
use lib.ListN.{get_or}
use Rattle.reader.proofs.target.zero_byte.Goals as goal

pub returns : goal.returns
returns c = c.byte_at.ensures ∙ ap (λ (at : ℕ). get_or c.args.targets.now (at + 3) 0) c.target_start.ensures.0
