-- `reader::target::kind_of` meets its contract: the kind is the third byte from the target's start. Assumes nothing.
use Prim.Native.Nat.{ℕ, ◌+◌}
use mathlib.Core.Path.{ap, ◌∙◌}
use lib.ListN.{get_or}
use Rattle.reader.proofs.target.kind_of.Goals as goal

pub returns : goal.returns
returns c = c.byte_at.ensures ∙ ap (λ (at : ℕ). get_or c.args.targets.now (at + 2) 0) c.target_start.ensures.0
