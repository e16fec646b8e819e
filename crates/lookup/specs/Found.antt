-- A target found by its number, in the targets' bytes. Assumes nothing.
use Rattle.std.specs.Prelude.{ℕ, List, Option, None, Some}
use Rattle.model.specs.declared.Target.{Target}
use Rattle.model.specs.File.{target_in}

-- the target of the number that is found
unfoldable pub target_found : List ℕ → Option ℕ → Option Target
target_found targets (Some j) = Some (target_in targets j)
target_found targets None = None
