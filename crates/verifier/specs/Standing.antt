-- What the verifier is given at an index, in the model's terms. Assumes nothing.
use Rattle.std.specs.Prelude.{ℕ, zero, suc, ◌<◌, ◌≡◌, Bool, true, List, pos, ◌+ℤ◌, option_and_then, Option, None, Some}
use Rattle.std.proofs.Math.IntN.{sub_ℕ}
use Rattle.model.specs.declared.Instruction.{Instruction}
use Rattle.model.specs.declared.Layout.{Layout}
use Rattle.model.specs.declared.Range.{Range}
use Rattle.model.specs.declared.Ranges.{Ranges}
use Rattle.model.specs.declared.Target.{Target}
use Rattle.model.specs.Words.{wrap}
use Rattle.model.specs.Ranges.{range}
use Rattle.model.specs.Program.{Program, code_at, target_at, is_target}
use Rattle.model.specs.Lookup.{number_at}
use Rattle.model.specs.Judgement.{traits_at, starting_ranges, known_at, next_ranges}
use Rattle.reader.specs.Readings.{program}
use Rattle.reader.specs.declared.module.Module.{Module}

-- "DB = base to DL = base + size − 1", in machine arithmetic: of a layout that rule 5 refuses the end wraps
abbrev pub wrapped_region : Layout → Range
wrapped_region l = range l.base (wrap (pos l.base +ℤ pos (wrap (sub_ℕ l.size 1))))

-- the instruction before an index goes on to it, and what is known then; nothing stands before index 0
abbrev pub arrives_at : Program → ℕ → Bool
arrives_at p zero = true
arrives_at p (suc i) = (traits_at p i).falls

abbrev pub arriving_at : Program → ℕ → Ranges
arriving_at p zero = starting_ranges
arriving_at p (suc i) = next_ranges p i

-- the target at the index that is named, if any is
abbrev pub target_named : List Target → Option ℕ → Option Target
target_named ts None = None
target_named ts (Some to) = target_at ts to

-- what stands at an index is the module's there: whether the instruction before goes on to it, whether it is a target, the
-- instruction, the number of the target that it names, and what is known before it
pub record Standing (m : Module) (i : ℕ) (arrives marked : Bool) (x : Instruction) (named : Option ℕ) (known : Ranges) : Type 0 where
  pub below : i < m.held.instructions
  pub is_arrives : arrives ≡ arrives_at (program m) i
  pub is-marked : marked ≡ is_target (program m).targets i
  pub instruction_is : x ≡ code_at (program m) i
  pub is_named : named ≡ option_and_then (number_at (program m).targets) (traits_at (program m) i).names
  pub is_known : known ≡ known_at (program m) i
