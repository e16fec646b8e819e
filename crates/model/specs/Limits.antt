-- Document 02, ticket 8, "The scale plate loads modules too": what a device holds, and refusal 17. The rules below stand once, with the
-- limits open; box and plate are two of them. Assumes nothing.
use Rattle.std.specs.Prelude.{ℕ, Bool, ◌&&◌, List, [], ◌∷◌, ◌++◌, leb}
use Rattle.model.specs.declared.Limits.{Limits}
use Rattle.model.specs.Obligations.{Obligation, owes}
use Rattle.model.specs.File.{most_instructions, most_targets, code_in, targets_in, instruction_count, target_count, TargetRow, is_placed_target, is_good_target, readable_by}

-- "it holds only 512 instructions and 32 doors. Plate and box keep their own limits": the box's are those of a file, document 01's
-- "n from 1 to 4,096" and "k from 1 to 256"
abbrev pub box_limits : Limits
box_limits = record { instructions = most_instructions; targets = most_targets }

abbrev pub plate_limits : Limits
plate_limits = record { instructions = 512; targets = 32 }

-- "17 over plate, place 0, only for the plate, when either limit is passed", by a module of n instructions and k targets. The box's are
-- never passed (`BoxHoldsAll`, in Promises).
unfoldable pub limit_rules : Limits → ℕ → ℕ → List Obligation
limit_rules limits n k = owes 17 0 (leb n limits.instructions && leb k limits.targets) ∷ []

-- "it comes after 7 and before all later numbers and any sweep"; what is asked of a target is given
unfoldable pub loadable_by : (ℕ → (ℕ → TargetRow) → ℕ → Bool) → Limits → List ℕ → List Obligation
loadable_by good limits file =
    readable_by good file ++ limit_rules limits (instruction_count (code_in file)) (target_count (targets_in file))

-- refusals 1 to 7 and 17: what is judged of a file on a device before anything else
abbrev pub loadable : Limits → List ℕ → List Obligation
loadable = loadable_by is_good_target

-- and before any sweep. Document 02, ticket 3: "before sweeping 1 to 6 apply, and 7 except for inner claims". (An open door's claim is
-- in order anyway.)
abbrev pub sweepable : Limits → List ℕ → List Obligation
sweepable = loadable_by is_placed_target
