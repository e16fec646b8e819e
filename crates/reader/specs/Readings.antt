-- What the reader answers of a whole file, in the model's terms. Assumes nothing.
use Rattle.std.specs.Prelude.{ℕ, Bool, true, false, List, Result, Ok, Err, Option, None, Some}
use Rattle.std.specs.Borrow.{Bor}
use Rattle.model.specs.declared.Layout.{Layout}
use Rattle.model.specs.declared.Limits.{Limits}
use Rattle.model.specs.Obligations.{Fault, first_fault}
use Rattle.model.specs.Answers.{fault_of}
use Rattle.model.specs.File.{code_start, targets_at, code_in, targets_in, instruction_count, target_count, layout_in, TargetRow, is_placed_target, is_good_target, readable_by, program_of}
use Rattle.model.specs.Limits.{loadable_by}
use Rattle.model.specs.Program.{Program}
use Rattle.model.specs.declared.Refusal.{Refusal}
use Rattle.reader.specs.declared.module.Module.{Module}
use Rattle.reader.specs.Fields.{ValuePart}

-- layout and counts, or the first of refusals 1 to 7, on a device also 17
pub data ReadReport : Type 0 where
  holds : Layout → ℕ → ℕ → ReadReport
  refused : Fault → ReadReport

abbrev pub read_report : List ℕ → Option Fault → ReadReport
read_report file None = holds (layout_in file) (instruction_count (code_in file)) (target_count (targets_in file))
read_report file (Some f) = refused f

-- what is asked of a target: all of rule 7, or all but the order of claims' ends
abbrev pub asked : Bool → ℕ → (ℕ → TargetRow) → ℕ → Bool
asked true = is_good_target
asked false = is_placed_target

unfoldable pub reading_by : Bool → List ℕ → ReadReport
reading_by claims file = read_report file (first_fault (readable_by (asked claims) file))

abbrev pub reading : List ℕ → ReadReport
reading = reading_by true

-- and by a device
unfoldable pub loading_by : Bool → Limits → List ℕ → ReadReport
loading_by claims limits file = read_report file (first_fault (loadable_by (asked claims) limits file))

abbrev pub loading : Limits → List ℕ → ReadReport
loading = loading_by true

unfoldable pub reading_of : Result Module Refusal → ReadReport
reading_of (Ok m) = holds m.layout m.held.instructions m.held.targets
reading_of (Err r) = refused (fault_of r)

-- the module in the model's terms
abbrev pub program : Module → Program
program m = program_of m.layout m.code.now m.targets.now

-- the code and the targets of a module are the values of the file's second and third field
pub record PartsOf (file : Bor (List ℕ)) (m : Module) : Type 0 where
  pub code : ValuePart file m.code code_start 2
  pub targets : ValuePart file m.targets (targets_at file.now) 3
