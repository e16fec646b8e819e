-- Demand 2 for the verdict: a file is accepted exactly if it keeps every rule, and a refusal names the first rule broken, in the
-- listed order. Assumes nothing.
use Prim.Native.Nat.{ℕ, ◌≤◌, ◌<◌}
use mathlib.Core.Path.{◌≡◌, refl}
use mathlib.Core.Bool.{Bool, true, false, ◌&&◌}
use mathlib.Core.Logic.Iff
use mathlib.Core.Logic.{◌↔◌}
use mathlib.Core.List.{List, []}
use Rattle.std.specs.Prelude.{Option, None, Some}
use native.Mathlib.Omega.{arith}
use lib.Dec.{leb}
use lib.ListN.{length}
use Rattle.model.specs.declared.Instruction.{Instruction}
use Rattle.model.specs.declared.Layout.{Layout}
use Rattle.model.specs.declared.Limits.{Limits}
use Rattle.model.specs.declared.Machine.{Machine}
use Rattle.model.specs.Obligations.{Fault, fault, first_fault, AllMet, FirstUnmet}
use Rattle.model.specs.Program.{Program}
use Rattle.model.specs.File.{most_instructions, most_targets, is_listed, field, code_start, targets_at, code_in, targets_in, instruction_count, target_count, layout_in, instruction_in, TargetRow, target_row_in, instruction_rules, target_rules, table_rules, module_rules, is_placed_target, readable_by, readable, program_in}
use Rattle.model.specs.Limits.{limit_rules, loadable_by, loadable, sweepable}
use Rattle.model.specs.Judgement.{at_index, verified, obligations, first_broken}
use Rattle.model.specs.Rules.{FieldKept, SomeOf, LayoutKept, InstructionKept, ModuleHolds, FileHolds, FileKept, FilePlaced, WithinLimits, HeldBy, IndexKept, KeepsEveryRule, Runnable}
use Rattle.model.specs.Run.{runnable}
use Rattle.model.proofs.Obligations.{none_iff_met, first_unmet, append_met, append_fault, each_met, each_one}
use Rattle.model.proofs.Faults.{head_unmet, one_met}
use Rattle.model.proofs.Reflection.{Reflects, le_reflects, lt_reflects, eq_reflects, and_reflects, multiple_reflects}
use Rattle.model.proofs.FileRules.{field_kept, layout_reflects, instruction_reflects, placed_reflects, target_reflects}
use Rattle.model.proofs.CodeRules.{index_kept}

-- what is asked of a target is met exactly if a rule is kept
abbrev pub Judges : (ℕ → (ℕ → TargetRow) → ℕ → Bool) → (ℕ → (ℕ → TargetRow) → ℕ → Type 0) → Type 0
Judges good Good = (n : ℕ) (target : ℕ → TargetRow) (j : ℕ) → Reflects (good n target j) (Good n target j)

-- rules 5 and 6, and of each target what is given, wherever instructions and targets stand; and so in a module
pub record TablesHold (Good : ℕ → (ℕ → TargetRow) → ℕ → Type 0) (l : Layout) (n : ℕ) (decodes : ℕ → Option Instruction) (k : ℕ)
    (target : ℕ → TargetRow) : Type 0 where
  pub layout : LayoutKept l
  pub each_instruction : (i : ℕ) → i < n → InstructionKept (decodes i)
  pub each_target : (j : ℕ) → j < k → Good n target j

pub module_tables : (Good : ℕ → (ℕ → TargetRow) → ℕ → Type 0) (l : Layout) (code targets : List ℕ)
    → ModuleHolds Good l code targets
    ↔ TablesHold Good l (instruction_count code) (instruction_in code) (target_count targets) (target_row_in targets)
module_tables Good l code targets = (
  λ h. record { layout = h.layout; each_instruction = h.each_instruction; each_target = h.each_target },
  λ h. record { layout = h.layout; each_instruction = h.each_instruction; each_target = h.each_target },
)

-- 17
pub limits_iff : (limits : Limits) (n k : ℕ) → (first_fault (limit_rules limits n k) ≡ None) ↔ WithinLimits limits n k
unfolding limit_rules
limits_iff limits n k =
    Iff.trans (none_iff_met _) (
      λ h. let both = within.0 h.0 in record { instructions = both.0; targets = both.1 },
      λ w. (within.1 (w.instructions, w.targets), tt),
    )
  where
    within : Reflects (leb n limits.instructions && leb k limits.targets) ((n ≤ limits.instructions) × (k ≤ limits.targets))
    within = and_reflects (le_reflects n limits.instructions) (le_reflects k limits.targets)

untrue : (b : Bool) → (b ≡ true → ⊥) → b ≡ false
untrue true never = absurd (never refl)
untrue false never = refl

-- where a limit is passed it is named
pub limits_over : (limits : Limits) (n k : ℕ) → (WithinLimits limits n k → ⊥) → first_fault (limit_rules limits n k) ≡ Some (fault 17 0)
unfolding limit_rules
limits_over limits n k over = head_unmet _ [] (untrue _ (λ met. over ((limits_iff limits n k).0 (one_met _ met))))

module _ {good : ℕ → (ℕ → TargetRow) → ℕ → Bool} {Good : ℕ → (ℕ → TargetRow) → ℕ → Type 0} (judges : Judges good Good) where
  -- rules 5 and 6, and that one
  pub tables_iff : (l : Layout) (n : ℕ) (decodes : ℕ → Option Instruction) (k : ℕ) (target : ℕ → TargetRow)
      → AllMet (table_rules good l n decodes k target) ↔ TablesHold Good l n decodes k target
  tables_iff l n decodes k target = (
    λ h.
        let tables = (append_met (instruction_rules n decodes) _).0 h.1 in
        record {
          layout = (layout_reflects l).0 h.0;
          each_instruction = instructions_part.0 tables.0;
          each_target = targets_part.0 tables.1;
        },
    λ holds. (
      (layout_reflects l).1 holds.layout,
      (append_met (instruction_rules n decodes) _).1 (instructions_part.1 holds.each_instruction, targets_part.1 holds.each_target),
    ),
  )
    where
      instructions_part : AllMet (instruction_rules n decodes) ↔ ((i : ℕ) → i < n → InstructionKept (decodes i))
      instructions_part = each_one n 6 (λ i. instruction_reflects (decodes i))

      targets_part : AllMet (target_rules k (good n target)) ↔ ((j : ℕ) → j < k → Good n target j)
      targets_part = each_one k 7 (judges n target)

  module_iff : (l : Layout) (code targets : List ℕ) → AllMet (module_rules good l code targets) ↔ ModuleHolds Good l code targets
  module_iff l code targets =
      Iff.trans (tables_iff l (instruction_count code) (instruction_in code) (target_count targets) (target_row_in targets))
      (Iff.symm (module_tables Good l code targets))

  -- rules 1 to 4 besides
  pub holds_iff : (file : List ℕ) → (first_fault (readable_by good file) ≡ None) ↔ FileHolds Good file
  unfolding readable_by is_listed
  holds_iff file = Iff.trans (none_iff_met (readable_by good file)) (λ h. kept h, λ k. met k)
    where
      layout_part : AllMet (field file 0 1) ↔ FieldKept file 0 1 (λ n. n ≡ 12)
      layout_part = field_kept file 0 1 (λ n. eq_reflects n 12)

      code_part : AllMet (field file code_start 2) ↔ FieldKept file code_start 2 (SomeOf 8 most_instructions)
      code_part = field_kept file code_start 2 (λ n. multiple_reflects 8 most_instructions n (omega arith))

      targets_part : AllMet (field file (targets_at file) 3) ↔ FieldKept file (targets_at file) 3 (SomeOf 68 most_targets)
      targets_part = field_kept file (targets_at file) 3 (λ n. multiple_reflects 68 most_targets n (omega arith))

      kept : AllMet (readable_by good file) → FileHolds Good file
      kept h =
          let fields = (append_met (field file 0 1) _).0 h in
          let later = (append_met (field file code_start 2) _).0 fields.1 in
          let last = (append_met (field file (targets_at file) 3) _).0 later.1 in
          record {
            layout_field = layout_part.0 fields.0;
            code_field = code_part.0 later.0;
            targets_field = targets_part.0 last.0;
            no_tail = (eq_reflects _ _).0 last.1.0;
            holds = (module_iff (layout_in file) (code_in file) (targets_in file)).0 last.1.1;
          }

      met : FileHolds Good file → AllMet (readable_by good file)
      met k =
          (append_met (field file 0 1) _).1 (
            layout_part.1 k.layout_field,
            (append_met (field file code_start 2) _).1 (
              code_part.1 k.code_field,
              (append_met (field file (targets_at file) 3) _).1 (
                targets_part.1 k.targets_field,
                ((eq_reflects _ _).1 k.no_tail, (module_iff (layout_in file) (code_in file) (targets_in file)).1 k.holds),
              ),
            ),
          )

  -- and on a device, 17
  pub loadable_iff : (limits : Limits) (file : List ℕ) → (first_fault (loadable_by good limits file) ≡ None) ↔ (FileHolds Good file × HeldBy limits file)
  unfolding loadable_by
  loadable_iff limits file =
      Iff.trans (append_fault (readable_by good file) _) (
        λ h. ((holds_iff file).0 h.0, (limits_iff limits _ _).0 h.1),
        λ k. ((holds_iff file).1 k.0, (limits_iff limits _ _).1 k.1),
      )

-- rules 1 to 7
pub readable_iff : (file : List ℕ) → (first_fault (readable file) ≡ None) ↔ FileKept file
readable_iff = holds_iff target_reflects

-- and these but for the order of claims' ends
pub placed_iff : (file : List ℕ) → (first_fault (readable_by is_placed_target file) ≡ None) ↔ FilePlaced file
placed_iff = holds_iff placed_reflects

-- either, and 17
pub kept_iff : (limits : Limits) (file : List ℕ) → (first_fault (loadable limits file) ≡ None) ↔ (FileKept file × HeldBy limits file)
kept_iff = loadable_iff target_reflects

pub sweepable_iff : (limits : Limits) (file : List ℕ) → (first_fault (sweepable limits file) ≡ None) ↔ (FilePlaced file × HeldBy limits file)
sweepable_iff = loadable_iff placed_reflects

-- rules 8 to 13
pub verified_iff : (p : Program) → AllMet (verified p) ↔ ((i : ℕ) → i < length p.code → IndexKept p i)
unfolding verified
verified_iff p = (
  λ h i below. (index_kept p i).0 ((each_met 0 (length p.code) (at_index p)).0 h i (omega arith) (omega arith)),
  λ k. (each_met 0 (length p.code) (at_index p)).1 (λ i from below. (index_kept p i).1 (k i (omega arith))),
)

-- accepted exactly if every rule is kept
pub accepted_iff : (limits : Limits) (file : List ℕ) → (first_broken limits file ≡ None) ↔ KeepsEveryRule limits file
unfolding first_broken obligations
accepted_iff limits file =
    Iff.trans (append_fault (loadable limits file) (verified (program_in file))) (
      λ h. record {
        file_rules = ((kept_iff limits file).0 h.0).0;
        held = ((kept_iff limits file).0 h.0).1;
        code_rules = (verified_iff (program_in file)).0 ((none_iff_met (verified (program_in file))).0 h.1);
      },
      λ k. ((kept_iff limits file).1 (k.file_rules, k.held), (none_iff_met (verified (program_in file))).1 ((verified_iff (program_in file)).1 k.code_rules)),
    )

-- a refusal is the first in the listed order: everything judged earlier passes, and it itself fails
pub refusal_first : (limits : Limits) (file : List ℕ) (f : Fault) → first_broken limits file ≡ Some f → FirstUnmet (obligations limits file) f
unfolding first_broken
refusal_first limits file f e = first_unmet (obligations limits file) f e

-- and so is the refusal of a run: 1 to 7, then 17, then 14, then 15
pub run_refusal_first : (limits : Limits) (file : List ℕ) (m : Machine) (memory : List ℕ) (offset : ℕ) (f : Fault)
    → first_fault (runnable limits file m memory offset) ≡ Some f → FirstUnmet (runnable limits file m memory offset) f
run_refusal_first limits file m memory offset f e = first_unmet (runnable limits file m memory offset) f e

-- a run is not refused exactly if it has what it asks for
pub runnable_iff : (limits : Limits) (file : List ℕ) (m : Machine) (memory : List ℕ) (offset : ℕ)
    → (first_fault (runnable limits file m memory offset) ≡ None) ↔ Runnable limits file m memory offset
unfolding runnable
runnable_iff limits file m memory offset =
    Iff.trans (append_fault (loadable limits file) _) (
      λ h.
          let last = (none_iff_met _).0 h.1 in
          record {
            file_rules = ((kept_iff limits file).0 h.0).0;
            held = ((kept_iff limits file).0 h.0).1;
            pc_inside = (lt_reflects _ _).0 last.0;
            fits = (le_reflects _ _).0 last.1.0;
          },
      λ k. ((kept_iff limits file).1 (k.file_rules, k.held), (none_iff_met _).1 ((lt_reflects _ _).1 k.pc_inside, ((le_reflects _ _).1 k.fits, tt))),
    )
