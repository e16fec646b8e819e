-- Every rule of document 01, and 17 of document 02, stated rule by rule: what a module keeps where `first_broken` names no fault, and
-- what a run asks for.
-- Assumes nothing.
use Rattle.std.specs.Prelude.{ℕ, suc, ◌+◌, ◌-◌, ◌*◌, ◌^◌, ◌≤◌, ◌<◌, ◌≡◌, true, false, List, ℤ, pos, ◌+ℤ◌, ◌≤ℤ◌, length, Option, Some}
use Rattle.model.specs.declared.Instruction.{Instruction}
use Rattle.model.specs.declared.Layout.{Layout}
use Rattle.model.specs.declared.Limits.{Limits}
use Rattle.model.specs.declared.Machine.{Machine}
use Rattle.model.specs.declared.Range.{Range}
use Rattle.model.specs.declared.Ranges.{Ranges}
use Rattle.model.specs.declared.Target.{Target}
use Rattle.model.specs.declared.Width.{Width}
use Rattle.model.specs.Words.{modulus}
use Rattle.model.specs.Ranges.{low, high, range_of}
use Rattle.model.specs.Program.{Program, target_at, is_target}
use Rattle.model.specs.Instructions.{bytes_of, Access}
use Rattle.model.specs.File.{byte_at, field_length, value_at, field_end, most_instructions, most_targets, code_start, targets_at, code_in, targets_in, instruction_count, target_count, layout_in, instruction_in, TargetRow, target_row_in, indirect_claim, program_in}
use Rattle.model.specs.Judgement.{traits_at, known_at, next_ranges, taken_ranges, checked_before}

-- 1, 2, 3: a field stands whole at its offset, with its tag and a length that is listed
pub record FieldKept (file : List ℕ) (at tag : ℕ) (Listed : ℕ → Type 0) : Type 0 where
  pub header : value_at at ≤ length file
  pub tagged : byte_at file at ≡ tag
  pub listed : Listed (field_length file at)
  pub value : field_end file at ≤ length file

-- "length 8n", "n from 1 to 4,096": unit bytes each, from one to most of them
abbrev pub SomeOf : ℕ → ℕ → ℕ → Type 0
SomeOf unit most len = (n : ℕ) × (1 ≤ n) × (n ≤ most) × (len ≡ unit * n)

-- 5
pub record LayoutKept (l : Layout) : Type 0 where
  pub power : (k : ℕ) × (8 ≤ k) × (k ≤ 16) × (l.size ≡ 2 ^ k)
  pub guard : l.guard ≤ 4096
  pub aligned : (q : ℕ) × (l.base ≡ q * l.size)
  pub below : l.guard ≤ l.base
  pub above : l.base + l.size + l.guard ≤ modulus

-- 6: what stands at an index decodes to an instruction
abbrev pub InstructionKept : Option Instruction → Type 0
InstructionKept decodes = (x : Instruction) × (decodes ≡ Some x)

-- 7 but for the order of a claim's ends, in a module of n instructions
pub record TargetPlaced (n : ℕ) (target : ℕ → TargetRow) (j : ℕ) : Type 0 where
  pub inside : (target j).index < n
  pub kind : (target j).kind < 2
  pub zero_byte : (target j).zero_byte ≡ 0
  pub indirect : (target j).kind ≡ 1 → (r : ℕ) → r < 8
      → (low (target j).claim r ≡ low indirect_claim r) × (high (target j).claim r ≡ high indirect_claim r)
  pub first : j ≡ 0 → ((target 0).index ≡ 0) × ((target 0).kind ≡ 1)
  pub rising : (i : ℕ) → j ≡ suc i → (target i).index < (target (suc i)).index

-- 7
pub record TargetKept (n : ℕ) (target : ℕ → TargetRow) (j : ℕ) : Type 0 where
  pub placed : TargetPlaced n target j
  pub ordered : (r : ℕ) → r < 8 → low (target j).claim r ≤ high (target j).claim r

-- 5 and 6, and of each target what is given: the layout, every instruction of the code and every target
pub record ModuleHolds (Good : ℕ → (ℕ → TargetRow) → ℕ → Type 0) (l : Layout) (code targets : List ℕ) : Type 0 where
  pub layout : LayoutKept l
  pub each_instruction : (i : ℕ) → i < instruction_count code → InstructionKept (instruction_in code i)
  pub each_target : (j : ℕ) → j < target_count targets → Good (instruction_count code) (target_row_in targets) j

-- 5, 6 and 7; and these but for the order of claims' ends
abbrev pub ModuleKept : Layout → List ℕ → List ℕ → Type 0
ModuleKept = ModuleHolds TargetKept

abbrev pub ModulePlaced : Layout → List ℕ → List ℕ → Type 0
ModulePlaced = ModuleHolds TargetPlaced

-- 12: after an instruction that does not go on to the next index there is a target
abbrev pub Reachable : Program → ℕ → Type 0
Reachable p i = (j : ℕ) → i ≡ suc j → (traits_at p j).falls ≡ false → is_target p.targets (suc j) ≡ true

-- 9: a jumpr is no target, and a check of its register stands just before it
abbrev pub Checked : Program → ℕ → Type 0
Checked p i = (a : ℕ) → (traits_at p i).goes_by ≡ Some a → (checked_before p i ≡ Some a) × (is_target p.targets i ≡ false)

-- 10: an access stays in the region and its guard zones, whatever the pointer holds of its range
pub record Contained (l : Layout) (x : Range) (w : Width) (imm : ℤ) : Type 0 where
  pub lowest : pos (l.base - l.guard) ≤ℤ (pos x.low +ℤ imm)
  pub highest : (pos x.high +ℤ imm +ℤ pos (bytes_of w - 1)) ≤ℤ pos (l.base + l.size - 1 + l.guard)

abbrev pub Allowed : Layout → Ranges → Access → Type 0
Allowed l k ac = Contained l (range_of k ac.pointer) ac.width ac.displacement

abbrev pub AccessContained : Program → ℕ → Type 0
AccessContained p i = (ac : Access) → (traits_at p i).access ≡ Some ac → Allowed p.layout (known_at p i) ac

-- 8: the index that a jump or branch names is a target
abbrev pub JumpsToTarget : Program → ℕ → Type 0
JumpsToTarget p i = (to : ℕ) → (traits_at p i).names ≡ Some to → is_target p.targets to ≡ true

-- 13: the last instruction does not go on to the next index
abbrev pub StaysInside : Program → ℕ → Type 0
StaysInside p i = (traits_at p i).falls ≡ true → i + 1 ≡ length p.code → ⊥

-- 11: along an edge that ends at a target, every range lies within its claim
abbrev pub LiesWithin : Ranges → Ranges → Type 0
LiesWithin k claim = (r : ℕ) → r < 8 → (low claim r ≤ low k r) × (high k r ≤ high claim r)

abbrev pub TakenKept : Program → ℕ → Type 0
TakenKept p i = (to : ℕ) → (traits_at p i).names ≡ Some to → (t : Target) → target_at p.targets to ≡ Some t
    → LiesWithin (taken_ranges p i) t.claim

abbrev pub NextKept : Program → ℕ → Type 0
NextKept p i = (traits_at p i).falls ≡ true → (t : Target) → target_at p.targets (i + 1) ≡ Some t
    → LiesWithin (next_ranges p i) t.claim

-- rules 8 to 13 at an index
pub record IndexKept (p : Program) (i : ℕ) : Type 0 where
  pub reachable : Reachable p i
  pub checked : Checked p i
  pub contained : AccessContained p i
  pub to_target : JumpsToTarget p i
  pub inside : StaysInside p i
  pub taken : TakenKept p i
  pub next : NextKept p i

-- rules 1 to 6, over every field and instruction, and of each target what is given
pub record FileHolds (Good : ℕ → (ℕ → TargetRow) → ℕ → Type 0) (file : List ℕ) : Type 0 where
  pub layout_field : FieldKept file 0 1 (λ n. n ≡ 12)
  pub code_field : FieldKept file code_start 2 (SomeOf 8 most_instructions)
  pub targets_field : FieldKept file (targets_at file) 3 (SomeOf 68 most_targets)
  pub no_tail : length file ≡ field_end file (targets_at file)
  pub holds : ModuleHolds Good (layout_in file) (code_in file) (targets_in file)

-- rules 1 to 7
abbrev pub FileKept : List ℕ → Type 0
FileKept = FileHolds TargetKept

-- document 02, ticket 3: "before sweeping 1 to 6 apply, and 7 except for inner claims"
abbrev pub FilePlaced : List ℕ → Type 0
FilePlaced = FileHolds TargetPlaced

-- 17: neither limit is passed, by n instructions or k targets
pub record WithinLimits (limits : Limits) (n k : ℕ) : Type 0 where
  pub instructions : n ≤ limits.instructions
  pub targets : k ≤ limits.targets

abbrev pub HeldBy : Limits → List ℕ → Type 0
HeldBy limits file = WithinLimits limits (instruction_count (code_in file)) (target_count (targets_in file))

-- every rule, and so over every edge too, and the device's limits
pub record KeepsEveryRule (limits : Limits) (file : List ℕ) : Type 0 where
  pub file_rules : FileKept file
  pub held : HeldBy limits file
  pub code_rules : (i : ℕ) → i < length (program_in file).code → IndexKept (program_in file) i

-- 14 and 15, beside 1 to 7 and 17: what a run asks for
pub record Runnable (limits : Limits) (file : List ℕ) (m : Machine) (memory : List ℕ) (offset : ℕ) : Type 0 where
  pub file_rules : FileKept file
  pub held : HeldBy limits file
  pub pc_inside : m.pc < instruction_count (code_in file)
  pub fits : offset + (layout_in file).size ≤ length memory
