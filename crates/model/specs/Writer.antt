-- Document 02, ticket 5, "Write the file": tables of layout, instructions and targets (doors), the file of them, and what the writer
-- answers and leaves. Assumes nothing.
use Rattle.std.specs.Prelude.{ℕ, ◌+◌, ◌*◌, ◌%◌, Bool, ◌&&◌, leb, eqb, length, get_or, drop, replicate, unwrap_or, Option, None, Some}
use mathlib.Core.List.{List, [], ◌∷◌, ◌++◌, map, flat_map}
use Rattle.model.specs.declared.Instruction.{Instruction}
use Rattle.model.specs.declared.Instruction.TheVariants.{Halt, Set, Copy, Add, Addi, Sub, Andi, Guard, Shr, Sar, Load, Store, Jump, Branch, Check, Jumpr}
use Rattle.model.specs.declared.Layout.{Layout}
use Rattle.model.specs.declared.Limits.{Limits}
use Rattle.model.specs.declared.LoadWidth.{LoadWidth}
use Rattle.model.specs.declared.LoadWidth.TheVariants.{Unsigned, SignedOne, SignedTwo}
use Rattle.model.specs.declared.Ranges.{Ranges}
use Rattle.model.specs.declared.Target.{Target}
use Rattle.model.specs.declared.Test.{Test}
use Rattle.model.specs.declared.Test.TheVariants.{Equal, Below, SignedBelow}
use Rattle.model.specs.Words.{modulus, wrap, low_bytes}
use Rattle.model.specs.Obligations.{Fault, Obligation, owes, first_fault}
use Rattle.model.specs.Answers.{Judgement, accepted, refused}
use Rattle.model.specs.Ranges.{low, high}
use Rattle.model.specs.Program.{Program}
use Rattle.model.specs.Instructions.{bytes_of}
use Rattle.model.specs.File.{value_at, most_instructions, most_targets, code_start, code_in, targets_in, instruction_count, target_count, layout_in, InstructionRow, decoded, row_in, tabulate, TargetRow, target_row_in, is_good_target, table_rules}
use Rattle.model.specs.Limits.{limit_rules}
use Rattle.model.specs.Judgement.{verified}

-- ---- "from layout, instructions and doors"

pub record Tables : Type 0 where
  pub layout : Layout
  pub instructions : List InstructionRow
  pub targets : List TargetRow

abbrev pub instruction_row : ℕ → ℕ → ℕ → ℕ → ℕ → InstructionRow
instruction_row op a b w imm = record { op = op; a = a; b = b; w = w; imm = imm }

abbrev pub target_row : ℕ → ℕ → ℕ → Ranges → TargetRow
target_row index kind zero_byte claim = record { index = index; kind = kind; zero_byte = zero_byte; claim = claim }

-- the instruction and the target of a number; what stands past the last is all 0, and of no consequence
abbrev pub no_instruction : InstructionRow
no_instruction = instruction_row 0 0 0 0 0

abbrev pub no_target : TargetRow
no_target = target_row 0 0 0 (record { lows = replicate 8 0; highs = replicate 8 0 })

abbrev pub instruction_row_at : Tables → ℕ → InstructionRow
instruction_row_at t i = get_or t.instructions i no_instruction

abbrev pub target_row_at : Tables → ℕ → TargetRow
target_row_at t j = get_or t.targets j no_target

-- "decoded tables": the row of a decoded instruction, which is what decodes to it (`RowsDecoded` in Promises)
abbrev pub load_width_number : LoadWidth → ℕ
load_width_number (Unsigned w) = bytes_of w
load_width_number SignedOne = 129
load_width_number SignedTwo = 130

abbrev pub test_number : Test → ℕ
test_number Equal = 0
test_number Below = 1
test_number SignedBelow = 2

unfoldable pub encoded : Instruction → InstructionRow
encoded Halt = instruction_row 0 0 0 0 0
encoded (Set a imm) = instruction_row 1 a 0 0 imm
encoded (Copy a b) = instruction_row 2 a b 0 0
encoded (Add a b) = instruction_row 3 a b 0 0
encoded (Addi a imm) = instruction_row 4 a 0 0 (wrap imm)
encoded (Sub a b) = instruction_row 5 a b 0 0
encoded (Andi a imm) = instruction_row 6 a 0 0 imm
encoded (Guard a) = instruction_row 7 a 0 0 0
encoded (Shr a w) = instruction_row 8 a 0 w 0
encoded (Sar a w) = instruction_row 9 a 0 w 0
encoded (Load a b v imm) = instruction_row 10 a b (load_width_number v) (wrap imm)
encoded (Store a b w imm) = instruction_row 11 a b (bytes_of w) (wrap imm)
encoded (Jump to) = instruction_row 12 0 0 0 (to % modulus)
encoded (Branch a b test to) = instruction_row 13 a b (test_number test) (to % modulus)
encoded (Check a) = instruction_row 14 a 0 0 0
encoded (Jumpr a) = instruction_row 15 a 0 0 0

-- the module that tables hold; of tables that are refused it is of no consequence
abbrev pub target_of : TargetRow → Target
target_of x = record { index = x.index; indirect = eqb x.kind 1; claim = x.claim }

unfoldable pub program_from : Tables → Program
program_from t = record {
  layout = t.layout;
  code = map (λ (x : InstructionRow). unwrap_or (decoded x) Halt) t.instructions;
  targets = map target_of t.targets;
}

-- the tables of a file
unfoldable pub tables_in : List ℕ → Tables
tables_in file = record {
  layout = layout_in file;
  instructions = tabulate 0 (instruction_count (code_in file)) (row_in (code_in file));
  targets = tabulate 0 (target_count (targets_in file)) (target_row_in (targets_in file));
}

-- ---- "to bytes"

abbrev pub word : ℕ → List ℕ
word x = low_bytes 4 x

-- "A field is a one-byte tag, a two-byte length and that many bytes of value."
abbrev pub field_of : ℕ → List ℕ → List ℕ
field_of tag value = tag ∷ (low_bytes 2 (length value) ++ value)

-- "base, size, guard, 32 bits each"
abbrev pub layout_words : Layout → List ℕ
layout_words l = word l.base ++ (word l.size ++ word l.guard)

-- "Bytes op, a, b, w, then imm, 32 bits."
abbrev pub row_bytes : InstructionRow → List ℕ
row_bytes x = low_bytes 1 x.op ++ (low_bytes 1 x.a ++ (low_bytes 1 x.b ++ (low_bytes 1 x.w ++ word x.imm)))

-- "Index (16 bits), kind (8 bits: 0 inner, 1 open), a zero byte, then for r0 to r7 a lowest and a highest value, 32 bits each: the
-- claim."
unfoldable pub claim_bytes : Ranges → List ℕ
claim_bytes claim = flat_map (λ (r : ℕ). word (low claim r) ++ word (high claim r)) (tabulate 0 8 (λ r. r))

abbrev pub target_bytes : TargetRow → List ℕ
target_bytes x = low_bytes 2 x.index ++ (low_bytes 1 x.kind ++ (low_bytes 1 x.zero_byte ++ claim_bytes x.claim))

-- "Exactly three fields stand in this order"
unfoldable pub file_of : Tables → List ℕ
file_of t =
    field_of 1 (layout_words t.layout)
    ++ (field_of 2 (flat_map row_bytes t.instructions) ++ field_of 3 (flat_map target_bytes t.targets))

-- ---- what is judged: "the writer's order is 3, 5, 6, 7, 16"

abbrev pub is_count : ℕ → ℕ → Bool
is_count most n = leb 1 n && leb n most

-- "Counts outside the file's limits answer 3, at the offset that the field would have."; then 5, 6 and 7
unfoldable pub tables_owed : Tables → List Obligation
tables_owed t =
    let n = length t.instructions in
    let k = length t.targets in
    owes 3 code_start (is_count most_instructions n)
    ∷ owes 3 (value_at code_start + 8 * n) (is_count most_targets k)
    ∷ table_rules is_good_target t.layout n (λ i. decoded (instruction_row_at t i)) k (target_row_at t)

-- "16 no space, place 0, when the lent buffer is shorter than the file"
unfoldable pub writable : Tables → List ℕ → List Obligation
writable t buffer = tables_owed t ++ (owes 16 0 (leb (length (file_of t)) (length buffer)) ∷ [])

-- a device's verdict on tables
abbrev pub concluded_of : Tables → Option Fault → Judgement
concluded_of t None = accepted (length t.instructions) (length t.targets)
concluded_of t (Some f) = refused f

unfoldable pub tables_judged : Limits → Tables → Judgement
tables_judged limits t =
    concluded_of t
    (first_fault (tables_owed t ++ (limit_rules limits (length t.instructions) (length t.targets) ++ verified (program_from t))))

-- ---- the answer, and the buffer afterwards

pub data WriteReport : Type 0 where
  wrote : ℕ → WriteReport
  unwritten : Fault → WriteReport

pub record Written : Type 0 where
  pub report : WriteReport
  pub buffer : List ℕ

-- "it answers the file's length"; "Bytes of the lent buffer past the file keep their contents, and so does all of it after a refusal."
abbrev pub written_unless : Tables → List ℕ → Option Fault → Written
written_unless t buffer None =
    record { report = wrote (length (file_of t)); buffer = file_of t ++ drop (length (file_of t)) buffer }
written_unless t buffer (Some f) = record { report = unwritten f; buffer = buffer }

unfoldable pub write : Tables → List ℕ → Written
write t buffer = written_unless t buffer (first_fault (writable t buffer))
