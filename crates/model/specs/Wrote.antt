-- Document 02, ticket 5: tables that are written, and tables that are refused. In every row the definitions give what is expected:
-- `KnownRequests` in Promises. Assumes nothing.
use Rattle.std.specs.Prelude.{ℕ, ◌+◌, ◌*◌, get_or, set, replicate}
use mathlib.Core.List.{List, [], ◌∷◌, ◌++◌, flat_map}
use Rattle.model.specs.declared.Layout.{Layout}
use Rattle.model.specs.declared.Range.{Range}
use Rattle.model.specs.Quantifiers.{all_below, any_below}
use Rattle.model.specs.Words.{signed, low_bytes}
use Rattle.model.specs.Obligations.{first_fault, each_from}
use Rattle.model.specs.Ranges.{range, put, unknown}
use Rattle.model.specs.File.{is_layout, InstructionRow, rows, decode, tabulate, TargetRow, is_placed_target, is_good_target}
use Rattle.model.specs.Writer.{Tables, instruction_row, target_row, no_instruction, claim_bytes, file_of, tables_owed, writable, WriteReport, wrote, unwritten, write}
use Rattle.model.specs.Outcomes.{Row, row, layout}
use Rattle.model.specs.Loop.{loop}

-- ---- document 01's loop as tables

abbrev pub loop_code : List InstructionRow
loop_code = instruction_row 7 1 0 0 0 ∷ instruction_row 10 0 1 4 0 ∷ instruction_row 4 1 0 0 4 ∷ instruction_row 12 0 0 0 1 ∷ []

-- with another opcode at an index
abbrev pub code_with : ℕ → ℕ → List InstructionRow
code_with i op = let x = get_or loop_code i no_instruction in set loop_code i (instruction_row op x.a x.b x.w x.imm)

-- its targets, the second of a kind and claiming a range for r1
abbrev pub targets_with : ℕ → Range → List TargetRow
targets_with kind r1 = target_row 0 1 0 unknown ∷ target_row 1 kind 0 (put unknown 1 r1) ∷ []

abbrev pub loop_claim : Range
loop_claim = range 0x2000_0000 0x2000_1003

abbrev pub loop_targets : List TargetRow
loop_targets = targets_with 0 loop_claim

-- a layout whose size is no power of two
abbrev pub unsized : Layout
unsized = record { base = 0x2000_0000; size = 300; guard = 256 }

-- "it answers the file's length": three headers of three bytes, twelve of layout, eight an instruction and 68 a target
abbrev pub loop_length : ℕ
loop_length = 21 + 8 * 4 + 68 * 2

-- a buffer of n bytes before it is written to
abbrev pub lent : ℕ → List ℕ
lent n = replicate n 170

-- ---- what is answered, and the buffer afterwards: 0 and the length, or the refusal's number and place; then the bytes

abbrev pub report_told : WriteReport → List ℕ
report_told (wrote n) = 0 ∷ n ∷ []
report_told (unwritten f) = f.number ∷ f.place ∷ []

unfoldable pub written : Layout → List InstructionRow → List TargetRow → List ℕ → List ℕ
unfolding write writable tables_owed file_of flat_map claim_bytes low_bytes tabulate is_layout decode rows signed is_placed_target is_good_target all_below any_below
    each_from first_fault
written l code targets buffer =
    let t : Tables = record { layout = l; instructions = code; targets = targets } in
    let w = write t buffer in report_told w.report ++ w.buffer

unfoldable pub table : List Row
unfolding written loop
table =
    -- a buffer of the file's length, a longer one and one that is a byte too short
    row 5 (written layout loop_code loop_targets (lent loop_length)) (0 ∷ loop_length ∷ loop)
    ∷ row 5 (written layout loop_code loop_targets (lent loop_length ++ (1 ∷ 2 ∷ []))) (0 ∷ loop_length ∷ (loop ++ (1 ∷ 2 ∷ [])))
    ∷ row 5 (written layout loop_code loop_targets (lent 188)) (16 ∷ 0 ∷ lent 188)
    -- "Counts outside the file's limits answer 3, at the offset that the field would have."
    ∷ row 5 (written layout [] loop_targets (lent 200)) (3 ∷ 15 ∷ lent 200)
    ∷ row 5 (written layout [] [] (lent 200)) (3 ∷ 15 ∷ lent 200)
    ∷ row 5 (written layout loop_code [] (lent 200)) (3 ∷ 50 ∷ lent 200)
    -- 5, 6 and 7; a number that a byte does not hold is not taken for its low byte
    ∷ row 5 (written unsized loop_code loop_targets (lent 200)) (5 ∷ 0 ∷ lent 200)
    ∷ row 5 (written layout (code_with 1 16) loop_targets (lent 200)) (6 ∷ 1 ∷ lent 200)
    ∷ row 5 (written layout (code_with 0 263) loop_targets (lent 200)) (6 ∷ 0 ∷ lent 200)
    ∷ row 5 (written layout loop_code (targets_with 2 loop_claim) (lent 200)) (7 ∷ 1 ∷ lent 200)
    ∷ row 5 (written layout loop_code (targets_with 257 loop_claim) (lent 200)) (7 ∷ 1 ∷ lent 200)
    ∷ row 5 (written layout loop_code (targets_with 0 (range 1 0)) (lent 200)) (7 ∷ 1 ∷ lent 200)
    -- "the writer's order is 3, 5, 6, 7, 16"
    ∷ row 5 (written unsized (code_with 1 16) [] (lent 188)) (3 ∷ 50 ∷ lent 188)
    ∷ row 5 (written unsized (code_with 1 16) (targets_with 2 loop_claim) (lent 188)) (5 ∷ 0 ∷ lent 188)
    ∷ row 5 (written layout (code_with 1 16) (targets_with 2 loop_claim) (lent 188)) (6 ∷ 1 ∷ lent 188)
    ∷ row 5 (written layout loop_code (targets_with 2 loop_claim) (lent 188)) (7 ∷ 1 ∷ lent 188)
    ∷ []
