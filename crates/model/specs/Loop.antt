-- Document 01's loop as a file, byte by byte, and what its judgement and a walk of two calls come to. That they do is `LoopJudged` and
-- `LoopWalked` in Promises. And a loop that counts (`LongRuns`). Assumes nothing.
use Rattle.std.specs.Prelude.{ℕ, List, ◌∷◌, ◌++◌, replicate}
use Rattle.model.specs.declared.Machine.{Machine}
use Rattle.model.specs.Words.{top, low_bytes}
use Rattle.model.specs.Walk.{Call}
use Rattle.model.specs.Writer.{instruction_row, word, field_of, row_bytes}

abbrev pub instruction : ℕ → ℕ → ℕ → ℕ → ℕ → List ℕ
instruction op a b w imm = row_bytes (instruction_row op a b w imm)

abbrev pub from_to : ℕ → ℕ → List ℕ
from_to lowest highest = word lowest ++ word highest

abbrev pub anything : List ℕ
anything = from_to 0 top

-- a target that claims a range for r1 and anything for the other registers
abbrev pub target : ℕ → ℕ → List ℕ → List ℕ
target index kind r1 =
    low_bytes 2 index
    ++ (kind ∷ 0 ∷ (anything ++ (r1 ++ (anything ++ (anything ++ (anything ++ (anything ++ (anything ++ anything))))))))

abbrev pub direct : ℕ
direct = 0

abbrev pub indirect : ℕ
indirect = 1

-- "The loop: 0 guard r1; 1 load r0, r1, width 4, imm 0; 2 addi r1, 4; 3 jump 1. Doors: 0 open; 1 inner, r1 DB to DL + 4, others
-- anything.", with a guard and a highest value claimed for r1
unfoldable pub loop_with : ℕ → ℕ → List ℕ
unfolding low_bytes
loop_with guard highest =
    field_of 1 (word 0x2000_0000 ++ (word 4096 ++ word guard))
    ++ (field_of 2 (instruction 7 1 0 0 0 ++ (instruction 10 0 1 4 0 ++ (instruction 4 1 0 0 4 ++ instruction 12 0 0 0 1)))
    ++ field_of 3 (target 0 indirect anything ++ target 1 direct (from_to 0x2000_0000 highest)))

unfoldable pub loop : List ℕ
unfolding loop_with
loop = loop_with 256 0x2000_1003

-- ---- two calls of it: from r1 = 0 on a region of zeros at the start of memory, with budgets 3 and 2

abbrev pub start : Machine
start = record { registers = replicate 8 0; pc = 0 }

abbrev pub zeros : List ℕ
zeros = replicate 4096 0

abbrev pub calling : ℕ → Call
calling budget = record { offset = 0; budget = budget; bytes = zeros }

-- ---- document 02, ticket 6: a loop of two instructions that ends by its budget alone. 0 addi r0, 1; 1 jump 0. Its one target is 0.

unfoldable pub counting : List ℕ
unfolding low_bytes
counting =
    field_of 1 (word 0x2000_0000 ++ (word 256 ++ word 0))
    ++ (field_of 2 (instruction 4 0 0 0 1 ++ instruction 12 0 0 0 0)
    ++ field_of 3 (target 0 indirect anything))
