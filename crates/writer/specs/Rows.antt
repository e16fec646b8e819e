-- The rows that are handed over, lists of numbers, in the model's terms. Assumes nothing.
use Rattle.std.specs.Prelude.{ℕ, ◌+◌, ◌*◌, ◌<◌, List, [], map, get_or, Option}
use Rattle.model.specs.declared.Instruction.{Instruction}
use Rattle.model.specs.declared.Layout.{Layout}
use Rattle.model.specs.declared.Ranges.{Ranges}
use Rattle.model.specs.File.{InstructionRow, decoded, tabulate, TargetRow}
use Rattle.model.specs.Words.{modulus}
use Rattle.model.specs.Writer.{instruction_row, target_row, Tables}
use Rattle.model.specs.Promises.{AreTables}

-- op, a, b, w, imm
abbrev pub row_of : List ℕ → InstructionRow
row_of x = instruction_row (get_or x 0 0) (get_or x 1 0) (get_or x 2 0) (get_or x 3 0) (get_or x 4 0)

-- index, kind, then for r0 to r7 a lowest and a highest value
unfoldable pub claim_of : List ℕ → Ranges
claim_of x = record { lows = tabulate 0 8 (λ r. get_or x (2 + 2 * r) 0); highs = tabulate 0 8 (λ r. get_or x (3 + 2 * r) 0) }

abbrev pub target_row_of : List ℕ → TargetRow
target_row_of x = target_row (get_or x 0 0) (get_or x 1 0) 0 (claim_of x)

abbrev pub tables_of : Layout → List (List ℕ) → List (List ℕ) → Tables
tables_of l instructions targets = record { layout = l; instructions = map row_of instructions; targets = map target_row_of targets }

-- what the row of a number decodes to, and the target of a number; what stands past the last is of no consequence
abbrev pub decoded_at : List (List ℕ) → ℕ → Option Instruction
decoded_at instructions i = decoded (row_of (get_or instructions i []))

abbrev pub targets_at : List (List ℕ) → ℕ → TargetRow
targets_at targets j = target_row_of (get_or targets j [])

-- what is handed over are rows of words, so they are tables that `FilesWritten` speaks of
abbrev pub OfWords : List (List ℕ) → Type 0
OfWords rows = (i p : ℕ) → get_or (get_or rows i []) p 0 < modulus

pub record HandedOver : Type 0 where
  pub tables : (l : Layout) (instructions targets : List (List ℕ)) → OfWords instructions → OfWords targets
      → AreTables (tables_of l instructions targets)
