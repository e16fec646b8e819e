-- What the decoder answers, in the model's terms. Assumes nothing.
use Rattle.std.specs.Prelude.{ℕ, ◌+◌, ◌≤◌, ◌<◌, List, ◌≡◌, length, Some}
use Rattle.model.specs.declared.Instruction.{Instruction}
use Rattle.model.specs.declared.Instruction.TheVariants.{Halt}
use Rattle.model.specs.File.{instruction_at, instruction_in}

-- what is fetched at an index: the instruction there, and a halt where the code ends before. (Of eight bytes that are no instruction,
-- which rule 6 refuses, the answer is left open.)
pub record Fetches (code : List ℕ) (i : ℕ) (x : Instruction) : Type 0 where
  pub is : instruction_at i + 8 ≤ length code → (y : Instruction) → instruction_in code i ≡ Some y → x ≡ y
  pub past : length code < instruction_at i + 8 → x ≡ Halt
