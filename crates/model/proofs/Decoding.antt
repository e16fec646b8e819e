-- What holds of every row of the instructions' table holds of every instruction of a module. Assumes nothing.
use Prim.Native.Nat.{ℕ, zero, suc, ◌+◌, ◌<◌}
use mathlib.Core.Path.{◌≡◌, refl}
use mathlib.Core.Bool.{Bool, true, false}
use mathlib.Core.List.{List, [], ◌∷◌}
use Rattle.std.specs.Prelude.{option_map, unwrap_or, Option, None, Some}
use lib.ListN.{get_or}
use Rattle.model.specs.declared.Instruction.{Instruction}
use Rattle.model.specs.declared.Instruction.TheVariants.{Halt}
use Rattle.model.specs.declared.Layout.{Layout}
use Rattle.model.specs.Words.{modulus}
use Rattle.model.specs.Program.{code_at}
use Rattle.model.specs.File.{byte_at, provided, rows, decode, instruction_at, instruction_in, instruction_count, program_of}
use Rattle.model.proofs.Claims.Each.{IfThere}
use Rattle.model.proofs.Registers.{read_below}
use Rattle.model.proofs.Tabulate.{tabulate_everywhere}

-- it holds of every row that is an instruction, and of its opcode
infixr 5 ◌then◌
pub data NumberedRows : (ℕ → Instruction → Type 0) → List (Option Instruction) → Type 1 where
  no_more : {P : ℕ → Instruction → Type 0} → NumberedRows P []
  ◌then◌ : {P : ℕ → Instruction → Type 0} {row : Option Instruction} {more : List (Option Instruction)}
      → IfThere (P 0) row → NumberedRows (λ op. P (suc op)) more → NumberedRows P (row ∷ more)

pub row_at : {P : ℕ → Instruction → Type 0} {table : List (Option Instruction)} → NumberedRows P table → (op : ℕ)
    → IfThere (P op) (get_or table op None)
row_at no_more op = tt
row_at (row then more) zero = row
row_at (row then more) (suc op) = row_at more op

-- whatever its opcode
abbrev pub Rows : (Instruction → Type 0) → List (Option Instruction) → Type 1
Rows P table = NumberedRows (λ op. P) table

module _ (P : Instruction → Type 0) where
  pub provided_row : (test : Bool) (row : Option Instruction) → (test ≡ true → IfThere P row) → IfThere P (provided test row)
  provided_row true row holds = holds refl
  provided_row false row holds = tt

  pub mapped_row : {A : Type 0} (f : A → Instruction) (o : Option A) → ((x : A) → P (f x)) → IfThere P (option_map f o)
  mapped_row f None holds = tt
  mapped_row f (Some x) holds = holds x

  or_halt : P Halt → (o : Option Instruction) → IfThere P o → P (unwrap_or o Halt)
  or_halt halt None holds = halt
  or_halt halt (Some i) holds = holds

  -- imm is of four bytes; past the last instruction is a halt
  module _ (each_row : (a b w imm : ℕ) → imm < modulus → Rows P (rows a b w imm)) (halt : P Halt)
      (code : List ℕ) (bytes : (i : ℕ) → byte_at code i < 256) where
    instruction_holds : (j : ℕ) → IfThere P (instruction_in code j)
    unfolding instruction_in decode
    instruction_holds j =
        row_at (each_row _ _ _ _ (read_below 4 code (instruction_at j + 4) bytes)) (byte_at code (instruction_at j))

    pub code_holds : (l : Layout) (targets : List ℕ) (j : ℕ) → P (code_at (program_of l code targets) j)
    unfolding program_of
    code_holds l targets =
        tabulate_everywhere P (λ i. unwrap_or (instruction_in code i) Halt) Halt
        (λ i. or_halt halt (instruction_in code i) (instruction_holds i)) halt 0 (instruction_count code)
