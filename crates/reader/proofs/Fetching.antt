-- How many instructions a module has, and that what is fetched from code that keeps rule 6 is the module's. Assumes nothing.
use Prim.Native.Nat.{ℕ, ◌<◌}
use mathlib.Core.List.{List}
use Rattle.std.specs.Prelude.{unwrap_or}
use mathlib.Core.Path.{◌≡◌, ap, ◌∙◌, sym}
use native.Mathlib.Nat.{mul-div_cancel_left}
use native.Mathlib.Omega.{arith}
use lib.ListN.{length}
use Rattle.model.specs.declared.Instruction.{Instruction}
use Rattle.model.specs.declared.Instruction.TheVariants.{Halt}
use Rattle.model.specs.declared.Layout.{Layout}
use Rattle.model.specs.File.{instruction_count, program_of}
use Rattle.model.specs.Program.{code_at}
use Rattle.model.proofs.Targets.{code_length, code_at_lem}
use Rattle.reader.specs.Decoding.{Fetches}
use Rattle.reader.specs.Loading.{Loaded}

module _ {l : Layout} {code targets : List ℕ} {n k : ℕ} (loaded : Loaded l code targets n k) where
  pub counted : instruction_count code ≡ n
  counted = rw loaded.code_whole (mul-div_cancel_left n (omega arith))

  pub program_count : length (program_of l code targets).code ≡ n
  program_count = code_length l code targets ∙ counted

  pub fetched : (i : ℕ) → i < n → (x : Instruction) → Fetches code i x → x ≡ code_at (program_of l code targets) i
  fetched i below x fetches =
      let inside : i < instruction_count code = omega (arith, counted) in
      let there = loaded.kept.each_instruction i inside in
      fetches.is (omega (arith, loaded.code_whole)) there.0 there.1
      ∙ ap (λ o. unwrap_or o Halt) (sym there.1)
      ∙ code_at_lem l code targets i inside
