-- The tables of a file: a file keeps 1 to 7 exactly if its fields are kept and its tables keep the rest; they are what a host can hand
-- over, and hold the module that the file holds. Assumes nothing.
use Prim.Native.Nat.{ℕ, ◌+◌, ◌*◌, ◌<◌}
use mathlib.Core.Path.{◌≡◌, refl, sym, ap}
use mathlib.Core.Bool.{Bool, true, false}
use mathlib.Core.List.{List}
use Rattle.std.specs.Prelude.{unwrap_or}
use native.Mathlib.Omega.{arith}
use borrow.Author.Tests.{ltb-true, ltb-false}
use lib.Dec.{ltb}
use lib.ListN.{length, get_or-eq_default}
use Rattle.model.specs.declared.Instruction.TheVariants.{Halt}
use Rattle.model.specs.Words.{modulus, read_bytes}
use Rattle.model.specs.File.{code_start, targets_at, code_in, targets_in, instruction_count, target_count, layout_in, InstructionRow, decoded, instruction_at, row_in, instruction_in, tabulate, target_start, claim_in, TargetRow, target_row_in, target_in, program_of, program_in}
use Rattle.model.specs.Rules.{TargetKept, FileKept}
use Rattle.model.specs.Safety.{EightWords}
use Rattle.model.specs.Writer.{no_instruction, no_target, instruction_row_at, target_row_at, target_of, program_from, tables_in}
use Rattle.model.specs.Promises.{AreBytes, AreTables}
use Rattle.model.proofs.Tabulate.{length-tabulate, tabulate_everywhere, table_at, map-tabulate}
use Rattle.model.proofs.Accepted.{module_tables}
use Rattle.model.proofs.Stretches.{value_bytes, code_whole, targets_whole}
use Rattle.model.proofs.Registers.{read_below}
use Rattle.model.proofs.Claims.OneClaim.{low_in, high_in}
use Rattle.model.proofs.Writer.Fields.{FieldsKept}
use Rattle.model.proofs.Writer.Kept.{TablesKept, hold_same}

-- ---- counts and rows

module _ (file : List ℕ) where
  pub rows_counted : length (tables_in file).instructions ≡ instruction_count (code_in file)
  unfolding tables_in
  rows_counted = length-tabulate 0 (instruction_count (code_in file)) (row_in (code_in file))

  pub targets_counted : length (tables_in file).targets ≡ target_count (targets_in file)
  unfolding tables_in
  targets_counted = length-tabulate 0 (target_count (targets_in file)) (target_row_in (targets_in file))

  row_read : (i : ℕ) → i < instruction_count (code_in file) → instruction_in (code_in file) i ≡ decoded (instruction_row_at (tables_in file) i)
  unfolding tables_in instruction_in
  row_read i below =
      ap decoded (sym (table_at (row_in (code_in file)) no_instruction (instruction_count (code_in file)) i below))

  target_read : (j : ℕ) → j < target_count (targets_in file) → target_row_in (targets_in file) j ≡ target_row_at (tables_in file) j
  unfolding tables_in
  target_read j below = sym (table_at (target_row_in (targets_in file)) no_target (target_count (targets_in file)) j below)

  -- ---- the module

  pub program_read : program_in file ≡ program_from (tables_in file)
  unfolding program_of program_from tables_in instruction_in target_in
  program_read =
      let code =
      map-tabulate (λ (x : InstructionRow). unwrap_or (decoded x) Halt) (row_in (code_in file)) 0 (instruction_count (code_in file)) in
      let targets = map-tabulate target_of (target_row_in (targets_in file)) 0 (target_count (targets_in file)) in
      sym (λ i. record { layout = layout_in file; code = code i; targets = targets i })

  -- ---- the rules

  pub fields_kept : FileKept file → FieldsKept file
  fields_kept kept = record {
    layout_field = kept.layout_field;
    code_field = kept.code_field;
    targets_field = kept.targets_field;
    no_tail = kept.no_tail;
  }

  pub tables_kept : FileKept file → TablesKept (tables_in file)
  unfolding tables_in
  tables_kept kept =
      let code = code_whole file kept in
      let targets = targets_whole file kept in
      record {
        some_instruction = rw rows_counted (omega (arith, code.1, code.3));
        few_instructions = rw rows_counted (omega (arith, code.2, code.3));
        some_target = rw targets_counted (omega (arith, targets.1, targets.3));
        few_targets = rw targets_counted (omega (arith, targets.2, targets.3));
        rules =
            rw (rows_counted, targets_counted)
            (hold_same row_read target_read ((module_tables TargetKept (layout_in file) (code_in file) (targets_in file)).0 kept.holds));
      }

  pub file_kept : FieldsKept file → TablesKept (tables_in file) → FileKept file
  unfolding tables_in
  file_kept fields kept = record {
    layout_field = fields.layout_field;
    code_field = fields.code_field;
    targets_field = fields.targets_field;
    no_tail = fields.no_tail;
    holds =
        (module_tables TargetKept (layout_in file) (code_in file) (targets_in file)).1
        (hold_same (λ i below. sym (row_read i below)) (λ j below. sym (target_read j below))
        (rw (rows_counted, targets_counted) at kept.rules));
  }

-- ---- what a host can hand over

pub eight_words : (f : ℕ → ℕ) → ((r : ℕ) → f r < modulus) → EightWords (tabulate 0 8 f)
eight_words f small = record { eight = length-tabulate 0 8 f; small = tabulate_everywhere (λ x. x < modulus) f 0 small (omega arith) 0 8 }

pub tables_words : (file : List ℕ) → AreBytes file → TablesKept (tables_in file) → AreTables (tables_in file)
unfolding tables_in claim_in tabulate
tables_words file bytes kept = record {
  imm = tabulate_everywhere (λ x. x.imm < modulus) (row_in (code_in file)) no_instruction
      (λ i. read_below 4 (code_in file) (instruction_at i + 4) code_bytes) (omega arith) 0 (instruction_count (code_in file));
  zero_byte = λ j. inside_or_past j (ltb j (length (tables_in file).targets)) refl;
  lows =
      each_target (λ x. EightWords x.claim.lows)
      (λ j. eight_words (low_in (targets_in file) (target_start j)) (λ r. word_read (target_start j + 4 + 8 * r)))
      (eight_words (λ r. 0) (λ r. omega arith));
  highs =
      each_target (λ x. EightWords x.claim.highs)
      (λ j. eight_words (high_in (targets_in file) (target_start j)) (λ r. word_read (target_start j + 8 + 8 * r)))
      (eight_words (λ r. 0) (λ r. omega arith));
}
  where
    code_bytes : AreBytes (code_in file)
    code_bytes = value_bytes file code_start 2 bytes

    word_read : (at : ℕ) → read_bytes 4 (targets_in file) at < modulus
    word_read at = read_below 4 (targets_in file) at (value_bytes file (targets_at file) 3 bytes)

    each_target : (P : TargetRow → Type 0) → ((j : ℕ) → P (target_row_in (targets_in file) j)) → P no_target
        → (j : ℕ) → P (target_row_at (tables_in file) j)
    each_target P rows past =
        tabulate_everywhere P (target_row_in (targets_in file)) no_target rows past 0 (target_count (targets_in file))

    inside_or_past : (j : ℕ) (inside : Bool) → ltb j (length (tables_in file).targets) ≡ inside
        → (target_row_at (tables_in file) j).zero_byte ≡ 0
    inside_or_past j true below = (kept.rules.each_target j (ltb-true _ _ below)).placed.zero_byte
    inside_or_past j false beyond =
        ap (λ (x : TargetRow). x.zero_byte)
        (get_or-eq_default (tables_in file).targets no_target (ltb-false j (length (tables_in file).targets) beyond))
