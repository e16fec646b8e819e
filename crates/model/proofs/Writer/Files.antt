-- A file is that of tables exactly if its fields are kept and its tables are these; how long the file of tables is, and that it
-- has bytes. Assumes nothing.
use Prim.Native.Nat.{ℕ, ◌+◌, ◌*◌, ◌<◌}
use mathlib.Core.Path.{◌≡◌, sym, ap, ◌∙◌}
use mathlib.Core.Logic.Iff
use mathlib.Core.Logic.{◌↔◌}
use mathlib.Core.List.{List, ◌++◌, flat_map}
use native.Mathlib.Omega.{arith}
use lib.ListN.{length, take}
use lib.Seq.{take_all}
use Rattle.model.specs.declared.Layout.{Layout}
use Rattle.model.specs.Words.{low_bytes}
use Rattle.model.specs.Ranges.{low, high}
use Rattle.model.specs.File.{code_start, targets_at, layout_bytes, code_in, targets_in, instruction_count, target_count, layout_in, InstructionRow, row_in, tabulate, TargetRow, target_row_in}
use Rattle.model.specs.Writer.{Tables, no_instruction, no_target, instruction_row_at, target_row_at, tables_in, field_of, layout_words, row_bytes, claim_bytes, target_bytes, file_of}
use Rattle.model.specs.Promises.{AreBytes, AreTables}
use Rattle.model.proofs.Stretches.{value_listed, value_bytes, layout_listed, code_listed, targets_listed}
use Rattle.model.proofs.Writer.Bytes.{bytes_cons, bytes_append, bytes_each, bytes_low}
use Rattle.model.proofs.Writer.Units.{units_length, units_are}
use Rattle.model.proofs.Writer.Entries.{layout_length, row_length, target_length, layout_stands, row_stands, target_stands}
use Rattle.model.proofs.Writer.Fields.{FieldsKept, ValuesAre, fields_length, fields_iff}
use Rattle.model.proofs.Writer.Kept.{TablesKept, layout_fits, rows_fit, targets_fit}

module _ (file : List ℕ) (small : AreBytes file) (t : Tables) (are : AreTables t) (kept : TablesKept t) where
  module _ (fields : FieldsKept file) where
    layout_part : (layout_bytes file ≡ layout_words t.layout) ↔ (layout_in file ≡ t.layout)
    layout_part =
        Iff.trans (λ e. all ∙ e, λ e. sym all ∙ e)
        (layout_stands (layout_bytes file) (value_bytes file 0 1 small) t.layout (layout_fits t.layout kept.rules.layout)
        (omega (arith, long)))
      where
        long : length (layout_bytes file) ≡ 12
        long = value_listed file 0 1 layout_listed fields.layout_field

        all : take 12 (layout_bytes file) ≡ layout_bytes file
        all = take_all 12 (layout_bytes file) (omega (arith, long))

    code_part : (code_in file ≡ flat_map row_bytes t.instructions)
        ↔ (tabulate 0 (instruction_count (code_in file)) (row_in (code_in file)) ≡ t.instructions)
    code_part =
        let whole = value_listed file code_start 2 code_listed fields.code_field in
        units_are 8 row_bytes row_length (code_in file) t.instructions no_instruction (row_in (code_in file))
        (omega arith) whole.0 whole.3
        (λ same i below.
        row_stands (code_in file) (value_bytes file code_start 2 small) (instruction_row_at t i) (rows_fit t are kept i below) i
        (omega (arith, whole.3)))

    targets_part : (targets_in file ≡ flat_map target_bytes t.targets)
        ↔ (tabulate 0 (target_count (targets_in file)) (target_row_in (targets_in file)) ≡ t.targets)
    targets_part =
        let whole = value_listed file (targets_at file) 3 targets_listed fields.targets_field in
        units_are 68 target_bytes target_length (targets_in file) t.targets no_target (target_row_in (targets_in file))
        (omega arith) whole.0 whole.3
        (λ same j below.
        target_stands (targets_in file) (value_bytes file (targets_at file) 3 small) j (omega (arith, whole.3)) (target_row_at t j)
        (targets_fit t are kept j below))

    values_iff : ValuesAre file (layout_words t.layout) (flat_map row_bytes t.instructions) (flat_map target_bytes t.targets)
        ↔ (tables_in file ≡ t)
    unfolding tables_in
    values_iff = (
      λ h.
          let layout = layout_part.0 h.0 in
          let instructions = code_part.0 h.1 in
          let targets = targets_part.0 h.2 in
          λ i. record { layout = layout i; instructions = instructions i; targets = targets i },
      λ e. (
        layout_part.1 (ap (λ (u : Tables). u.layout) e),
        code_part.1 (ap (λ (u : Tables). u.instructions) e),
        targets_part.1 (ap (λ (u : Tables). u.targets) e),
      ),
    )

  pub file_iff : (file ≡ file_of t) ↔ (FieldsKept file × (tables_in file ≡ t))
  unfolding file_of
  file_iff =
      Iff.trans
      (fields_iff file small (layout_words t.layout) (flat_map row_bytes t.instructions) (flat_map target_bytes t.targets)
      (layout_length t.layout)
      (length t.instructions, kept.some_instruction, kept.few_instructions, units_length 8 row_bytes row_length t.instructions)
      (length t.targets, kept.some_target, kept.few_targets, units_length 68 target_bytes target_length t.targets))
      (λ h. (h.0, (values_iff h.0).0 h.1), λ h. (h.0, (values_iff h.0).1 h.1))

-- ---- the file of tables

-- its length
pub written_length : (t : Tables) → length (file_of t) ≡ 21 + 8 * length t.instructions + 68 * length t.targets
unfolding file_of
written_length t =
    omega (
      arith,
      fields_length (layout_words t.layout) (flat_map row_bytes t.instructions) (flat_map target_bytes t.targets),
      layout_length t.layout,
      units_length 8 row_bytes row_length t.instructions,
      units_length 68 target_bytes target_length t.targets,
    )

-- its bytes

number_bytes : (n x : ℕ) (rest : List ℕ) → AreBytes rest → AreBytes (low_bytes n x ++ rest)
number_bytes n x rest = bytes_append (low_bytes n x) rest (bytes_low n x)

field_bytes : (tag : ℕ) (value : List ℕ) → tag < 256 → AreBytes value → AreBytes (field_of tag value)
field_bytes tag value few bytes =
    bytes_cons tag (low_bytes 2 (length value) ++ value) few (number_bytes 2 (length value) value bytes)

row_bytes_lem : (x : InstructionRow) → AreBytes (row_bytes x)
row_bytes_lem x = number_bytes 1 x.op _ (number_bytes 1 x.a _ (number_bytes 1 x.b _ (number_bytes 1 x.w _ (bytes_low 4 x.imm))))

target_bytes_lem : (x : TargetRow) → AreBytes (target_bytes x)
unfolding claim_bytes
target_bytes_lem x =
    number_bytes 2 x.index _ (number_bytes 1 x.kind _ (number_bytes 1 x.zero_byte _
    (bytes_each _ (λ r. number_bytes 4 (low x.claim r) _ (bytes_low 4 (high x.claim r))) (tabulate 0 8 (λ r. r)))))

pub file_bytes : (t : Tables) → AreBytes (file_of t)
unfolding file_of
file_bytes t =
    bytes_append (field_of 1 (layout_words l)) _
    (field_bytes 1 (layout_words l) (omega arith) (number_bytes 4 l.base _ (number_bytes 4 l.size _ (bytes_low 4 l.guard))))
    (bytes_append (field_of 2 (flat_map row_bytes t.instructions)) _
    (field_bytes 2 (flat_map row_bytes t.instructions) (omega arith) (bytes_each row_bytes row_bytes_lem t.instructions))
    (field_bytes 3 (flat_map target_bytes t.targets) (omega arith) (bytes_each target_bytes target_bytes_lem t.targets)))
  where
    l : Layout
    l = t.layout
