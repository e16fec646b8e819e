-- Three fields one behind the other: a file is these exactly if each of them is kept with its value and no byte is left. Assumes nothing.
use Prim.Native.Nat.{ℕ, ◌+◌, ◌≤◌, ◌<◌}
use mathlib.Core.Path.{◌≡◌, refl, sym, ap, ◌∙◌}
use mathlib.Core.Logic.Iff
use mathlib.Core.Logic.{◌↔◌}
use mathlib.Core.List.{List, [], ◌∷◌, ◌++◌}
use native.Mathlib.Omega.{arith}
use lib.ListN.{length, take, drop, length-append}
use lib.Seq.{take-length}
use Rattle.model.specs.Words.{low_bytes}
use Rattle.model.specs.File.{byte_at, field_length, value_at, field_end, most_instructions, most_targets, is_listed, field_value, code_start, targets_at, layout_bytes, code_in, targets_in}
use Rattle.model.specs.Rules.{FieldKept, SomeOf}
use Rattle.model.specs.Writer.{field_of}
use Rattle.model.specs.Promises.{AreBytes}
use Rattle.model.proofs.Obligations.{none_iff_met}
use Rattle.model.proofs.Reflection.{Reflects}
use Rattle.model.proofs.FileRules.{field_kept}
use Rattle.model.proofs.Stretches.{value_stretch, value_length, layout_listed, code_listed, targets_listed}
use Rattle.model.proofs.Writer.Bytes.{low_length}
use Rattle.model.proofs.Writer.Stands.{Stands, stands_both, stands_byte, stands_number}

pub length-field_of : (tag : ℕ) (value : List ℕ) → length (field_of tag value) ≡ 3 + length value
length-field_of tag value = omega (arith, length-append (low_bytes 2 (length value)) value, low_length 2 (length value))

-- ---- one field

module _ (file : List ℕ) (small : AreBytes file) (at tag : ℕ) {Listed : ℕ → Type 0}
    (listed : (n : ℕ) → Reflects (is_listed tag n) (Listed n)) (value : List ℕ) (inside : at + 3 + length value ≤ length file)
    (short : length value < 65536) (good : Listed (length value)) where
  -- tag, length and value by themselves
  abbrev Parts : Type 0
  Parts = (byte_at file at ≡ tag) × ((field_length file at ≡ length value) × Stands file (value_at at) (length value) value)

  field_stands : Stands file at (3 + length value) (field_of tag value)
      ↔ (FieldKept file at tag Listed × (field_value file at tag ≡ value))
  field_stands = Iff.trans parts (λ h. (kept h, read h), λ h. back h.0 h.1)
    where
      parts : Stands file at (3 + length value) (field_of tag value) ↔ Parts
      parts =
          stands_both file 1 (2 + length value) at (at + 1) (3 + length value) refl (omega arith) (tag ∷ []) _ refl
          (stands_byte file at tag (omega arith))
          (stands_both file 2 (length value) (at + 1) (value_at at) (2 + length value) (omega arith) refl
          (low_bytes 2 (length value)) value (low_length 2 (length value))
          (stands_number file small 2 (at + 1) (length value) (omega arith) short) Iff.rfl)

      kept : Parts → FieldKept file at tag Listed
      kept h = record { header = omega arith; tagged = h.0; listed = rw h.1.0 good; value = omega (arith, h.1.0) }

      stretch : FieldKept file at tag Listed → field_value file at tag ≡ take (field_length file at) (drop (value_at at) file)
      stretch k = value_stretch file at tag ((none_iff_met _).1 ((field_kept file at tag listed).1 k))

      read : Parts → field_value file at tag ≡ value
      read h = stretch (kept h) ∙ ap (λ (n : ℕ). take n (drop (value_at at) file)) h.1.0 ∙ h.1.1

      back : FieldKept file at tag Listed → field_value file at tag ≡ value → Parts
      back k is =
          let long : field_length file at ≡ length value = sym (value_length file at tag listed k) ∙ ap length is in
          (k.tagged, (long, rw (← long) (sym (stretch k) ∙ is)))

-- ---- three fields

-- rules 1 to 4, and the three values
pub record FieldsKept (file : List ℕ) : Type 0 where
  pub layout_field : FieldKept file 0 1 (λ n. n ≡ 12)
  pub code_field : FieldKept file code_start 2 (SomeOf 8 most_instructions)
  pub targets_field : FieldKept file (targets_at file) 3 (SomeOf 68 most_targets)
  pub no_tail : length file ≡ field_end file (targets_at file)

abbrev pub ValuesAre : List ℕ → List ℕ → List ℕ → List ℕ → Type 0
ValuesAre file layout code targets = (layout_bytes file ≡ layout) × (code_in file ≡ code) × (targets_in file ≡ targets)

pub fields_length : (layout code targets : List ℕ)
    → length (field_of 1 layout ++ (field_of 2 code ++ field_of 3 targets)) ≡ 9 + length layout + length code + length targets
fields_length layout code targets =
    omega (
      arith,
      length-append (field_of 1 layout) (field_of 2 code ++ field_of 3 targets),
      length-append (field_of 2 code) (field_of 3 targets),
      length-field_of 1 layout,
      length-field_of 2 code,
      length-field_of 3 targets,
    )

module _ (file : List ℕ) (small : AreBytes file) (layout code targets : List ℕ) (twelve : length layout ≡ 12)
    (some_code : SomeOf 8 most_instructions (length code)) (some-targets : SomeOf 68 most_targets (length targets)) where
  abbrev fields : List ℕ
  fields = field_of 1 layout ++ (field_of 2 code ++ field_of 3 targets)

  abbrev behind : ℕ
  behind = 18 + length code

  -- each at its own place
  places : length file ≡ behind + (3 + length targets)
      → (file ≡ fields)
      ↔ ((FieldKept file 0 1 (λ n. n ≡ 12) × (layout_bytes file ≡ layout))
      × ((FieldKept file code_start 2 (SomeOf 8 most_instructions) × (code_in file ≡ code))
      × (FieldKept file behind 3 (SomeOf 68 most_targets) × (field_value file behind 3 ≡ targets))))
  places whole =
      Iff.trans (λ e. take-length file ∙ e, λ e. sym (take-length file) ∙ e)
      (stands_both file (3 + length layout) (3 + length code + (3 + length targets)) 0 code_start (length file)
      (omega arith) (omega arith) (field_of 1 layout) _ (length-field_of 1 layout)
      (field_stands file small 0 1 layout_listed layout (omega arith) (omega arith) twelve)
      (stands_both file (3 + length code) (3 + length targets) code_start behind _ (omega arith) refl
      (field_of 2 code) _ (length-field_of 2 code)
      (field_stands file small code_start 2 code_listed code (omega arith) (omega (arith, some_code.2, some_code.3)) some_code)
      (field_stands file small behind 3 targets_listed targets (omega arith) (omega (arith, some-targets.2, some-targets.3))
      some-targets)))

  -- the last one behind the code
  starts : FieldKept file code_start 2 (SomeOf 8 most_instructions) → code_in file ≡ code → behind ≡ targets_at file
  starts kept is = omega (arith, value_length file code_start 2 code_listed kept, ap length is)

  ends : FieldKept file (targets_at file) 3 (SomeOf 68 most_targets) → targets_in file ≡ targets
      → field_length file (targets_at file) ≡ length targets
  ends kept is = sym (value_length file (targets_at file) 3 targets_listed kept) ∙ ap length is

  pub fields_iff : (file ≡ field_of 1 layout ++ (field_of 2 code ++ field_of 3 targets))
      ↔ (FieldsKept file × ValuesAre file layout code targets)
  fields_iff = (λ e. are e, λ h. is h.0 h.1)
    where
      are : file ≡ fields → FieldsKept file × ValuesAre file layout code targets
      are e =
          let whole : length file ≡ behind + (3 + length targets) = omega (arith, ap length e, fields_length layout code targets) in
          let h = (places whole).0 e in
          let start = starts h.1.0.0 h.1.0.1 in
          let last = rw start at h.1.1 in (
            record {
              layout_field = h.0.0;
              code_field = h.1.0.0;
              targets_field = last.0;
              no_tail = omega (arith, ends last.0 last.1);
            },
            (h.0.1, h.1.0.1, last.1),
          )

      is : FieldsKept file → ValuesAre file layout code targets → file ≡ fields
      is kept values =
          let start = starts kept.code_field values.1 in
          let whole : length file ≡ behind + (3 + length targets) =
          omega (arith, kept.no_tail, ends kept.targets_field values.2) in
          (places whole).1 ((kept.layout_field, values.0), ((kept.code_field, values.1), rw start (kept.targets_field, values.2)))
