-- A file whose targets' bytes are exchanged for as many others: the fields stand as they stood, layout and code are the same, and the
-- targets' bytes are the others. Assumes nothing.
use Prim.Native.Nat.{ℕ, ◌+◌, ◌≤◌, ◌<◌}
use mathlib.Core.Path.{◌≡◌, sym, ap, ◌∙◌}
use mathlib.Core.List.{List, ◌++◌}
use native.Mathlib.Omega.{arith}
use lib.ListN.{length, get_or, take, drop, length-append, length-drop, take-append-drop, get_or-append}
use lib.Seq.{length-take-le, get_or-take, take-append-le, drop-append-le, take_at, drop_at}
use Rattle.model.specs.File.{field_length, value_at, field_end, most_instructions, most_targets, is_listed, field_value, code_start, targets_at, code_in, targets_in, layout_of, layout_in, TargetRow, program_of, program_in}
use Rattle.model.specs.Rules.{FieldKept, SomeOf, ModuleHolds, FileHolds}
use Rattle.model.proofs.Obligations.{none_iff_met}
use Rattle.model.proofs.Reflection.{Reflects}
use Rattle.model.proofs.FileRules.{field_kept}
use Rattle.model.proofs.Stretches.{value_stretch, value_rest, layout_listed, code_listed, targets_listed, targets_whole, file_length}
use Rattle.model.proofs.Writing.{same_number}

-- all that stands before the targets' bytes
abbrev pub front : List ℕ → List ℕ
front file = take (value_at (targets_at file)) file

-- a value that ends before what is exchanged
before_seam : (n at : ℕ) (first rest : List ℕ) → at + n ≤ length first → take n (drop at (first ++ rest)) ≡ take n (drop at first)
before_seam n at first rest inside =
    ap (take n) (drop-append-le at first rest (omega arith)) ∙ take-append-le n (drop at first) rest (simp length-drop (omega arith))

module _ {Good : ℕ → (ℕ → TargetRow) → ℕ → Type 0} (file : List ℕ) (kept : FileHolds Good file)
    (targets : List ℕ) (as_long : length targets ≡ length (targets_in file)) where
  abbrev start : ℕ
  start = value_at (targets_at file)

  abbrev other : List ℕ
  other = front file ++ targets

  front_length : length (front file) ≡ start
  front_length = length-take-le start file (omega (arith, kept.targets_field.header))

  other_length : length other ≡ length file
  other_length = omega (arith, length-append (front file) targets, front_length, file_length file kept, (targets_whole file kept).3)

  same_byte : (i : ℕ) → i < start → get_or other i 0 ≡ get_or file i 0
  same_byte i below = get_or-append (front file) targets 0 i (omega (arith, front_length)) ∙ get_or-take start file i 0 below

  same_field_length : (at : ℕ) → value_at at ≤ start → field_length other at ≡ field_length file at
  same_field_length at header = same_number 2 other file (at + 1) (λ i _ below. same_byte i (omega arith))

  -- a field whose header stands before them is kept as it was
  field_other : (at tag : ℕ) (Listed : ℕ → Type 0) → value_at at ≤ start → FieldKept file at tag Listed → FieldKept other at tag Listed
  field_other at tag Listed header was = record {
    header = omega (arith, was.header, other_length);
    tagged = same_byte at (omega arith) ∙ was.tagged;
    listed = rw (same_field_length at header) was.listed;
    value = omega (arith, was.value, other_length, same_field_length at header);
  }

  -- and has the same value, if that stands before them too
  same_value : (at tag : ℕ) {Listed : ℕ → Type 0} → ((n : ℕ) → Reflects (is_listed tag n) (Listed n)) → field_end file at ≤ start
      → FieldKept file at tag Listed → field_value other at tag ≡ field_value file at tag
  same_value at tag {Listed} listed inside was =
      value_stretch other at tag ((none_iff_met _).1 ((field_kept other at tag listed).1 (field_other at tag Listed (omega arith) was)))
      ∙ ap (λ (n : ℕ). take n (drop (value_at at) other)) (same_field_length at (omega arith))
      ∙ before_seam len (value_at at) (front file) targets (omega (arith, front_length))
      ∙ sym (before_seam len (value_at at) (front file) (drop start file) (omega (arith, front_length)))
      ∙ ap (λ (l : List ℕ). take len (drop (value_at at) l)) (take-append-drop start file)
      ∙ sym (value_stretch file at tag ((none_iff_met _).1 ((field_kept file at tag listed).1 was)))
    where
      len : ℕ
      len = field_length file at

  same_layout : layout_in other ≡ layout_in file
  same_layout = ap layout_of (same_value 0 1 layout_listed (omega (arith, kept.layout_field.listed)) kept.layout_field)

  pub same_code : code_in (front file ++ targets) ≡ code_in file
  same_code = same_value code_start 2 code_listed (omega arith) kept.code_field

  same_targets_at : targets_at other ≡ targets_at file
  same_targets_at = ap (λ (n : ℕ). value_at code_start + n) (same_field_length code_start (omega arith))

  targets_field : FieldKept other (targets_at other) 3 (SomeOf 68 most_targets)
  targets_field = rw same_targets_at (field_other (targets_at file) 3 (SomeOf 68 most_targets) (omega arith) kept.targets_field)

  no_tail : length other ≡ field_end other (targets_at other)
  no_tail = rw same_targets_at (omega (arith, other_length, kept.no_tail, same_field_length (targets_at file) (omega arith)))

  -- and what is before the targets' bytes, and they
  pub front_same : front (front file ++ targets) ≡ front file
  front_same = ap (λ (at : ℕ). take (value_at at) other) same_targets_at ∙ take_at (front file) targets start front_length

  pub targets_are : targets_in (front file ++ targets) ≡ targets
  targets_are =
      sym (value_rest other (targets_at other) 3 targets_listed targets_field no_tail)
      ∙ ap (λ (at : ℕ). drop (value_at at) other) same_targets_at
      ∙ drop_at (front file) targets start front_length

  -- so its module has the same layout and code, and the others
  pub exchanged_program : program_in (front file ++ targets) ≡ program_of (layout_in file) (code_in file) targets
  exchanged_program = λ i. program_of (same_layout i) (same_code i) (targets_are i)

  -- and it keeps what the others keep
  pub exchanged_holds : {Good' : ℕ → (ℕ → TargetRow) → ℕ → Type 0} → ModuleHolds Good' (layout_in file) (code_in file) targets
      → FileHolds Good' (front file ++ targets)
  exchanged_holds {Good'} holds = record {
    layout_field = field_other 0 1 (λ n. n ≡ 12) (omega arith) kept.layout_field;
    code_field = field_other code_start 2 (SomeOf 8 most_instructions) (omega arith) kept.code_field;
    targets_field = targets_field;
    no_tail = no_tail;
    holds = rw (same_layout, same_code, targets_are) holds;
  }
