-- The stretches of a file's three values: where a field is kept, its value is the bytes behind its header, as many as its length
-- says, and the last one's are the rest of the file; and they are bytes where the file's are. Assumes nothing.
use Prim.Native.Nat.{ℕ, ◌+◌, ◌*◌, ◌≤◌, ◌<◌}
use mathlib.Core.Path.{◌≡◌, refl, sym, ap, ◌∙◌}
use mathlib.Core.Bool.{Bool, true, false}
use mathlib.Core.List.{List}
use Rattle.std.specs.Prelude.{Option, None, Some}
use native.Mathlib.Omega.{arith}
use borrow.Author.Tests.{ltb-true, ltb-false}
use lib.Dec.{ltb}
use lib.ListN.{length, get_or, take, drop, length-drop, length-take, get_or-eq_default}
use lib.Seq.{get_or-take, get_or-drop, length-take-le, take_all}
use Rattle.model.specs.Obligations.{Fault, first_fault}
use Rattle.model.specs.File.{field_length, value_at, field_end, most_instructions, most_targets, is_listed, field, unless_fault, field_value, code_start, targets_at, code_in, targets_in, target_count, TargetRow}
use Rattle.model.specs.Rules.{FieldKept, SomeOf, FileHolds}
use Rattle.model.proofs.Obligations.{none_iff_met}
use Rattle.model.proofs.Reflection.{Reflects, eq_reflects, multiple_reflects}
use Rattle.model.proofs.FileRules.{field_kept}

module _ (file : List ℕ) (at tag : ℕ) where
  pub value_stretch : first_fault (field file at tag) ≡ None
      → field_value file at tag ≡ take (field_length file at) (drop (value_at at) file)
  unfolding field_value
  value_stretch met = rw met

  pub value_length : {Listed : ℕ → Type 0} → ((n : ℕ) → Reflects (is_listed tag n) (Listed n)) → FieldKept file at tag Listed
      → length (field_value file at tag) ≡ field_length file at
  value_length listed kept =
      ap length (value_stretch ((none_iff_met (field file at tag)).1 ((field_kept file at tag listed).1 kept)))
      ∙ length-take-le (field_length file at) (drop (value_at at) file) (simp length-drop (omega (arith, kept.value)))

  pub value_listed : {Listed : ℕ → Type 0} → ((n : ℕ) → Reflects (is_listed tag n) (Listed n)) → FieldKept file at tag Listed
      → Listed (length (field_value file at tag))
  value_listed listed kept = rw (value_length listed kept) kept.listed

  -- where the file ends with it, all that stands behind its header
  pub value_rest : {Listed : ℕ → Type 0} → ((n : ℕ) → Reflects (is_listed tag n) (Listed n)) → FieldKept file at tag Listed
      → length file ≡ field_end file at → drop (value_at at) file ≡ field_value file at tag
  value_rest listed kept no_tail =
      sym (value_stretch ((none_iff_met (field file at tag)).1 ((field_kept file at tag listed).1 kept))
      ∙ take_all (field_length file at) (drop (value_at at) file) (simp length-drop (omega arith)))

  -- bytes of a file's value are bytes
  pub value_bytes : ((i : ℕ) → get_or file i 0 < 256) → (i : ℕ) → get_or (field_value file at tag) i 0 < 256
  unfolding field_value
  value_bytes bytes i = by_fault (first_fault (field file at tag))
    where
      past : (n : ℕ) (l : List ℕ) (k : ℕ) → n ≤ k → get_or (take n l) k 0 < 256
      past n l k far = let short : length (take n l) ≤ k = omega (arith, length-take n l) in rw (get_or-eq_default (take n l) 0 short) (omega arith)

      by_place : (n : ℕ) (inside : Bool) → ltb i n ≡ inside → get_or (take n (drop (value_at at) file)) i 0 < 256
      by_place n true below = rw (get_or-take n (drop (value_at at) file) i 0 (ltb-true _ _ below), get_or-drop) (bytes (value_at at + i))
      by_place n false beyond = past n (drop (value_at at) file) i (ltb-false _ _ beyond)

      by_fault : (found : Option Fault) → get_or (unless_fault found (take (field_length file at) (drop (value_at at) file))) i 0 < 256
      by_fault None = by_place (field_length file at) (ltb i (field_length file at)) refl
      by_fault (Some f) = omega arith

-- the lengths that are listed for each
pub layout_listed : (n : ℕ) → Reflects (is_listed 1 n) (n ≡ 12)
unfolding is_listed
layout_listed n = eq_reflects n 12

pub code_listed : (n : ℕ) → Reflects (is_listed 2 n) (SomeOf 8 most_instructions n)
unfolding is_listed
code_listed n = multiple_reflects 8 most_instructions n (omega arith)

pub targets_listed : (n : ℕ) → Reflects (is_listed 3 n) (SomeOf 68 most_targets n)
unfolding is_listed
targets_listed n = multiple_reflects 68 most_targets n (omega arith)

-- what rules 1 to 4 say of them, whatever is asked of a target
module _ {Good : ℕ → (ℕ → TargetRow) → ℕ → Type 0} (file : List ℕ) (kept : FileHolds Good file) where
  -- the code has whole instructions, and the targets' bytes whole targets
  pub code_whole : SomeOf 8 most_instructions (length (code_in file))
  code_whole = value_listed file code_start 2 code_listed kept.code_field

  pub targets_whole : SomeOf 68 most_targets (length (targets_in file))
  targets_whole = value_listed file (targets_at file) 3 targets_listed kept.targets_field

  -- the targets' bytes are the rest of the file
  pub targets_rest : drop (value_at (targets_at file)) file ≡ targets_in file
  targets_rest = value_rest file (targets_at file) 3 targets_listed kept.targets_field kept.no_tail

  pub file_length : length file ≡ value_at (targets_at file) + 68 * target_count (targets_in file)
  file_length =
      let whole = targets_whole in
      omega (arith, whole.3, kept.no_tail, length-drop (value_at (targets_at file)) file, ap length targets_rest)
