-- Sound shapes: what the accuracy of the ranges asks of an instruction, and that every instruction of a module has it.
-- Assumes nothing.
use Prim.Native.Nat.{ℕ, ◌<◌}
use mathlib.Core.List.{List}
use Rattle.std.specs.Prelude.{Option, Some}
use borrow.Author.Tests.{ltb-true}
use Rattle.model.specs.declared.Instruction.{Instruction}
use Rattle.model.specs.declared.Instruction.TheVariants.{Halt, Set, Copy, Add, Addi, Sub, Andi, Guard, Shr, Sar, Load, Store, Jump, Branch, Check, Jumpr}
use Rattle.model.specs.declared.Layout.{Layout}
use Rattle.model.specs.declared.LoadWidth.{LoadWidth}
use Rattle.model.specs.declared.Range.{Range}
use Rattle.model.specs.declared.Ranges.{Ranges}
use Rattle.model.specs.declared.Test.{Test}
use Rattle.model.specs.declared.Width.{Width}
use Rattle.model.specs.Words.{modulus, signed}
use Rattle.model.specs.Ranges.{range_of, region_range}
use Rattle.model.specs.Instructions.{width_read, reg, Access, load_access, Shape, stops, assigns, loads, stores, jumps, branches, checks, jumps_via, shape}
use Rattle.model.specs.Step.{shape_at}
use Rattle.model.specs.File.{byte_at, is_register, has_nothing, has_a, has_a_b, has_a_amount, has_imm, has_a_imm, has_a_b_w_imm, provided, rows, width_of, load_width_of, test_of, program_of}
use Rattle.model.specs.Rules.{LayoutKept}
use Rattle.model.specs.Safety.{EightWords}
use Rattle.model.specs.Accuracy.{Within}
use Rattle.model.proofs.Tests.{and_left, and_right}
use Rattle.model.proofs.Claims.Each.{IfThere}
use Rattle.model.proofs.Decoding.{Rows, no_more, ◌then◌, provided_row, mapped_row, code_holds}
use Rattle.model.proofs.RuleW.{Signed32, signed_signed32}
use Rattle.model.proofs.Values.{Fits, register_fits, constant_fits, add_fits, addi_fits, sub_fits, and_fits, guard_fits, shr_fits, sar_fits}

-- a register's new value fits its new range, whatever the registers hold of their ranges
pub record SoundAssignment (l : Layout) (a : ℕ) (value : Layout → List ℕ → ℕ) (ranged : Range → Ranges → Range) : Type 0 where
  pub register : a < 8
  pub fits : {k : Ranges} {rs : List ℕ} → Within k rs → EightWords rs → Fits (ranged (region_range l) k) (value l rs)

-- a load's or store's operands
pub record SoundAccess (a : ℕ) (ac : Access) : Type 0 where
  pub register : a < 8
  pub pointer : ac.pointer < 8
  pub displacement : Signed32 ac.displacement

-- a branch's operands
pub record SoundBranch (a b : ℕ) : Type 0 where
  pub left : a < 8
  pub right : b < 8

-- what is asked of each shape
abbrev pub Sound : Layout → Shape → Type 0
Sound l stops = Unit {0}
Sound l (assigns a value ranged) = SoundAssignment l a value ranged
Sound l (loads a b v imm) = SoundAccess a (load_access b v imm)
Sound l (stores a ac) = SoundAccess a ac
Sound l (jumps to) = Unit {0}
Sound l (branches test a b to) = SoundBranch a b
Sound l (checks a) = a < 8
Sound l (jumps_via a) = a < 8

-- ---- the rows of the instructions' table

abbrev SoundIn : Layout → Instruction → Type 0
SoundIn l i = Sound l (shape i)

abbrev SoundRow : Layout → Option Instruction → Type 0
SoundRow l = IfThere (SoundIn l)

module _ {l : Layout} (lk : LayoutKept l) (a b w imm : ℕ) (imm_word : imm < modulus) where
  -- a row is sound if it is so where the bytes that it uses are in range: a alone, a and imm, a and w, a and b, or all four
  uses_a : (row : Option Instruction) → (a < 8 → SoundRow l row)
      → SoundRow l (provided (has_a a b w imm) row)
  uses_a row sound =
      provided_row (SoundIn l) (has_a a b w imm) row
      (λ t. sound (search (and_left, and_right, ltb-true)))

  uses_a_imm : (row : Option Instruction) → (a < 8 → SoundRow l row)
      → SoundRow l (provided (has_a_imm a b w) row)
  uses_a_imm row sound =
      provided_row (SoundIn l) (has_a_imm a b w) row (λ t. sound (search (and_left, and_right, ltb-true)))

  uses_a_w : (row : Option Instruction) → (a < 8 → SoundRow l row)
      → SoundRow l (provided (has_a_amount a b w imm) row)
  uses_a_w row sound =
      provided_row (SoundIn l) (has_a_amount a b w imm) row
      (λ t. sound (search (and_left, and_right, ltb-true)))

  uses_a_b : (row : Option Instruction) → (a < 8 → b < 8 → SoundRow l row)
      → SoundRow l (provided (has_a_b a b w imm) row)
  uses_a_b row sound =
      provided_row (SoundIn l) (has_a_b a b w imm) row
      (λ t. sound (search (and_left, and_right, ltb-true)) (search (and_left, and_right, ltb-true)))

  uses_all : (row : Option Instruction) → (a < 8 → b < 8 → SoundRow l row) → SoundRow l (provided (has_a_b_w_imm a b) row)
  uses_all row sound =
      provided_row (SoundIn l) (has_a_b_w_imm a b) row
      (λ t. sound (ltb-true a 8 (and_left (is_register a) (is_register b) t)) (ltb-true b 8 (and_right (is_register a) (is_register b) t)))

  -- a new value that is made from the registers a, or a and b, fits if it does so where they fit
  from_a : {value : Layout → List ℕ → ℕ} {ranged : Range → Ranges → Range} → a < 8
      → ((k : Ranges) (rs : List ℕ) → Fits (range_of k a) (reg rs a) → Fits (ranged (region_range l) k) (value l rs)) → SoundAssignment l a value ranged
  from_a a8 fits = record { register = a8; fits = λ {k} {rs} within words. fits k rs (register_fits within words a a8) }

  from_a_b : {value : Layout → List ℕ → ℕ} {ranged : Range → Ranges → Range} → a < 8 → b < 8
      → ((k : Ranges) (rs : List ℕ) → Fits (range_of k a) (reg rs a) → Fits (range_of k b) (reg rs b) → Fits (ranged (region_range l) k) (value l rs))
      → SoundAssignment l a value ranged
  from_a_b a8 b8 fits = record {
    register = a8;
    fits = λ {k} {rs} within words. fits k rs (register_fits within words a a8) (register_fits within words b b8);
  }

  imm_signed : Signed32 (signed imm)
  imm_signed = signed_signed32 imm imm_word

  access_sound : a < 8 → b < 8 → (v : Width) → SoundAccess a (record { pointer = b; width = v; displacement = signed imm })
  access_sound a8 b8 v = record { register = a8; pointer = b8; displacement = imm_signed }

  rows_sound : Rows (SoundIn l) (rows a b w imm)
  unfolding rows shape
  rows_sound =
      provided_row (SoundIn l) (has_nothing a b w imm) (Some Halt) (λ _. tt)
      then uses_a_imm (Some (Set a imm)) (λ a8. from_a a8 (λ k rs x. constant_fits imm imm_word))
      then uses_a_b (Some (Copy a b)) (λ a8 b8. from_a_b a8 b8 (λ k rs x y. y))
      then uses_a_b (Some (Add a b)) (λ a8 b8. from_a_b a8 b8 (λ k rs x y. add_fits x y))
      then uses_a_imm (Some (Addi a (signed imm))) (λ a8. from_a a8 (λ k rs x. addi_fits (signed imm) imm_signed x))
      then uses_a_b (Some (Sub a b)) (λ a8 b8. from_a_b a8 b8 (λ k rs x y. sub_fits x y))
      then uses_a_imm (Some (Andi a imm)) (λ a8. from_a a8 (λ k rs x. and_fits imm x))
      then uses_a (Some (Guard a)) (λ a8. from_a a8 (λ k rs x. guard_fits lk x))
      then uses_a_w (Some (Shr a w)) (λ a8. from_a a8 (λ k rs x. shr_fits w x))
      then uses_a_w (Some (Sar a w)) (λ a8. from_a a8 (λ k rs x. sar_fits w x))
      then uses_all _ (λ a8 b8. mapped_row (SoundIn l) (λ (v : LoadWidth). Load a b v (signed imm)) (load_width_of w) (λ v. access_sound a8 b8 (width_read v)))
      then uses_all _ (λ a8 b8. mapped_row (SoundIn l) (λ (v : Width). Store a b v (signed imm)) (width_of w) (access_sound a8 b8))
      then provided_row (SoundIn l) (has_imm a b w) (Some (Jump imm)) (λ _. tt)
      then uses_all _ (λ a8 b8. mapped_row (SoundIn l) (λ (t : Test). Branch a b t imm) (test_of w) (λ t. record { left = a8; right = b8 }))
      then uses_a (Some (Check a)) (λ a8. a8)
      then uses_a (Some (Jumpr a)) (λ a8. a8)
      then no_more

-- every index of a module has a sound shape
pub code_sound : (code : List ℕ) → ((i : ℕ) → byte_at code i < 256) → {l : Layout} → LayoutKept l → (targets : List ℕ) (j : ℕ)
    → Sound l (shape_at (program_of l code targets) j)
unfolding shape
code_sound code bytes {l} lk targets j = code_holds (SoundIn l) (rows_sound lk) tt code bytes l targets j
