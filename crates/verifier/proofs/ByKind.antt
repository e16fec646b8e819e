-- The traits of an instruction that a match leaves to its last arm: one of any kind but those that other arms name. Assumes nothing.
use Prim.Native.Nat.{ℕ}
use mathlib.Core.Path.{◌≡◌, refl}
use mathlib.Core.Bool.{true}
use mathlib.Core.List.{List}
use Rattle.std.specs.Prelude.{None}
use lib.IntN.{ℤ}
use Rattle.model.specs.declared.Instruction.{Instruction}
use Rattle.model.specs.declared.Instruction.TheVariants.{Halt, Set, Copy, Add, Addi, Sub, Andi, Guard, Shr, Sar, Load, Store, Jump, Branch, Check, Jumpr}
use Rattle.model.specs.declared.Layout.{Layout}
use Rattle.model.specs.declared.LoadWidth.{LoadWidth}
use Rattle.model.specs.declared.Range.{Range}
use Rattle.model.specs.declared.Ranges.{Ranges}
use Rattle.model.specs.declared.Test.{Test}
use Rattle.model.specs.declared.Width.{Width}
use Rattle.model.specs.Instructions.{Shape, stops, assigns, loads, stores, jumps, branches, checks, jumps_via, shape, traits}

-- what holds of every kind's shape, where an instruction that does not assign is given with its kind
by_kind : (P : Shape → Type 0) (x : Instruction) → (x ≡ Halt → P stops)
    → ((a : ℕ) (value : Layout → List ℕ → ℕ) (ranged : Range → Ranges → Range) → P (assigns a value ranged))
    → ((a b : ℕ) (v : LoadWidth) (imm : ℤ) → x ≡ Load a b v imm → P (loads a b v imm))
    → ((a b : ℕ) (w : Width) (imm : ℤ) → x ≡ Store a b w imm → P (stores a (record { pointer = b; width = w; displacement = imm })))
    → ((to : ℕ) → x ≡ Jump to → P (jumps to))
    → ((a b : ℕ) (test : Test) (to : ℕ) → x ≡ Branch a b test to → P (branches test a b to))
    → ((a : ℕ) → x ≡ Check a → P (checks a))
    → ((a : ℕ) → x ≡ Jumpr a → P (jumps_via a))
    → P (shape x)
unfolding shape
by_kind P Halt h s l w j b c v = h refl
by_kind P (Set a imm) h s l w j b c v = s _ _ _
by_kind P (Copy a d) h s l w j b c v = s _ _ _
by_kind P (Add a d) h s l w j b c v = s _ _ _
by_kind P (Addi a imm) h s l w j b c v = s _ _ _
by_kind P (Sub a d) h s l w j b c v = s _ _ _
by_kind P (Andi a imm) h s l w j b c v = s _ _ _
by_kind P (Guard a) h s l w j b c v = s _ _ _
by_kind P (Shr a n) h s l w j b c v = s _ _ _
by_kind P (Sar a n) h s l w j b c v = s _ _ _
by_kind P (Load a d width imm) h s l w j b c v = l a d width imm refl
by_kind P (Store a d width imm) h s l w j b c v = w a d width imm refl
by_kind P (Jump to) h s l w j b c v = j to refl
by_kind P (Branch a d test to) h s l w j b c v = b a d test to refl
by_kind P (Check a) h s l w j b c v = c a refl
by_kind P (Jumpr a) h s l w j b c v = v a refl

-- any kind but halt, jump and jumpr goes on
pub others_fall : (x : Instruction) → (x ≡ Halt → ⊥) → ((to : ℕ) → x ≡ Jump to → ⊥) → ((a : ℕ) → x ≡ Jumpr a → ⊥)
    → true ≡ (traits (shape x)).falls
others_fall x no_halt no_jump no_jumpr =
    by_kind (λ s. true ≡ (traits s).falls) x (λ e. absurd (no_halt e)) (λ a v r. refl) (λ a b v imm e. refl) (λ a b w imm e. refl)
    (λ to e. absurd (no_jump to e)) (λ a b t to e. refl) (λ a e. refl) (λ a e. absurd (no_jumpr a e))

-- but a load and a store makes no access
pub others_access_nothing : (x : Instruction) → ((a b : ℕ) (v : LoadWidth) (imm : ℤ) → x ≡ Load a b v imm → ⊥)
    → ((a b : ℕ) (w : Width) (imm : ℤ) → x ≡ Store a b w imm → ⊥) → (traits (shape x)).access ≡ None
others_access_nothing x no_load no_store =
    by_kind (λ s. (traits s).access ≡ None) x (λ e. refl) (λ a v r. refl) (λ a b v imm e. absurd (no_load a b v imm e))
    (λ a b w imm e. absurd (no_store a b w imm e)) (λ to e. refl) (λ a b t to e. refl) (λ a e. refl) (λ a e. refl)

-- but a jump and a branch names no index
pub others_name_nothing : (x : Instruction) → ((to : ℕ) → x ≡ Jump to → ⊥)
    → ((a b : ℕ) (test : Test) (to : ℕ) → x ≡ Branch a b test to → ⊥) → (traits (shape x)).names ≡ None
others_name_nothing x no_jump no_branch =
    by_kind (λ s. (traits s).names ≡ None) x (λ e. refl) (λ a v r. refl) (λ a b v imm e. refl) (λ a b w imm e. refl)
    (λ to e. absurd (no_jump to e)) (λ a b t to e. absurd (no_branch a b t to e)) (λ a e. refl) (λ a e. refl)

-- but a check looks at no register
pub others_look_at_nothing : (x : Instruction) → ((a : ℕ) → x ≡ Check a → ⊥) → (traits (shape x)).looks_at ≡ None
others_look_at_nothing x no_check =
    by_kind (λ s. (traits s).looks_at ≡ None) x (λ e. refl) (λ a v r. refl) (λ a b v imm e. refl) (λ a b w imm e. refl)
    (λ to e. refl) (λ a b t to e. refl) (λ a e. absurd (no_check a e)) (λ a e. refl)

-- but a jumpr goes by no register
pub others_go_by_nothing : (x : Instruction) → ((a : ℕ) → x ≡ Jumpr a → ⊥) → (traits (shape x)).goes_by ≡ None
others_go_by_nothing x no_jumpr =
    by_kind (λ s. (traits s).goes_by ≡ None) x (λ e. refl) (λ a v r. refl) (λ a b v imm e. refl) (λ a b w imm e. refl)
    (λ to e. refl) (λ a b t to e. refl) (λ a e. refl) (λ a e. absurd (no_jumpr a e))
