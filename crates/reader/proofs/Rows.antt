-- The decoder's tables: past the rows there is no instruction, which numbers are a width or a test, and what is made of one.
-- Assumes nothing.
use Prim.Native.Nat.{ℕ, zero, suc, ◌≤◌, zero-le}
use mathlib.Core.Bool.{Bool, true, false}
use mathlib.Core.List.{List, [], ◌∷◌}
use Rattle.std.specs.Prelude.{Option, None, Some, option_map}
use mathlib.Core.Path.{◌≡◌, refl, sym}
use native.Mathlib.Omega.{arith}
use lib.ListN.{length, get_or, get_or-eq_default}
use borrow.Author.Tests.{ne_eqb}
use Rattle.model.specs.declared.Instruction.{Instruction}
use Rattle.model.specs.declared.LoadWidth.TheVariants.{Unsigned}
use Rattle.model.specs.declared.Test.TheVariants.{Equal, Below, SignedBelow}
use Rattle.std.specs.Bool.{then_some}
use Rattle.std.specs.Option.{is_some}
use Rattle.model.specs.Quantifiers.{any_of}
use Rattle.model.specs.File.{width_of, load_width_of, test_of, provided, rows, decode}

-- what the last arm of a match knows of x, where the arms before it name the numbers below n in order
abbrev pub NoneBelow : ℕ → ℕ → Type 0
NoneBelow zero x = Unit {0}
NoneBelow (suc n) x = NoneBelow n x × (x ≡ n → ⊥)

past_all : (n x : ℕ) → NoneBelow n x → n ≤ x
past_all zero x others = zero-le
past_all (suc n) x others = let past = past_all n x others.0 in omega (arith, others.1)

past_rows : {A : Type 0} (table : List (Option A)) (x : ℕ) → NoneBelow (length table) x → None ≡ get_or table x None
past_rows table x others = sym (get_or-eq_default table None (past_all (length table) x others))

pub no_instruction_lem : (op a b w imm : ℕ) → NoneBelow 16 op → None ≡ decode op a b w imm
unfolding decode rows
no_instruction_lem op a b w imm others = past_rows (rows a b w imm) op others

-- which numbers are no width and no test
pub no_width : (w : ℕ) → ((Unit {0} × (w ≡ 1 → ⊥)) × (w ≡ 2 → ⊥)) × (w ≡ 4 → ⊥) → None ≡ width_of w
no_width zero others = refl
no_width (suc zero) others = absurd (others.0.0.1 refl)
no_width (suc (suc zero)) others = absurd (others.0.1 refl)
no_width (suc (suc (suc zero))) others = refl
no_width (suc (suc (suc (suc zero)))) others = absurd (others.1 refl)
no_width (suc (suc (suc (suc (suc w))))) others = refl

pub no_test : (w : ℕ) → NoneBelow 3 w → None ≡ test_of w
no_test w others = past_rows (Some Equal ∷ Some Below ∷ Some SignedBelow ∷ []) w others

-- but for the two that a load alone has, its widths are those of a store
pub unsigned_only : (w : ℕ) → (Unit {0} × (w ≡ 129 → ⊥)) × (w ≡ 130 → ⊥) → load_width_of w ≡ option_map Unsigned (width_of w)
unsigned_only w others = rw (ne_eqb w 129 others.0.1, ne_eqb w 130 others.1)

-- a row whose instruction needs nothing looked up, and one that has something to look up
pub provided_some : (good : Bool) (x : Instruction) → then_some good x ≡ provided good (Some x)
provided_some true x = refl
provided_some false x = refl

pub provided_mapped : {A : Type 0} (good : Bool) (make : A → Instruction) (o : Option A) (v : A) → o ≡ Some v
    → then_some good (make v) ≡ provided good (option_map make o)
provided_mapped true make o v there = rw there
provided_mapped false make o v there = refl

pub provided_none : {A : Type 0} (good : Bool) (make : A → Instruction) (o : Option A) → o ≡ None
    → None ≡ provided good (option_map make o)
provided_none true make o none = rw none
provided_none false make o none = refl

pub any_is_some : {A : Type 0} (o : Option A) → any_of o (λ x. true) ≡ is_some o
any_is_some None = refl
any_is_some (Some x) = refl
