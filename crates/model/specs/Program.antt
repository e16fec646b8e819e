-- A module as the verifier and the machine see it: layout, instructions, targets. Assumes nothing.
use Rattle.std.specs.Prelude.{ℕ, Bool, true, false, List, [], ◌∷◌, eqb, get_or, Option, None, Some}
use Rattle.model.specs.declared.Instruction.{Instruction}
use Rattle.model.specs.declared.Instruction.TheVariants.{Halt}
use Rattle.model.specs.declared.Layout.{Layout}
use Rattle.model.specs.declared.Target.{Target}
use Rattle.model.specs.Quantifiers.{any_of}

pub record Program : Type 0 where
  pub layout : Layout
  pub code : List Instruction
  pub targets : List Target

-- the instruction at an index; past the last a halt, which nothing reaches
abbrev pub code_at : Program → ℕ → Instruction
code_at p i = get_or p.code i Halt

-- the target (door) at an index
unfoldable pub target_at : List Target → ℕ → Option Target
target_at [] i = None
target_at (t ∷ ts) i = elim (eqb t.index i) [ true ↦ Some t | false ↦ target_at ts i ]

abbrev pub is_target : List Target → ℕ → Bool
is_target ts i = any_of (target_at ts i) (λ t. true)

-- an indirect target (open door)
abbrev pub is_indirect : List Target → ℕ → Bool
is_indirect ts i = any_of (target_at ts i) (λ t. t.indirect)
