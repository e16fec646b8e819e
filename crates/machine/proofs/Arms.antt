-- The arms of `execute`: what each leaves is the model's step of its instruction, by the table's shape for it and the laws of
-- settling. Assumes nothing.
use Rattle.std.specs.Prelude.{◌≡◌, ℕ, ◌<◌, true, false, List, [], ℤ, pos, ◌+ℤ◌, Result, Err}
use lib.Signed.{mag}
use mir.Syntax.{w32}
use mir.Val.{of_z, to_z}
use mir.ValLaws.{to_z-of_z}
use Rattle.model.specs.declared.Ending.{Ending}
use Rattle.model.specs.declared.Ending.TheVariants.{Halted, Denied}
use Rattle.model.specs.declared.Instruction.{Instruction}
use Rattle.model.specs.declared.Instruction.TheVariants.{Halt, Load, Store, Jump, Branch, Check, Jumpr}
use Rattle.model.specs.declared.Layout.{Layout}
use Rattle.model.specs.declared.LoadWidth.{LoadWidth}
use Rattle.model.specs.declared.Machine.{Machine}
use Rattle.model.specs.declared.Range.{Range}
use Rattle.model.specs.declared.Ranges.{Ranges}
use Rattle.model.specs.declared.Test.{Test}
use Rattle.model.specs.declared.Width.{Width}
use Rattle.model.specs.Words.{wrap}
use Rattle.model.specs.Program.{Program, is_indirect}
use Rattle.model.specs.Instructions.{holds, reg, assigns, shape}
use Rattle.model.specs.Step.{effect, step_of}
use Rattle.machine.specs.Core.{onward_of, jump_of, jump_via_of, StepPost, AssignPost, LoadPost, StorePost}
use Rattle.machine.proofs.Settling.{jump_settles, via_settles, ending_settles, onward_unchanged}

-- a register plus a displacement, which was kept as bits
pub displaced_by : (rs : List ℕ) (r x v : ℕ) (imm : ℤ) → mag imm < 0x8000_0000 → x ≡ reg rs r
    → v ≡ wrap (pos x +ℤ to_z w32 (of_z w32 imm)) → v ≡ wrap (pos (reg rs r) +ℤ imm)
displaced_by rs r x v imm small read made = rw (made, read, to_z-of_z w32 imm (record { sfits = small }))

module _ (p : Program) (m : Machine) (bs : List ℕ) where
  module _ {i j : Instruction} (told : i ≡ j) (next : Result ℕ Ending) where
    -- an instruction that assigns a value
    pub assigned : (a v : ℕ) (value : Layout → List ℕ → ℕ) (ranged : Range → Ranges → Range) (rs' : List ℕ)
        → shape j ≡ assigns a value ranged → v ≡ value p.layout m.registers → AssignPost p m a v next rs'
        → StepPost (step_of p i m bs) next rs' bs
    unfolding step_of effect
    assigned a v value ranged rs' shaped computed post = rw (told, shaped, ← computed) (post bs [])

  module _ (i : Instruction) where
    pub halted : i ≡ Halt → StepPost (step_of p i m bs) (Err Halted) m.registers bs
    unfolding step_of shape effect
    halted told = rw told (ending_settles p m bs Halted [])

    pub denied : (a : ℕ) → i ≡ Check a → is_indirect p.targets (reg m.registers a) ≡ false
        → StepPost (step_of p i m bs) (Err Denied) m.registers bs
    unfolding step_of shape effect
    denied a told direct = rw (told, direct) (ending_settles p m bs Denied [])

    module _ (next : Result ℕ Ending) where
      module _ (a b : ℕ) (imm : ℤ) (at : ℕ) (computed : at ≡ wrap (pos (reg m.registers b) +ℤ imm)) where
        pub loaded : (v : LoadWidth) → i ≡ Load a b v imm → (rs' : List ℕ) → LoadPost p m bs a v at next rs'
            → StepPost (step_of p i m bs) next rs' bs
        unfolding step_of shape effect
        loaded v told rs' post = rw (told, ← computed) (post _)

        pub stored : (w : Width) → i ≡ Store a b w imm → (value : ℕ) (bs' : List ℕ) → value ≡ reg m.registers a
            → StorePost p m.pc bs value w at next bs' → StepPost (step_of p i m bs) next m.registers bs'
        unfolding step_of shape effect
        stored w told value bs' read post = rw (told, ← computed, ← read) (post m.registers _)

      module _ (to : ℕ) (goes : next ≡ jump_of p to) where
        pub jumped : i ≡ Jump to → StepPost (step_of p i m bs) next m.registers bs
        unfolding step_of shape effect
        jumped told = rw (told, goes) (jump_settles p m bs to [])

        pub branched : (a b : ℕ) (test : Test) → i ≡ Branch a b test to → holds test (reg m.registers a) (reg m.registers b) ≡ true
            → StepPost (step_of p i m bs) next m.registers bs
        unfolding step_of shape effect
        branched a b test told met = rw (told, met, goes) (jump_settles p m bs to [])

      module _ (goes : next ≡ onward_of p m.pc) where
        pub not_branched : (a b : ℕ) (test : Test) (to : ℕ) → i ≡ Branch a b test to
            → holds test (reg m.registers a) (reg m.registers b) ≡ false → StepPost (step_of p i m bs) next m.registers bs
        unfolding step_of shape effect
        not_branched a b test to told unmet = rw (told, unmet, goes) (onward_unchanged p m bs [])

        pub checked : (a : ℕ) → i ≡ Check a → is_indirect p.targets (reg m.registers a) ≡ true
            → StepPost (step_of p i m bs) next m.registers bs
        unfolding step_of shape effect
        checked a told indirect = rw (told, indirect, goes) (onward_unchanged p m bs [])

      pub jumped_via : (a : ℕ) → i ≡ Jumpr a → next ≡ jump_via_of p (reg m.registers a)
          → StepPost (step_of p i m bs) next m.registers bs
      unfolding step_of shape effect
      jumped_via a told goes = rw (told, goes) (via_settles p m bs (reg m.registers a) [])
