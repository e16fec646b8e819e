-- What is known of a module that was read. Its type holds truncated that it keeps rules 5 to 7 as the machine needs them; each of these
-- facts is an equation or an order, so it follows. Assumes nothing.
use Rattle.std.specs.Prelude.{◌≡◌, ℕ, ◌+◌, ◌-◌, ◌%◌, ◌<◌, ◌≤◌, Bool, List, length, Option, None, Some, unwrap_or}
use Rattle.std.specs.Coded.{le_prop}
use Rattle.std.proofs.Math.Bool.{Bool-set}
use Rattle.std.proofs.Math.Logic.{∥∥₁_elim}
use Rattle.std.proofs.Math.Nat.{ℕ_set}
use mathlib.Core.HLevel.{⊥_prop}
use mathlib.Core.Path.{refl, sym, ap, ◌∙◌}
use native.Mathlib.Omega.{arith}
use lib.Bits.{bit_and, and_mask}
use Rattle.std.proofs.lemmas.Option.{none-some}
use Rattle.model.specs.declared.Ending.{Ending}
use Rattle.model.specs.declared.Instruction.{Instruction}
use Rattle.model.specs.declared.Instruction.TheVariants.{Halt}
use Rattle.model.specs.declared.Machine.{Machine}
use Rattle.model.specs.declared.Target.{Target}
use Rattle.model.specs.Words.{modulus}
use Rattle.model.specs.Quantifiers.{any_of}
use Rattle.model.specs.Program.{code_at, target_at}
use Rattle.model.specs.Lookup.{number_at}
use Rattle.model.specs.File.{instruction_at, instruction_in, instruction_count}
use Rattle.model.specs.Rules.{LayoutKept, InstructionKept}
use Rattle.model.specs.Step.{step}
use Rattle.model.proofs.Steady.{Steady}
use Rattle.model.proofs.Targets.{readable_steady, code_at_lem}
use Rattle.model.proofs.Values.{least_size, most_size}
use Rattle.reader.specs.Decoding.{Fetches}
use Rattle.reader.specs.Loading.{Loaded}
use Rattle.reader.specs.declared.module.Module.{Module}
use Rattle.reader.proofs.Fetching as Fetching
use Rattle.lookup.specs.Found.{target_found}
use Rattle.lookup.proofs.Listed.{found_target}
use Rattle.reader.specs.Readings.{program}

-- what the layout of a module keeps, in numbers
pub record LayoutBounds (base size guard : ℕ) : Type 0 where
  pub least : 256 ≤ size
  pub most : size ≤ 65536
  pub small : guard ≤ 4096
  pub below : guard ≤ base
  pub above : base + size + guard ≤ modulus

module _ (m : Module) where
  abbrev Held : Type 0
  Held = Loaded m.layout m.code.now m.targets.now m.held.instructions m.held.targets

  -- its layout keeps rule 5
  pub by_layout : {P : Type 0} → IsProp P → (LayoutKept m.layout → P) → P
  by_layout only shown = ∥∥₁_elim m.loaded only (λ h. shown h.kept.layout)

  pub bounds : LayoutBounds m.layout.base m.layout.size m.layout.guard
  bounds = record {
    least = by_layout le_prop least_size;
    most = by_layout le_prop most_size;
    small = by_layout le_prop (λ kept. kept.guard);
    below = by_layout le_prop (λ kept. kept.below);
    above = by_layout le_prop (λ kept. kept.above);
  }

  -- the size is a power of two, so the mask below it leaves the rest
  pub masked : (x : ℕ) → bit_and x (m.layout.size - 1) ≡ x % m.layout.size
  masked x = by_layout (ℕ_set _ _) (λ kept. rw kept.power.3 (and_mask x kept.power.0))

  -- its instructions are those that are held
  pub program_count : length (program m).code ≡ m.held.instructions
  program_count = ∥∥₁_elim m.loaded (ℕ_set _ _) (λ h. Fetching.program_count h)

  pub few_instructions : m.held.instructions ≤ 4096
  few_instructions = ∥∥₁_elim m.loaded le_prop (λ h. h.n_most)

  -- what is fetched is the program's
  pub fetched : (i : ℕ) → i < m.held.instructions → (x : Instruction) → Fetches m.code.now i x → x ≡ code_at (program m) i
  fetched i below x fetches = by_decoded (instruction_in m.code.now i) refl
    where
      by_decoded : (decoded : Option Instruction) → instruction_in m.code.now i ≡ decoded → x ≡ code_at (program m) i
      by_decoded (Some y) is =
          let there : instruction_at i + 8 ≤ length m.code.now = ∥∥₁_elim m.loaded le_prop (λ h. omega (arith, h.code_whole)) in
          let counted : instruction_count m.code.now ≡ m.held.instructions = ∥∥₁_elim m.loaded (ℕ_set _ _) (λ h. Fetching.counted h) in
          fetches.is there y is ∙ ap (λ o. unwrap_or o Halt) (sym is) ∙ code_at_lem m.layout m.code.now m.targets.now i (omega (arith, counted))
      by_decoded None is =
          absurd (∥∥₁_elim m.loaded ⊥_prop (λ h.
          let kept : InstructionKept (instruction_in m.code.now i) = h.kept.each_instruction i (omega (arith, Fetching.counted h)) in
          none-some _ (sym is ∙ kept.1)))

  -- what is asked of the target that a lookup found is asked of the one that the program has
  pub asked_of_found : (to : ℕ) (found : Option ℕ) → found ≡ number_at (program m).targets to → (test : Target → Bool)
      → any_of (target_found m.targets.now found) test ≡ any_of (target_at (program m).targets to) test
  asked_of_found to found is test =
      ∥∥₁_elim m.loaded (Bool-set _ _) (λ h. ap (λ (t : Option Target). any_of t test) (found_target h to found is))

  -- a step of it keeps the pc inside and the region's length, and the pc where it ends the run
  module _ (s : Machine) (bs : List ℕ) (inside : s.pc < m.held.instructions) where
    by_steady : {P : Type 0} → IsProp P → (Steady (program m) s bs (step (program m) s bs) → P) → P
    by_steady only shown =
        ∥∥₁_elim m.loaded only (λ h. shown (readable_steady h.kept s bs (rw (Fetching.counted h) inside)).0)

    pub pc_inside : (step (program m) s bs).machine.pc < m.held.instructions
    pc_inside = by_steady le_prop (λ steady. omega (arith, steady.pc_inside, program_count))

    pub region_length : length (step (program m) s bs).region ≡ length bs
    region_length = by_steady (ℕ_set _ _) (λ steady. steady.region_length)

    pub pc_kept : (e : Ending) → (step (program m) s bs).ending ≡ Some e → (step (program m) s bs).machine.pc ≡ s.pc
    pc_kept e ended = by_steady (ℕ_set _ _) (λ steady. ap (λ (x : Machine). x.pc) (steady.ending_keeps e ended).0)
