-- The code and the targets of a module: an index has the instruction of its bytes; and, where rules 5 to 7 are kept but for the order of claims' ends, what is found
-- at an index is one of its targets, it lies inside the code, and an indirect one claims nothing. Assumes nothing.
use Prim.Native.Nat.{ℕ, zero, suc, ◌+◌, ◌≤◌, ◌<◌}
use mathlib.Core.Path.{◌≡◌, refl, sym, subst}
use mathlib.Core.Bool.{Bool, true, false}
use mathlib.Core.List.{List}
use Rattle.std.specs.Prelude.{Option, Some, unwrap_or}
use Rattle.std.proofs.lemmas.Option.{none-some, same_Some}
use native.Mathlib.Omega.{arith}
use lib.Dec.{eqb}
use lib.ListN.{length}
use borrow.Author.Tests.{eqb-true}
use Rattle.model.specs.declared.Instruction.TheVariants.{Halt}
use Rattle.model.specs.declared.Layout.{Layout}
use Rattle.model.specs.declared.Machine.{Machine}
use Rattle.model.specs.declared.Target.{Target}
use Rattle.model.specs.Ranges.{low, high}
use Rattle.model.specs.Program.{code_at, target_at}
use Rattle.model.specs.Step.{step}
use Rattle.model.specs.File.{instruction_count, target_count, instruction_in, tabulate, claim_in, target_in, target_row_in, indirect_claim, program_of}
use Rattle.model.specs.Rules.{TargetPlaced, ModuleKept, ModulePlaced}
use Rattle.model.specs.Run.{run}
use Rattle.model.proofs.Steady.{TargetsInside, Steady, RunSteady, step_steady, run_steady}
use Rattle.model.proofs.Tabulate.{length-tabulate, table_at}

module _ (l : Layout) (code targets : List ℕ) where
  -- a module has as many instructions as its code has bytes for
  pub code_length : length (program_of l code targets).code ≡ instruction_count code
  unfolding program_of
  code_length = length-tabulate 0 (instruction_count code) (λ i. unwrap_or (instruction_in code i) Halt)

  -- the instruction at an index is what its eight bytes are
  pub code_at_lem : (i : ℕ) → i < instruction_count code → unwrap_or (instruction_in code i) Halt ≡ code_at (program_of l code targets) i
  unfolding program_of
  code_at_lem i below =
      sym (table_at (λ j. unwrap_or (instruction_in code j) Halt) Halt (instruction_count code) i below)

-- what is found at index i in a table of targets is the entry of some number, and has that index
pub record Found (f : ℕ → Target) (from count i : ℕ) (t : Target) : Type 0 where
  pub number : ℕ
  pub least : from ≤ number
  pub most : number < from + count
  pub is : f number ≡ t
  pub index : (f number).index ≡ i

pub found : (f : ℕ → Target) (from count i : ℕ) (t : Target) → target_at (tabulate from count f) i ≡ Some t → Found f from count i t
unfolding target_at tabulate
found f from zero i t e = absurd (none-some t e)
found f from (suc count) i t e = here_or_later (eqb (f from).index i) refl (λ q. found f (suc from) count i t q) e
  where
    here_or_later : (b : Bool) → eqb (f from).index i ≡ b
        → (target_at (tabulate (suc from) count f) i ≡ Some t → Found f (suc from) count i t)
        → elim b as (λ _. Option Target) [ true ↦ Some (f from) | false ↦ target_at (tabulate (suc from) count f) i ] ≡ Some t
        → Found f from (suc count) i t
    here_or_later true same later q =
        record { number = from; least = omega arith; most = omega arith; is = same_Some (f from) t q; index = eqb-true _ _ same }
    here_or_later false other later q =
        let l = later q in
        record { number = l.number; least = omega (arith, l.least); most = omega (arith, l.most); is = l.is; index = l.index }

-- what keeps 7 keeps it but for the order of claims' ends
pub module_placed : {l : Layout} {code targets : List ℕ} → ModuleKept l code targets → ModulePlaced l code targets
module_placed kept = record {
  layout = kept.layout;
  each_instruction = kept.each_instruction;
  each_target = λ j below. (kept.each_target j below).placed;
}

-- what is said of a target of a module
pub record TargetFacts (n i : ℕ) (t : Target) : Type 0 where
  pub inside : i < n
  pub lows8 : length t.claim.lows ≡ 8
  pub highs8 : length t.claim.highs ≡ 8
  pub indirect : t.indirect ≡ true → (r : ℕ) → r < 8
      → (low t.claim r ≡ low indirect_claim r) × (high t.claim r ≡ high indirect_claim r)

module _ {l : Layout} {code targets : List ℕ} (kept : ModulePlaced l code targets) where
  pub target_facts : (i : ℕ) (t : Target) → target_at (program_of l code targets).targets i ≡ Some t
      → TargetFacts (length (program_of l code targets).code) i t
  unfolding program_of target_in claim_in
  target_facts i t e =
      let f : Found (target_in targets) 0 (target_count targets) i t = found (target_in targets) 0 (target_count targets) i t e in
      let good : TargetPlaced (instruction_count code) (target_row_in targets) f.number = kept.each_target f.number (omega (arith, f.most)) in
      subst (TargetFacts (length (program_of l code targets).code) i) f.is
      (record {
        inside = omega (arith, good.inside, f.index, code_length l code targets);
        lows8 = length-tabulate 0 8 _;
        highs8 = length-tabulate 0 8 _;
        indirect = λ is r below. good.indirect (eqb-true _ _ is) r below;
      })

  -- every target lies inside the code
  pub targets_inside : TargetsInside (program_of l code targets)
  targets_inside i t e = (target_facts i t e).inside

  -- so any step and any run, verified or not, are steady
  pub readable_steady : (m : Machine) (bs : List ℕ) → m.pc < instruction_count code
      → Steady (program_of l code targets) m bs (step (program_of l code targets) m bs)
      × ((budget : ℕ) → RunSteady (program_of l code targets) m bs (run (program_of l code targets) budget m bs))
  readable_steady m bs below =
      let inside : m.pc < length (program_of l code targets).code = rw code_length below in (
        step_steady (program_of l code targets) targets_inside m bs inside,
        λ budget. run_steady (program_of l code targets) targets_inside budget m bs inside,
      )
