-- The loop of a run: after the steps made, what is left of the run comes to what the whole run comes to. Assumes nothing.
use Rattle.std.specs.Prelude.{◌≡◌, ℕ, suc, ◌+◌, ◌-◌, ◌<◌, ◌≤◌, List, length, Result, Ok, Err, Option, None, Some}
use mathlib.Core.Path.{refl, sym, ap, ◌∙◌}
use native.Mathlib.Nat.{sub-zero}
use native.Mathlib.Omega.{arith}
use Rattle.model.specs.declared.Ending.{Ending}
use Rattle.model.specs.declared.Ending.TheVariants.{OutOfBudget}
use Rattle.model.specs.declared.Instruction.{Instruction}
use Rattle.model.specs.declared.Machine.{Machine}
use Rattle.model.specs.declared.Outcome.{Outcome}
use Rattle.model.specs.Step.{step_of, step}
use Rattle.model.specs.Run.{Run, run, steps}
use Rattle.model.proofs.Joining.{Continues, continues_refl, continues_trans, continues_step, run_ends}
use Rattle.reader.specs.Decoding.{Fetches}
use Rattle.reader.specs.declared.module.Module.{Module}
use Rattle.machine.specs.Core.{next_for, StepPost, LoopPost}
use Rattle.reader.specs.Readings.{program}
use Rattle.machine.proofs.Modules.{fetched, pc_inside, region_length, pc_kept}

abbrev pub machine_of : List ℕ → ℕ → Machine
machine_of rs pc = record { registers = rs; pc = pc }

-- a run that ended, as the loop hands it back
abbrev ended_with : Machine → Ending → ℕ → Outcome
ended_with m e made = record { machine = m; answer = record { completion = Ok e; steps = made } }

-- the step of the instruction that was fetched is the step at the pc
pub steps_fetched : (m : Module) (pc : ℕ) → pc < m.held.instructions → (i : Instruction) → Fetches m.code.now pc i
    → (rs bs : List ℕ) (next : Result ℕ Ending) (rs' bs' : List ℕ)
    → StepPost (step_of (program m) i (machine_of rs pc) bs) next rs' bs' → StepPost (step (program m) (machine_of rs pc) bs) next rs' bs'
unfolding step
steps_fetched m pc inside i fetches rs bs next rs' bs' post = rw (fetched m pc inside i fetches) at post

-- what holds whenever the loop begins a step, or has none left to make
pub record Underway (m : Module) (budget : ℕ) (start : Machine) (region₀ : List ℕ) (now : Machine) (region : List ℕ) (made : ℕ)
    : Type 0 where
  pub within : made ≤ budget
  pub inside : now.pc < m.held.instructions
  pub room : length region ≡ length region₀
  pub continues : Continues (run (program m) budget start region₀) (run (program m) (budget - made) now region) made

pub underway_starts : (m : Module) (budget : ℕ) (start : Machine) (region : List ℕ) → start.pc < m.held.instructions
    → Underway m budget start region start region 0
underway_starts m budget start region below = record {
  within = omega arith;
  inside = below;
  room = refl;
  continues = rw sub-zero (continues_refl (run (program m) budget start region));
}

-- where a step goes tells whether it ended the run
to_none : (pc : ℕ) (ending : Option Ending) (to : ℕ) → next_for pc ending ≡ Ok to → (ending ≡ None) × (pc ≡ to)
to_none pc None to e = (refl, (cc))
to_none pc (Some x) to e = absurd (let impossible : ◌≡◌ {A = ℕ} 0 1 = cc in omega arith)

ends_some : (pc : ℕ) (ending : Option Ending) (e : Ending) → next_for pc ending ≡ Err e → ending ≡ Some e
ends_some pc None e same = absurd (let impossible : ◌≡◌ {A = ℕ} 0 1 = cc in omega arith)
ends_some pc (Some x) e same = cc

-- what the whole run comes to, where it is known what the rest of it comes to
run_over : (r rest : Run) (made : ℕ) → Continues r rest made
    → LoopPost r (ended_with rest.machine rest.ending (made + steps rest)) rest.region
run_over r rest made comes = record {
  machine = sym comes.machine;
  completion = ap Ok (sym comes.ending);
  count = sym comes.count;
  region = sym comes.region;
}

module _ {m : Module} {budget : ℕ} {start now : Machine} {region₀ region : List ℕ} {made : ℕ}
    (so_far : Underway m budget start region₀ now region made) where
  module _ (left : made < budget) {next : Result ℕ Ending} {rs' region' : List ℕ}
      (stepped : StepPost (step (program m) now region) next rs' region') where
    one_more : budget - made ≡ suc (budget - (made + 1))
    one_more = omega arith

    -- a step that goes somewhere
    module _ {to : ℕ} (goes : next ≡ Ok to) where
      went : ((step (program m) now region).ending ≡ None) × ((step (program m) now region).machine.pc ≡ to)
      went = to_none _ _ to (sym stepped.goes ∙ goes)

      machine_after : (step (program m) now region).machine ≡ machine_of rs' to
      machine_after =
          ap (machine_of (step (program m) now region).machine.registers) went.1
          ∙ ap (λ (rs : List ℕ). machine_of rs to) (sym stepped.registers)

      one_step : Continues (run (program m) (budget - made) now region)
          (run (program m) (budget - (made + 1)) (machine_of rs' to) region') 1
      one_step =
          rw (one_more, ← machine_after, stepped.region)
          (continues_step (program m) (budget - (made + 1)) now region went.0)

      pub goes_on_lem : Underway m budget start region₀ (machine_of rs' to) region' (made + 1)
      goes_on_lem = record {
        within = omega arith;
        inside = omega (arith, pc_inside m now region so_far.inside, went.1);
        room = ap length stepped.region ∙ (region_length m now region so_far.inside ∙ so_far.room);
        continues = continues_trans _ _ _ made 1 so_far.continues one_step;
      }

    -- a step that ends the run
    module _ {e : Ending} (over : next ≡ Err e) where
      ended : (step (program m) now region).ending ≡ Some e
      ended = ends_some _ _ e (sym stepped.goes ∙ over)

      machine_kept : (step (program m) now region).machine ≡ machine_of rs' now.pc
      machine_kept =
          ap (machine_of (step (program m) now region).machine.registers) (pc_kept m now region so_far.inside e ended)
          ∙ ap (λ (rs : List ℕ). machine_of rs now.pc) (sym stepped.registers)

      pub run_ended : (o : Outcome) → o ≡ ended_with (machine_of rs' now.pc) e (made + 1)
          → LoopPost (run (program m) budget start region₀) o region'
      run_ended o is =
          rw (is, ← machine_kept, stepped.region)
          (rw (one_more, run_ends (program m) (budget - (made + 1)) now region e ended) at
          (run_over _ _ made so_far.continues))

  -- the budget is used
  pub run_spent : budget ≤ made → (o : Outcome) → o ≡ ended_with now OutOfBudget budget
      → LoopPost (run (program m) budget start region₀) o region
  unfolding run
  run_spent used o is =
      let none_left : budget - made ≡ 0 = omega arith in
      let none_more : made + 0 ≡ made = omega arith in
      let all_made : budget ≡ made = let most = so_far.within in omega arith in
      rw (is ∙ ap (ended_with now OutOfBudget) all_made) (rw (none_left, none_more) at (run_over _ _ made so_far.continues))
