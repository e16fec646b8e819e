-- A run of an accepted module from a machine with the invariant, with any budget and any bytes in the region: the invariant holds
-- at its end, every step that it logs is as demand 3 says, and it does not end by straying. Assumes nothing.
use Prim.Native.Nat.{ℕ, zero, suc}
use mathlib.Core.Path.{◌≡◌, sym, ap, subst}
use mathlib.Core.Logic.{⊎_elim}
use mathlib.Core.List.Memᴰ
use mathlib.Core.List.{List, Memᴰ}
use Rattle.std.specs.Prelude.{Option, None, Some}
use native.Mathlib.Omega.{arith}
use Rattle.model.specs.declared.Ending.{Ending}
use Rattle.model.specs.declared.Ending.TheVariants.{Violated, OutOfBudget}
use Rattle.model.specs.declared.Limits.{Limits}
use Rattle.model.specs.declared.Machine.{Machine}
use Rattle.model.specs.Program.{Program}
use Rattle.model.specs.Step.{Step, step}
use Rattle.model.specs.File.{program_in}
use Rattle.model.specs.Run.{Run, followed, run}
use Rattle.model.specs.Safety.{Bytes}
use Rattle.safety.proofs.Invariant.{Invariant, Accepted}
use Rattle.safety.proofs.SafeStep.{StepKept, step_kept}

-- what holds after a run
pub record RunKept (p : Program) (r : Run) : Type 0 where
  pub invariant : Invariant p r.machine
  pub bytes : Bytes p.layout.size r.region
  pub steps : (s : Step) → Memᴰ s r.log → StepKept p s
  pub unviolated : r.ending ≡ Violated → ⊥

followed_kept : (p : Program) (s : Step) (rest : Run) (ending : Option Ending) → (ending ≡ Some Violated → ⊥) → StepKept p s
    → RunKept p rest → RunKept p (followed s rest ending)
followed_kept p s rest None not-violated first others = record {
  invariant = others.invariant;
  bytes = others.bytes;
  steps = λ made logged. ⊎_elim (λ is. subst (StepKept p) (sym is) first) (others.steps made) (Memᴰ.cases_cons logged);
  unviolated = others.unviolated;
}
followed_kept p s rest (Some e) not-violated first others = record {
  invariant = first.invariant;
  bytes = first.bytes;
  steps = λ made logged. subst (StepKept p) (sym (Memᴰ.eq_of_singleton logged)) first;
  unviolated = λ violated. not-violated (ap Some violated);
}

-- a run whose budget is used did not stray
out_of_budget : OutOfBudget ≡ Violated → ⊥
out_of_budget same = let impossible : ◌≡◌ {A = ℕ} 0 1 = cc in omega arith

-- a run keeps the invariant, each of its steps is safe, and it does not end by straying
pub run_kept : {limits : Limits} {file : List ℕ} → Accepted limits file → (budget : ℕ) (m : Machine) (bs : List ℕ) → Invariant (program_in file) m
    → Bytes (program_in file).layout.size bs → RunKept (program_in file) (run (program_in file) budget m bs)
unfolding run
run_kept accepted zero m bs invariant bytes =
    record {
      invariant = invariant;
      bytes = bytes;
      steps = λ s logged. absurd (Memᴰ.not-nil logged);
      unviolated = out_of_budget;
    }
run_kept {file} accepted (suc budget) m bs invariant bytes =
    let p : Program = program_in file in
    let s : Step = step p m bs in
    let first : StepKept p s = step_kept accepted invariant bytes in
    followed_kept p s (run p budget s.machine s.region) s.ending first.safe.inside first
    (run_kept accepted budget s.machine s.region first.invariant first.bytes)
