-- Two runs in a row are one: a run that used its budget up goes on as a run with a greater budget would; and the steps that a
-- run makes. Assumes nothing.
use Prim.Native.Nat.{ℕ, zero, suc, ◌+◌}
use mathlib.Core.Path.{◌≡◌, refl, ◌∙◌}
use mathlib.Core.List.{List, [], ◌∷◌}
use Rattle.std.specs.Prelude.{Option, None, Some}
use native.Mathlib.Nat.{zero-add, suc-add}
use native.Mathlib.Omega.{arith}
use Rattle.model.specs.declared.Ending.{Ending}
use Rattle.model.specs.declared.Ending.TheVariants.{OutOfBudget}
use Rattle.model.specs.declared.Machine.{Machine}
use Rattle.model.specs.Program.{Program}
use Rattle.model.specs.Step.{Step, step}
use Rattle.model.specs.Run.{Run, followed, run, steps}
use Rattle.model.proofs.Steady.{StepEnding, step_ending}

-- a run comes to what the rest of it comes to, with the steps made before added
pub record Continues (r rest : Run) (made : ℕ) : Type 0 where
  pub ending : r.ending ≡ rest.ending
  pub machine : r.machine ≡ rest.machine
  pub region : r.region ≡ rest.region
  pub count : steps r ≡ made + steps rest

-- before any step the rest is the whole
pub continues_refl : (r : Run) → Continues r r 0
continues_refl r = record { ending = refl; machine = refl; region = refl; count = omega arith }

-- the rest of the rest
pub continues_trans : (r rest last : Run) (made more : ℕ) → Continues r rest made → Continues rest last more
    → Continues r last (made + more)
continues_trans r rest last made more before after = record {
  ending = before.ending ∙ after.ending;
  machine = before.machine ∙ after.machine;
  region = before.region ∙ after.region;
  count = omega arith;
}

-- after a step that does not end it, a run goes on from there
pub continues_step : (p : Program) (budget : ℕ) (m : Machine) (bs : List ℕ) → (step p m bs).ending ≡ None
    → Continues (run p (suc budget) m bs) (run p budget (step p m bs).machine (step p m bs).region) 1
unfolding run
continues_step p budget m bs on = rw on (record { ending = refl; machine = refl; region = refl; count = omega arith })

-- a step that ends the run is its last
pub run_ends : (p : Program) (budget : ℕ) (m : Machine) (bs : List ℕ) (e : Ending) → (step p m bs).ending ≡ Some e
    → run p (suc budget) m bs
    ≡ record { ending = e; machine = (step p m bs).machine; region = (step p m bs).region; log = step p m bs ∷ [] }
unfolding run
run_ends p budget m bs e over = rw over

-- no step uses the budget up
not_by_step : (e : Ending) → StepEnding (Some e) → e ≡ OutOfBudget → ⊥
not_by_step e by-step out = rw out at by-step

followed_continues : (p : Program) (more : ℕ) (s : Step) (short joined : Run) (ending : Option Ending) → StepEnding ending
    → (followed s short ending).ending ≡ OutOfBudget
    → (short.ending ≡ OutOfBudget → Continues joined (run p more short.machine short.region) (steps short))
    → Continues (followed s joined ending)
    (run p more (followed s short ending).machine (followed s short ending).region) (steps (followed s short ending))
followed_continues p more s short joined None by-step out others =
    let later = others out in
    record { ending = later.ending; machine = later.machine; region = later.region; count = omega arith }
followed_continues p more s short joined (Some e) by-step out others = absurd (not_by_step e by-step out)

-- a run that used its budget up, and then another from where it left off, are one run with both budgets
pub joining : (p : Program) (first more : ℕ) (m : Machine) (bs : List ℕ) → (run p first m bs).ending ≡ OutOfBudget
    → Continues (run p (first + more) m bs) (run p more (run p first m bs).machine (run p first m bs).region)
    (steps (run p first m bs))
unfolding run
joining p zero more m bs out = rw zero-add (continues_refl (run p more m bs))
joining p (suc first) more m bs out =
    let s : Step = step p m bs in
    rw suc-add
    (followed_continues p more s (run p first s.machine s.region) (run p (first + more) s.machine s.region) s.ending
    (step_ending p m bs) out (joining p first more s.machine s.region))
