-- Document 02, ticket 6: a run makes at most its budget of steps, so in a width that holds the budget neither budget nor count loses
-- anything; and so runs join in that width as they do in natural numbers. Assumes nothing.
use Prim.Native.Nat.{ℕ, zero, suc, ◌+◌, ◌^◌, ◌≤◌, ◌<◌}
use mathlib.Core.Path.{◌≡◌, refl, sym, ap, ◌∙◌}
use mathlib.Core.List.{List}
use Rattle.std.specs.Prelude.{Option, None, Some}
use native.Mathlib.Nat.{mod-eq_of_lt}
use native.Mathlib.Omega.{arith}
use Rattle.model.specs.declared.Ending.{Ending}
use Rattle.model.specs.declared.Ending.TheVariants.{OutOfBudget}
use Rattle.model.specs.declared.Limits.{Limits}
use Rattle.model.specs.declared.Machine.{Machine}
use Rattle.model.specs.Obligations.{Fault, first_fault}
use Rattle.model.specs.Answers.{Report, ended, rejected, steps_in}
use Rattle.model.specs.Program.{Program}
use Rattle.model.specs.Step.{Step, step}
use Rattle.model.specs.File.{layout_in, program_in}
use Rattle.model.specs.Run.{Run, followed, run, steps, stretch, Seen, finished, runnable, unless_refused, run_on, seen_after}
use Rattle.model.specs.Counts.{earlier_step_bits, in_bits, count_in, run_in}
use Rattle.model.specs.Promises.{CountsCarried}
use Rattle.model.proofs.JoiningCalls.{joining_calls}

-- a step, and the steps of the rest
followed_within : (s : Step) (rest : Run) (budget : ℕ) (ending : Option Ending) → steps rest ≤ budget
    → steps (followed s rest ending) ≤ suc budget
followed_within s rest budget None few = omega arith
followed_within s rest budget (Some e) few = omega arith

steps_within : (p : Program) (budget : ℕ) (m : Machine) (bs : List ℕ) → steps (run p budget m bs) ≤ budget
unfolding run
steps_within p zero m bs = omega arith
steps_within p (suc budget) m bs =
    let s : Step = step p m bs in
    followed_within s (run p budget s.machine s.region) budget s.ending (steps_within p budget s.machine s.region)

module _ (limits : Limits) (file : List ℕ) (m : Machine) (memory : List ℕ) (offset : ℕ) where
  count_within : (budget : ℕ) → steps_in (run_on limits file m memory offset budget).report ≤ budget
  unfolding run_on
  count_within budget = by_fault (first_fault (runnable limits file m memory offset))
    where
      whole : Run
      whole = run (program_in file) budget m (stretch offset (layout_in file).size memory)

      by_fault : (o : Option Fault)
          → steps_in (unless_refused m memory (finished offset (layout_in file).size memory whole) o).report ≤ budget
      by_fault None = steps_within (program_in file) budget m (stretch offset (layout_in file).size memory)
      by_fault (Some f) = omega arith

  -- a count that fits is as it was
  count_kept : (bits : ℕ) (r : Report) → steps_in r < 2 ^ bits → count_in bits r ≡ r
  count_kept bits (ended e made) fits = ap (ended e) (mod-eq_of_lt fits)
  count_kept bits (rejected f made) fits = ap (rejected f) (mod-eq_of_lt fits)

  -- the run in a width that holds the budget
  run_kept : (bits budget : ℕ) → budget < 2 ^ bits → run_in bits limits file m memory offset budget ≡ run_on limits file m memory offset budget
  unfolding run_in
  run_kept bits budget fits =
      let same : in_bits bits budget ≡ budget = mod-eq_of_lt fits in
      rw same (with_count (run_on limits file m memory offset budget) (count_kept bits _ (omega (arith, count_within budget))))
    where
      with_count : (seen : Seen) → count_in bits seen.report ≡ seen.report
          → record { report = count_in bits seen.report; machine = seen.machine; memory = seen.memory } ≡ seen
      with_count seen is = λ i. record { report = is i; machine = seen.machine; memory = seen.memory }

-- two runs in a row, in a width that holds both budgets together
runs_joined : (bits : ℕ) (limits : Limits) (file : List ℕ) (m : Machine) (memory : List ℕ) (offset first more made : ℕ) → first + more < 2 ^ bits
    → (run_in bits limits file m memory offset first).report ≡ ended OutOfBudget made
    → run_in bits limits file m memory offset (first + more)
    ≡ seen_after made
    (run_in bits limits file (run_in bits limits file m memory offset first).machine (run_in bits limits file m memory offset first).memory offset more)
runs_joined bits limits file m memory offset first more made fits spent =
    let before = run_kept limits file m memory offset bits first (omega arith) in
    let left : Seen = run_on limits file m memory offset first in
    rw (run_kept limits file m memory offset bits (first + more) fits, before)
    (joining_calls limits file m memory offset first more made (rw before at spent)
    ∙ ap (seen_after made) (sym (run_kept limits file left.machine left.memory offset bits more (omega arith))))

pub counts_carried : CountsCarried
counts_carried = record {
  width = refl;
  within = count_within;
  kept = λ bits limits file m memory offset budget fits. run_kept limits file m memory offset bits budget fits;
  earlier = λ limits file m memory offset budget seen fits post. post.is ∙ sym (run_kept limits file m memory offset earlier_step_bits budget fits);
  join = runs_joined;
}
