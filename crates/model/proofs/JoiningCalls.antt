-- Two calls in a row are one: a call to run that used its budget up, and then another on the machine and memory that it left,
-- at the same offset, come to what one call with both budgets comes to. Assumes nothing.
use Prim.Native.Nat.{ℕ, ◌+◌}
use mathlib.Core.Path.{◌≡◌, refl, sym, ap, ◌∙◌}
use mathlib.Core.List.{List}
use Rattle.std.specs.Prelude.{Option, None, Some}
use native.Mathlib.Omega.{arith}
use lib.ListN.{length}
use Rattle.model.specs.declared.Ending.{Ending}
use Rattle.model.specs.declared.Ending.TheVariants.{OutOfBudget}
use Rattle.model.specs.declared.Limits.{Limits}
use Rattle.model.specs.declared.Machine.{Machine}
use Rattle.model.specs.Obligations.{Fault, first_fault}
use Rattle.model.specs.Answers.{ended}
use Rattle.model.specs.File.{layout_in, program_in}
use Rattle.model.specs.Rules.{Runnable}
use Rattle.model.specs.Run.{Run, run, steps, stretch, splice, Seen, finished, runnable, unless_refused, run_on, RunPost, seen_after}
use Rattle.model.proofs.Memory.{stretch-length, splice-length, stretch-splice, splice-splice}
use Rattle.model.proofs.Accepted.{runnable_iff}
use Rattle.model.proofs.Steady.{RunSteady}
use Rattle.model.proofs.Targets.{code_length, module_placed, readable_steady}
use Rattle.model.proofs.Joining.{joining}

-- the run of a call: on the stretch at its offset
abbrev pub run_of : List ℕ → Machine → List ℕ → ℕ → ℕ → Run
run_of file m memory offset budget = run (program_in file) budget m (stretch offset (layout_in file).size memory)

-- a call that has what it asks for comes to its run
pub run_on_runs : (limits : Limits) (file : List ℕ) (m : Machine) (memory : List ℕ) (offset budget : ℕ) → Runnable limits file m memory offset
    → run_on limits file m memory offset budget
    ≡ finished offset (layout_in file).size memory (run_of file m memory offset budget)
unfolding run_on
run_on_runs limits file m memory offset budget asked = rw ((runnable_iff limits file m memory offset).1 asked)

-- a call that reports an ending had what it asks for
pub ended_runnable : (limits : Limits) (file : List ℕ) (m : Machine) (memory : List ℕ) (offset budget : ℕ) (e : Ending) (n : ℕ)
    → (run_on limits file m memory offset budget).report ≡ ended e n → Runnable limits file m memory offset
unfolding run_on
ended_runnable limits file m memory offset budget e n reported =
    (runnable_iff limits file m memory offset).0 (not_refused _ (first_fault (runnable limits file m memory offset)) reported)
  where
    not_refused : (done : Seen) (fault : Option Fault) → (unless_refused m memory done fault).report ≡ ended e n → fault ≡ None
    not_refused done None is = refl
    not_refused done (Some f) is = absurd (let impossible : ◌≡◌ {A = ℕ} 0 1 = cc in omega arith)

module _ (limits : Limits) (file : List ℕ) (m : Machine) (memory : List ℕ) (offset first : ℕ) where
  abbrev size : ℕ
  size = (layout_in file).size

  abbrev first_run : Run
  first_run = run_of file m memory offset first

  abbrev memory_between : List ℕ
  memory_between = splice offset size memory first_run.region

  abbrev second_run : ℕ → Run
  second_run more = run (program_in file) more first_run.machine first_run.region

  module _ (asked : Runnable limits file m memory offset) where
    -- one call with both budgets comes to the second run, with the steps of the first added
    one_call : (more : ℕ) → first_run.ending ≡ OutOfBudget
        → run_on limits file m memory offset (first + more) ≡ seen_after (steps first_run) (finished offset size memory (second_run more))
    one_call more out =
        let joined = joining (program_in file) first more m (stretch offset size memory) out in
        run_on_runs limits file m memory offset (first + more) asked
        ∙ (λ i. record {
          report = ended (joined.ending i) (joined.count i);
          machine = joined.machine i;
          memory = splice offset size memory (joined.region i);
        })

    first_steady : RunSteady (program_in file) m (stretch offset size memory) first_run
    first_steady =
        (readable_steady (module_placed asked.file_rules.holds) m (stretch offset size memory) asked.pc_inside).1 first

    region_between : length first_run.region ≡ size
    region_between = first_steady.region_length ∙ stretch-length offset size memory asked.fits

    -- the second call has what it asks for
    asked_again : Runnable limits file first_run.machine memory_between offset
    asked_again = record {
      file_rules = asked.file_rules;
      held = asked.held;
      pc_inside = rw code_length at first_steady.pc_inside;
      fits = rw (splice-length offset size memory asked.fits first_run.region region_between) asked.fits;
    }

    -- it comes to the second run, and what the first wrote to the region is written over
    second_call : (more : ℕ)
        → run_on limits file first_run.machine memory_between offset more ≡ finished offset size memory (second_run more)
    second_call more =
        run_on_runs limits file first_run.machine memory_between offset more asked_again
        ∙ ap (λ (bs : List ℕ). finished offset size memory_between (run (program_in file) more first_run.machine bs))
        (stretch-splice offset size memory asked.fits first_run.region region_between)
        ∙ ap (λ (l : List ℕ). record {
          report = ended (second_run more).ending (steps (second_run more));
          machine = (second_run more).machine;
          memory = l;
        })
        (splice-splice offset size memory asked.fits first_run.region region_between (second_run more).region)

-- a call that used its budget up, and then another on what it left, come to what one call with both budgets comes to
pub joining_calls : (limits : Limits) (file : List ℕ) (m : Machine) (memory : List ℕ) (offset first more made : ℕ)
    → (run_on limits file m memory offset first).report ≡ ended OutOfBudget made
    → run_on limits file m memory offset (first + more)
    ≡ seen_after made
    (run_on limits file (run_on limits file m memory offset first).machine (run_on limits file m memory offset first).memory offset more)
joining_calls limits file m memory offset first more made reported =
    let asked : Runnable limits file m memory offset = ended_runnable limits file m memory offset first OutOfBudget made reported in
    let first-call = run_on_runs limits file m memory offset first asked in
    let run-reported = rw first-call at reported in
    let out : (run_of file m memory offset first).ending ≡ OutOfBudget = cc in
    let count : steps (run_of file m memory offset first) ≡ made = cc in
    rw (first-call, ← count)
    (one_call limits file m memory offset first asked more out
    ∙ ap (seen_after (steps (run_of file m memory offset first)))
    (sym (second_call limits file m memory offset first asked more)))

-- and so of whatever three calls answered and left, by the promise of each
pub runs_join : (limits : Limits) (file : List ℕ) (m : Machine) (memory : List ℕ) (offset first more made : ℕ) (before after one : Seen)
    → RunPost limits file m memory offset first before → before.report ≡ ended OutOfBudget made
    → RunPost limits file before.machine before.memory offset more after
    → RunPost limits file m memory offset (first + more) one
    → one ≡ seen_after made after
runs_join limits file m memory offset first more made before after one was spent then both =
    both.is
    ∙ joining_calls limits file m memory offset first more made (ap (λ (s : Seen). s.report) (sym was.is) ∙ spent)
    ∙ ap (λ (s : Seen). seen_after made (run_on limits file s.machine s.memory offset more)) (sym was.is)
    ∙ ap (seen_after made) (sym then.is)
