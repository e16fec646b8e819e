-- The numbers lose nothing: of every file, of all tables and of every call, the model's answer is read back from the numbers that the
-- host gets.
-- Every fault that is named has a number above 0, so refusal 0 is none. Assumes nothing.
use Prim.Native.Nat.{ℕ, zero, suc, ◌≤◌}
use mathlib.Core.Path.{◌≡◌, refl}
use mathlib.Core.Bool.{cond}
use mathlib.Core.Logic.{◌⊎◌, ⊎_elim}
use mathlib.Core.List.{List}
use Rattle.std.specs.Prelude.{Option, None, Some}
use native.Mathlib.Omega.{arith}
use lib.Dec.{eqb, eqb-suc-zero}
use Rattle.model.specs.declared.Ending.{Ending}
use Rattle.model.specs.declared.Ending.TheVariants.{Halted, Trapped, Denied, Violated, OutOfBudget}
use Rattle.model.specs.declared.Limits.{Limits}
use Rattle.model.specs.declared.Machine.{Machine}
use Rattle.model.specs.Obligations.{Fault, first_fault}
use Rattle.model.specs.Answers.{ending_number, Judgement, accepted, refused}
use Rattle.model.specs.File.{layout_in, readable, program_in}
use Rattle.model.specs.Judgement.{judgement}
use Rattle.model.specs.Claims.{work_out}
use Rattle.model.specs.Writer.{Tables, WriteReport, wrote, unwritten, write}
use Rattle.model.specs.Run.{Run, run, stretch, finished, runnable, unless_refused, run_on}
use Rattle.model.proofs.Numbers.{ForVerdict, readable_listed, judged_listed, refused_judged, runnable_listed}
use Rattle.model.proofs.Claims.Answering.{worked_out_judged}
use Rattle.model.proofs.Writer.Refusing.{writer_refuses}
use Rattle.reader.specs.Readings.{read_report, reading_by, reading}
use Rattle.madsjirn.specs.Entries.{NumbersCarried}
use Rattle.madsjirn.specs.Numbers.{module_numbers, verdict_numbers, run_numbers, write_numbers, reading_in, judgement_in, ending_in, report_in, write_report_in}

-- a number above 0 is a refusal
is_refusal : {A : Type 0} (n : ℕ) (otherwise refusal : A) → 1 ≤ n → cond (eqb n 0) otherwise refusal ≡ refusal
is_refusal zero otherwise refusal h = absurd (omega arith)
is_refusal (suc n) otherwise refusal h = rw (eqb-suc-zero n)

-- a judgement whose refusals have such numbers
abbrev Numbered : Judgement → Type 0
Numbered j = (f : Fault) → j ≡ refused f → 1 ≤ f.number

carried : (j : Judgement) → Numbered j → judgement_in (verdict_numbers j) ≡ j
unfolding judgement_in verdict_numbers
carried (accepted n k) above = refl
carried (refused f) above = is_refusal f.number _ _ (above f refl)

-- is accepted if the number is 0
pub record IsAccepted (j : Judgement) : Type 0 where
  pub instructions : ℕ
  pub targets : ℕ
  pub is : j ≡ accepted instructions targets

zero_accepts : (j : Judgement) → Numbered j → (verdict_numbers j).refusal ≡ 0 → IsAccepted j
unfolding verdict_numbers
zero_accepts (accepted n k) above same = record { instructions = n; targets = k; is = refl }
zero_accepts (refused f) above same = absurd (omega (arith, above f refl))

listed_above : {n : ℕ} → ForVerdict n → 1 ≤ n
listed_above = ⊎_elim (λ low. low.0) (λ over. omega (arith, over))

verdict_numbered : (limits : Limits) (file : List ℕ) → Numbered (judgement limits file)
verdict_numbered limits file f is = listed_above (judged_listed limits file f (refused_judged limits file f is))

worked_numbered : (limits : Limits) (file : List ℕ) → Numbered (work_out limits file).judgement
worked_numbered limits file f is = listed_above (worked_out_judged.numbered limits file f is)

reading_carried : (file : List ℕ) → reading_in (module_numbers (reading file)) ≡ reading file
unfolding reading_by reading_in module_numbers
reading_carried file = by_fault (first_fault (readable file)) (readable_listed file)
  where
    by_fault : (o : Option Fault) → ((f : Fault) → o ≡ Some f → 1 ≤ f.number)
        → reading_in (module_numbers (read_report file o)) ≡ read_report file o
    by_fault None above = refl
    by_fault (Some f) above = is_refusal f.number _ _ (above f refl)

written_carried : (t : Tables) (buffer : List ℕ) → write_report_in (write_numbers (write t buffer).report) ≡ (write t buffer).report
unfolding write_report_in write_numbers
written_carried t buffer = by_report (write t buffer).report (λ f is. writer_refuses.numbered t buffer f is)
  where
    by_report : (r : WriteReport)
        → ((f : Fault) → r ≡ unwritten f → (f.number ≡ 3) ⊎ (((5 ≤ f.number) × (f.number ≤ 7)) ⊎ (f.number ≡ 16)))
        → write_report_in (write_numbers r) ≡ r
    by_report (wrote n) listed = refl
    by_report (unwritten f) listed =
        is_refusal f.number _ _
        (⊎_elim (λ e. omega arith) (⊎_elim (λ between. omega (arith, between.0)) (λ e. omega arith)) (listed f refl))

ending_carried : (e : Ending) → ending_in (ending_number e) ≡ e
unfolding ending_in ending_number
ending_carried Halted = refl
ending_carried Trapped = refl
ending_carried Denied = refl
ending_carried Violated = refl
ending_carried OutOfBudget = refl

pub report_carried : (limits : Limits) (file : List ℕ) (m : Machine) (memory : List ℕ) (offset budget : ℕ)
    → report_in (run_numbers (run_on limits file m memory offset budget).report) ≡ (run_on limits file m memory offset budget).report
unfolding run_on report_in run_numbers
report_carried limits file m memory offset budget =
    by_fault (run (program_in file) budget m (stretch offset size memory))
    (first_fault (runnable limits file m memory offset))
    (λ f e.
    ⊎_elim (⊎_elim (λ low. low.0) (λ high. omega (arith, high.0))) (λ over. omega (arith, over)) (runnable_listed limits file m memory offset f e))
  where
    size : ℕ
    size = (layout_in file).size

    by_fault : (r : Run) (o : Option Fault) → ((f : Fault) → o ≡ Some f → 1 ≤ f.number)
        → let seen = unless_refused m memory (finished offset size memory r) o in
        report_in (run_numbers seen.report) ≡ seen.report
    by_fault r None above = rw (ending_carried r.ending)
    by_fault r (Some f) above = is_refusal f.number _ _ (above f refl)

-- no refusal's number in an answer means that the module is accepted
pub verdict_passed : (limits : Limits) (file : List ℕ) → (verdict_numbers (judgement limits file)).refusal ≡ 0
    → IsAccepted (judgement limits file)
verdict_passed limits file = zero_accepts (judgement limits file) (verdict_numbered limits file)

pub worked_passed : (limits : Limits) (file : List ℕ) → (verdict_numbers (work_out limits file).judgement).refusal ≡ 0
    → IsAccepted (work_out limits file).judgement
worked_passed limits file = zero_accepts (work_out limits file).judgement (worked_numbered limits file)

pub numbers_carried : NumbersCarried
numbers_carried = record {
  verdict = λ limits file. carried (judgement limits file) (verdict_numbered limits file);
  worked_out_file = λ limits file. carried (work_out limits file).judgement (worked_numbered limits file);
  layout = reading_carried;
  written = written_carried;
  call = report_carried;
}
