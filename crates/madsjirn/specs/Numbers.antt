-- The model's answers as the numbers that a host gets, and back. Assumes nothing.
use Rattle.std.specs.Prelude.{ℕ, ◌≡◌, cond, List, [], ◌∷◌, eqb, get_or}
use Rattle.model.specs.declared.Ending.{Ending}
use Rattle.model.specs.declared.Ending.TheVariants.{Halted, Trapped, Denied, Violated, OutOfBudget}
use Rattle.model.specs.declared.Machine.{Machine}
use Rattle.model.specs.Obligations.{fault}
use Rattle.model.specs.Answers.{ending_number, Judgement, accepted, refused, Report, ended, rejected}
use Rattle.model.specs.Claims.{Answered}
use Rattle.model.specs.Run.{Seen}
use Rattle.model.specs.Writer.{WriteReport, wrote, unwritten, Written}
use Rattle.reader.specs.Readings as Readings
use Rattle.reader.specs.Readings.{ReadReport}
use Rattle.madsjirn.specs.declared.answers.ModuleAnswer.{ModuleAnswer}
use Rattle.madsjirn.specs.declared.answers.VerdictAnswer.{VerdictAnswer}
use Rattle.madsjirn.specs.declared.answers.RunAnswer.{RunAnswer}
use Rattle.madsjirn.specs.declared.answers.WriteAnswer.{WriteAnswer}

-- ---- to numbers: refusal 0 is none, and of a refusal all but its number and place is 0; a refused run has the ending 5

unfoldable pub module_numbers : ReadReport → ModuleAnswer
module_numbers (Readings.holds l n k) = record {
  refusal = 0;
  place = 0;
  base = l.base;
  size = l.size;
  guard = l.guard;
  instructions = n;
  targets = k;
}
module_numbers (Readings.refused f) = record {
  refusal = f.number;
  place = f.place;
  base = 0;
  size = 0;
  guard = 0;
  instructions = 0;
  targets = 0;
}

unfoldable pub verdict_numbers : Judgement → VerdictAnswer
verdict_numbers (accepted n k) = record { refusal = 0; place = 0; instructions = n; targets = k }
verdict_numbers (refused f) = record { refusal = f.number; place = f.place; instructions = 0; targets = 0 }

unfoldable pub run_numbers : Report → RunAnswer
run_numbers (ended e steps) = record { refusal = 0; place = 0; ending = ending_number e; steps = steps }
run_numbers (rejected f steps) = record { refusal = f.number; place = f.place; ending = 5; steps = steps }

unfoldable pub write_numbers : WriteReport → WriteAnswer
write_numbers (wrote n) = record { refusal = 0; place = 0; length = n }
write_numbers (unwritten f) = record { refusal = f.number; place = f.place; length = 0 }

-- what a host has after a call, where the model says what is seen of it: the answer's numbers, the machine and every byte of memory
pub record Leaves (seen : Seen) (answer : RunAnswer) (machine : Machine) (memory : List ℕ) : Type 0 where
  pub numbers : answer ≡ run_numbers seen.report
  pub machine_is : machine ≡ seen.machine
  pub memory_is : memory ≡ seen.memory

-- what a host has after claims are worked out: the verdict's numbers and every byte of the file
pub record LeavesFile (answered : Answered) (answer : VerdictAnswer) (file : List ℕ) : Type 0 where
  pub numbers : answer ≡ verdict_numbers answered.judgement
  pub file_is : file ≡ answered.bytes

-- what a host has after tables are written: the answer's numbers and every byte of the buffer
pub record LeavesBuffer (written : Written) (answer : WriteAnswer) (buffer : List ℕ) : Type 0 where
  pub numbers : answer ≡ write_numbers written.report
  pub buffer_is : buffer ≡ written.buffer

-- ---- from numbers (`NumbersCarried` in Entries says that nothing is lost)

unfoldable pub reading_in : ModuleAnswer → ReadReport
reading_in a =
    cond (eqb a.refusal 0)
    (Readings.holds (record { base = a.base; size = a.size; guard = a.guard }) a.instructions a.targets)
    (Readings.refused (fault a.refusal a.place))

unfoldable pub judgement_in : VerdictAnswer → Judgement
judgement_in a = cond (eqb a.refusal 0) (accepted a.instructions a.targets) (refused (fault a.refusal a.place))

unfoldable pub write_report_in : WriteAnswer → WriteReport
write_report_in a = cond (eqb a.refusal 0) (wrote a.length) (unwritten (fault a.refusal a.place))

unfoldable pub ending_in : ℕ → Ending
ending_in n = get_or (Halted ∷ Trapped ∷ Denied ∷ Violated ∷ OutOfBudget ∷ []) n Halted

unfoldable pub report_in : RunAnswer → Report
report_in a =
    cond (eqb a.refusal 0) (ended (ending_in a.ending) a.steps) (rejected (fault a.refusal a.place) a.steps)
