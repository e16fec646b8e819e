-- Demand 3 for whatever a host calls: runs and steps by value, over a lent machine and exported, in any mixture, each by its own
-- contract, of a module that either verifier accepted, with its own claims or with claims that were worked out; how such calls join,
-- and that those with a budget of 32 bits are what they were. Proved in proofs/Entries. Assumes nothing.
use Rattle.std.specs.Prelude.{ℕ, ◌+◌, ◌^◌, ◌<◌, ◌≡◌, true, None, Result, Ok}
use mathlib.Core.List.{List, [], ◌∷◌, Memᴰ}
use Rattle.model.specs.declared.Answer.{Answer}
use Rattle.model.specs.declared.Ending.TheVariants.{OutOfBudget}
use Rattle.model.specs.declared.Limits.{Limits}
use Rattle.model.specs.declared.Machine.{Machine}
use Rattle.model.specs.declared.Outcome.{Outcome}
use Rattle.model.specs.declared.Contents.{Contents}
use Rattle.model.specs.declared.Refusal.{Refusal}
use Rattle.model.specs.Answers.{judgement_of, ended}
use Rattle.model.specs.Program.{is_indirect}
use Rattle.model.specs.File.{byte_at, program_in}
use Rattle.model.specs.Judgement.{first_broken, judgement}
use Rattle.model.specs.Claims.{work_out}
use Rattle.model.specs.Run.{Seen, RunPost, run_on, seen_after}
use Rattle.model.specs.Counts.{step_bits, earlier_step_bits, in_bits, run_in}
use Rattle.model.specs.Walk.{Call, host_writes}
use Rattle.model.specs.Safety.{EightWords, Bytes, Safe}
use Rattle.model.specs.Writer.{Tables, write}
use Rattle.reader.specs.Readings.{reading}
use Rattle.machine.specs.Core.{seen_of}
use Rattle.madsjirn.specs.declared.answers.RunAnswer.{RunAnswer}
use Rattle.madsjirn.specs.declared.answers.VerdictAnswer.{VerdictAnswer}
use Rattle.madsjirn.specs.Numbers.{module_numbers, verdict_numbers, run_numbers, write_numbers, reading_in, judgement_in, report_in, write_report_in, Leaves, LeavesFile}

-- a verdict that lets a module in: what `verifier::verify::verify` ensures of an answer that is accepted, or `madsjirn_verify` of one
-- whose refusal is 0; and of the file that they leave, what `claims::work_out::work_out` and `madsjirn_work_out` ensure of theirs:
-- "Safety covers these modules like any others."
pub data LetIn (limits : Limits) (file : List ℕ) : Type 0 where
  verified : (v : Result Contents Refusal) (held : Contents) → judgement_of v ≡ judgement limits file → v ≡ Ok held → LetIn limits file
  verified_by_number : (v : VerdictAnswer) → v ≡ verdict_numbers (judgement limits file) → v.refusal ≡ 0 → LetIn limits file
  worked_out_file : (came : List ℕ) (v : Result Contents Refusal) (held : Contents)
      → record { judgement = judgement_of v; bytes = file } ≡ work_out limits came → v ≡ Ok held → LetIn limits file
  worked_out_by_number : (came : List ℕ) (v : VerdictAnswer) → LeavesFile (work_out limits came) v file → v.refusal ≡ 0 → LetIn limits file

-- what a host sees of an exported call: the answer's numbers read back, the machine and the memory
abbrev pub seen_in : RunAnswer → Machine → List ℕ → Seen
seen_in a m memory = record { report = report_in a; machine = m; memory = memory }

-- what is seen of one call of an entry, being anything that the entry's contract allows: `machine::value::run`, `machine::lent::run`,
-- `madsjirn_run`; a step is a run with budget 1
pub data EntryPost (limits : Limits) (file : List ℕ) (m : Machine) (memory : List ℕ) (offset budget : ℕ) : Seen → Type 0 where
  by_value : (o : Outcome) (after : List ℕ) → RunPost limits file m memory offset budget (seen_of o.answer o.machine after)
      → EntryPost limits file m memory offset budget (seen_of o.answer o.machine after)
  over_lent : (a : Answer) (m' : Machine) (after : List ℕ) → RunPost limits file m memory offset budget (seen_of a m' after)
      → EntryPost limits file m memory offset budget (seen_of a m' after)
  exported : (a : RunAnswer) (m' : Machine) (after : List ℕ) → Leaves (run_on limits file m memory offset budget) a m' after
      → EntryPost limits file m memory offset budget (seen_in a m' after)

-- the calls of a list, each by any of them, on the machine and memory that the last one left
pub data Hosted (limits : Limits) (file : List ℕ) : Machine → List ℕ → List Call → List Seen → Type 0 where
  done : {m : Machine} {memory : List ℕ} → Hosted limits file m memory [] []
  call : {m : Machine} {memory : List ℕ} {c : Call} {cs : List Call} {s : Seen} {ss : List Seen}
      → EntryPost limits file m (host_writes (program_in file) memory c) c.offset c.budget s
      → Hosted limits file s.machine s.memory cs ss
      → Hosted limits file m memory (c ∷ cs) (s ∷ ss)

-- a module that keeps every rule is let in; and whatever is called, there is something that the exported entries answered and left
pub record HostedAnswers : Type 0 where
  pub let_in : (limits : Limits) (file : List ℕ) → first_broken limits file ≡ None → LetIn limits file
  pub answers : (limits : Limits) (file : List ℕ) (m : Machine) (memory : List ℕ) (calls : List Call)
      → (seen : List Seen) × Hosted limits file m memory calls seen

-- The numbers lose nothing: of every file, of all tables and of every call the model's answer is read back from the numbers that a host
-- gets.
pub record NumbersCarried : Type 0 where
  pub verdict : (limits : Limits) (file : List ℕ) → judgement_in (verdict_numbers (judgement limits file)) ≡ judgement limits file
  pub worked_out_file : (limits : Limits) (file : List ℕ)
      → judgement_in (verdict_numbers (work_out limits file).judgement) ≡ (work_out limits file).judgement
  pub layout : (file : List ℕ) → reading_in (module_numbers (reading file)) ≡ reading file
  pub written : (t : Tables) (buffer : List ℕ) → write_report_in (write_numbers (write t buffer).report) ≡ (write t buffer).report
  pub call : (limits : Limits) (file : List ℕ) (m : Machine) (memory : List ℕ) (offset budget : ℕ)
      → report_in (run_numbers (run_on limits file m memory offset budget).report) ≡ (run_on limits file m memory offset budget).report

-- document 02, ticket 6: "every earlier run gives its earlier answer.": whatever any entry answered and left with a budget that has 32
-- bits is what the run of 32 bits did
pub record HostedEarlier : Type 0 where
  pub earlier : (limits : Limits) (file : List ℕ) (m : Machine) (memory : List ℕ) (offset budget : ℕ) (seen : Seen) → budget < 2 ^ earlier_step_bits
      → EntryPost limits file m memory offset budget seen → seen ≡ run_in earlier_step_bits limits file m memory offset budget

-- document 02, ticket 6: "The joining of p and q steps now holds up to the wider limit." It is said of whatever three calls answered and
-- left, each by any entry: one that is spent, one that goes on from what it left, and one with both budgets, as a host adds them in
-- the bits that the ticket gives a budget, where their sum fits these.
pub record HostedJoin : Type 0 where
  pub join : (limits : Limits) (file : List ℕ) (m : Machine) (memory : List ℕ) (offset first more made : ℕ) (before after one : Seen)
      → first + more < 2 ^ step_bits
      → EntryPost limits file m memory offset first before → before.report ≡ ended OutOfBudget made
      → EntryPost limits file before.machine before.memory offset more after
      → EntryPost limits file m memory offset (in_bits step_bits (first + more)) one
      → one ≡ seen_after made after

-- Demand 3.
pub record HostedSafety : Type 0 where
  pub safe : (limits : Limits) (file : List ℕ) (m : Machine) (memory : List ℕ) (calls : List Call) (seen : List Seen)
      → LetIn limits file
      → ((i : ℕ) → byte_at file i < 256)
      → is_indirect (program_in file).targets m.pc ≡ true → EightWords m.registers
      → ((c : Call) → Memᴰ c calls → Bytes (program_in file).layout.size c.bytes)
      → Hosted limits file m memory calls seen
      → Safe (program_in file) m memory calls seen
