-- The run with a budget, on a region and on the box's whole memory. Assumes nothing.
use Rattle.std.specs.Prelude.{ℕ, zero, suc, ◌+◌, ◌≡◌, List, [], ◌∷◌, ◌++◌, leb, ltb, length, take, drop, Option, None, Some}
use Rattle.model.specs.declared.Ending.{Ending}
use Rattle.model.specs.declared.Ending.TheVariants.{OutOfBudget}
use Rattle.model.specs.declared.Limits.{Limits}
use Rattle.model.specs.declared.Machine.{Machine}
use Rattle.model.specs.Obligations.{Fault, Obligation, owes, first_fault}
use Rattle.model.specs.Answers.{Report, ended, rejected}
use Rattle.model.specs.Program.{Program}
use Rattle.model.specs.Step.{Step, step}
use Rattle.model.specs.File.{code_in, instruction_count, layout_in, program_in}
use Rattle.model.specs.Limits.{loadable}

-- a run: how it ended, the machine and the region's bytes after it, and its steps
pub record Run : Type 0 where
  pub ending : Ending
  pub machine : Machine
  pub region : List ℕ
  pub log : List Step

-- after a step that ends the run, nothing; after any other, the rest of the run
abbrev pub followed : Step → Run → Option Ending → Run
followed s rest None = record { ending = rest.ending; machine = rest.machine; region = rest.region; log = s ∷ rest.log }
followed s rest (Some e) = record { ending = e; machine = s.machine; region = s.region; log = s ∷ [] }

-- "Spent means that the budget is used and the run could go on."
unfoldable pub run : Program → ℕ → Machine → List ℕ → Run
run p zero m bs = record { ending = OutOfBudget; machine = m; region = bs; log = [] }
run p (suc budget) m bs =
    let s = step p m bs in
    let rest = run p budget s.machine s.region in
    followed s rest s.ending

-- "The answer counts the steps made, the ending one included"
abbrev pub steps : Run → ℕ
steps r = length r.log

-- ---- memory: "The region is lent to the step as a stretch that begins inside the box's memory, at an offset that the host
-- names."

-- the size bytes at an offset
abbrev pub stretch : ℕ → ℕ → List ℕ → List ℕ
stretch offset size memory = take size (drop offset memory)

-- the memory with other bytes in their place
unfoldable pub splice : ℕ → ℕ → List ℕ → List ℕ → List ℕ
splice offset size memory bytes = take offset memory ++ (bytes ++ drop size (drop offset memory))

-- what the host sees of a call: the answer, and the machine and all memory after it
pub record Seen : Type 0 where
  pub report : Report
  pub machine : Machine
  pub memory : List ℕ

-- "record and memory then hold just what they held before"; "A refused run reports 0 steps."
abbrev pub unchanged : Machine → List ℕ → Fault → Seen
unchanged m memory f = record { report = rejected f 0; machine = m; memory = memory }

abbrev pub finished : ℕ → ℕ → List ℕ → Run → Seen
finished offset size memory r =
    record { report = ended r.ending (steps r); machine = r.machine; memory = splice offset size memory r.region }

-- "The verifier goes on with 8 to 13, the run with 14 then 15.", in place of the verifier's rules
unfoldable pub runnable : Limits → List ℕ → Machine → List ℕ → ℕ → List Obligation
runnable limits file m memory offset =
    loadable limits file
    ++ (owes 14 0 (ltb m.pc (instruction_count (code_in file)))
    ∷ owes 15 0 (leb (offset + (layout_in file).size) (length memory))
    ∷ [])

abbrev pub unless_refused : Machine → List ℕ → Seen → Option Fault → Seen
unless_refused m memory done None = done
unless_refused m memory done (Some f) = unchanged m memory f

unfoldable pub run_on : Limits → List ℕ → Machine → List ℕ → ℕ → ℕ → Seen
run_on limits file m memory offset budget =
    let size = (layout_in file).size in
    let done = finished offset size memory (run (program_in file) budget m (stretch offset size memory)) in
    unless_refused m memory done (first_fault (runnable limits file m memory offset))

-- What a call to run promises on a device, whatever it is given: the answer, the machine and every byte of memory after it.
pub record RunPost (limits : Limits) (file : List ℕ) (m : Machine) (memory : List ℕ) (offset budget : ℕ) (seen : Seen) : Type 0 where
  pub is : seen ≡ run_on limits file m memory offset budget

-- "the two counts add up to its count": what is seen of a call, with the steps of a call before it added
abbrev pub add_steps : ℕ → Report → Report
add_steps before (ended e made) = ended e (before + made)
add_steps before (rejected f made) = rejected f made

abbrev pub seen_after : ℕ → Seen → Seen
seen_after before s = record { report = add_steps before s.report; machine = s.machine; memory = s.memory }
