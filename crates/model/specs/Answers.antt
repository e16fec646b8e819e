-- "For enum answers, a definition gives this paper's number and values for each case, and the promises use that definition."
-- Assumes nothing.
use Rattle.std.specs.Prelude.{ℕ, Result, Ok, Err}
use Rattle.model.specs.declared.Ending.{Ending}
use Rattle.model.specs.declared.Ending.TheVariants.{Halted, Trapped, Denied, Violated, OutOfBudget}
use Rattle.model.specs.declared.Rule.{Rule}
use Rattle.model.specs.declared.Rule.TheVariants.{Truncated, WrongTag, BadLength, TrailingBytes, BadLayout, BadInstruction, BadTarget, NoTarget, UncheckedJump, WildAccess, BrokenClaim, Unreachable, FallsOff, BadPc, NoRoom, NoSpace, OverPlate}
use Rattle.model.specs.declared.Refusal.{Refusal}
use Rattle.model.specs.declared.Contents.{Contents}
use Rattle.model.specs.declared.Answer.{Answer}
use Rattle.model.specs.Obligations.{Fault, fault}

-- the number of a refusal, with its word in document 01; from 16 on in document 02
unfoldable pub rule_number : Rule → ℕ
rule_number Truncated = 1  -- short
rule_number WrongTag = 2  -- wrong tag
rule_number BadLength = 3  -- bad length
rule_number TrailingBytes = 4  -- tail
rule_number BadLayout = 5  -- bad layout
rule_number BadInstruction = 6  -- bad instruction
rule_number BadTarget = 7  -- bad door
rule_number NoTarget = 8  -- no door
rule_number UncheckedJump = 9  -- unchecked jump
rule_number WildAccess = 10  -- wild access
rule_number BrokenClaim = 11  -- broken claim
rule_number Unreachable = 12  -- no way in
rule_number FallsOff = 13  -- runs off
rule_number BadPc = 14  -- bad place
rule_number NoRoom = 15  -- no ground
rule_number NoSpace = 16  -- no space (document 02, ticket 5)
rule_number OverPlate = 17  -- over plate (ticket 8)

unfoldable pub fault_of : Refusal → Fault
fault_of r = fault (rule_number r.rule) r.place

-- "Endings 0 to 4 are halted, trapped, turned away, strayed, spent."
unfoldable pub ending_number : Ending → ℕ
ending_number Halted = 0
ending_number Trapped = 1
ending_number Denied = 2
ending_number Violated = 3
ending_number OutOfBudget = 4

-- the verifier's answer: accepted, with the counts of instructions and targets, or the first refusal
pub data Judgement : Type 0 where
  accepted : ℕ → ℕ → Judgement
  refused : Fault → Judgement

unfoldable pub judgement_of : Result Contents Refusal → Judgement
judgement_of (Ok held) = accepted held.instructions held.targets
judgement_of (Err r) = refused (fault_of r)

-- a run's answer: how it ended and how many steps it made, or the refusal; "A refused run reports 0 steps."
pub data Report : Type 0 where
  ended : Ending → ℕ → Report
  rejected : Fault → ℕ → Report

abbrev pub reported : Result Ending Refusal → ℕ → Report
reported (Ok e) steps = ended e steps
reported (Err r) steps = rejected (fault_of r) steps

unfoldable pub report_of : Answer → Report
report_of a = reported a.completion a.steps

-- the steps that a run reports
abbrev pub steps_in : Report → ℕ
steps_in (ended e steps) = steps
steps_in (rejected f steps) = steps
