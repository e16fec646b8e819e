-- The documents' numbers of refusals and endings.
use Rattle.std.specs.Prelude.{ℕ}
use Rattle.reference.specs.declared.answer.Rule.{Rule}
use Rattle.reference.specs.declared.answer.Rule.TheVariants.{Short, WrongTag, BadLength, Tail, BadLayout, BadInstruction, BadDoor, NoDoor, UncheckedJump, WildAccess, BrokenClaim, NoWayIn, RunsOff, BadPlace, NoGround, NoSpace, OverPlate}
use Rattle.reference.specs.declared.answer.Ending.{Ending}
use Rattle.reference.specs.declared.answer.Ending.TheVariants.{Halted, Trapped, TurnedAway, Strayed, Spent}

abbrev pub rule_number : Rule → ℕ
rule_number Short = 1
rule_number WrongTag = 2
rule_number BadLength = 3
rule_number Tail = 4
rule_number BadLayout = 5
rule_number BadInstruction = 6
rule_number BadDoor = 7
rule_number NoDoor = 8
rule_number UncheckedJump = 9
rule_number WildAccess = 10
rule_number BrokenClaim = 11
rule_number NoWayIn = 12
rule_number RunsOff = 13
rule_number BadPlace = 14
rule_number NoGround = 15
rule_number NoSpace = 16
rule_number OverPlate = 17

abbrev pub ending_number : Ending → ℕ
ending_number Halted = 0
ending_number Trapped = 1
ending_number TurnedAway = 2
ending_number Strayed = 3
ending_number Spent = 4
