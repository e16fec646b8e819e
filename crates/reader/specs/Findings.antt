-- What was found, in the model's terms. Assumes nothing.
use Rattle.std.specs.Prelude.{Option, None, Some, Result, Ok, Err}
use Rattle.model.specs.declared.Refusal.{Refusal}
use Rattle.model.specs.Obligations.{Fault}
use Rattle.model.specs.Answers.{fault_of}

-- the fault of a refusal; none where there is an answer
unfoldable pub fault_in : {A : Type 0} → Result A Refusal → Option Fault
fault_in (Ok answer) = None
fault_in (Err r) = Some (fault_of r)
