-- What the writer answers, in the model's terms. Assumes nothing.
use Rattle.std.specs.Prelude.{ℕ, Result, Ok, Err}
use Rattle.model.specs.declared.Refusal.{Refusal}
use Rattle.model.specs.Answers.{fault_of}
use Rattle.model.specs.Writer.{WriteReport, wrote, unwritten}

unfoldable pub report_of : Result ℕ Refusal → WriteReport
report_of (Ok n) = wrote n
report_of (Err r) = unwritten (fault_of r)
