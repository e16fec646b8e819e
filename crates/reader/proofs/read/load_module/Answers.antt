-- `reader::read::load_module` meets its contract: the reader's refusal, 17, or the module. Assumes nothing.
use mathlib.Core.Path.{◌≡◌}
use Rattle.std.proofs.Common.{rules}
use Rattle.std.specs.Prelude.{Err}
use Rattle.reader.specs.Findings.{fault_in}
use Rattle.reader.specs.Readings.{reading_of}
use Rattle.reader.proofs.Passes.{module_read, file_refused, load_unread, load_over, load_within}
use Rattle.reader.proofs.read.load_module.Goals as goal

pub returns-in_err-module-clause-report : goal.returns-in_err-module-clause-report
returns-in_err-module-clause-report c =
    let same : c.from_residual.result ≡ Err c.in_err-module.field-0.0 = search rules in
    rw same (load_unread _ _ _ _ (file_refused _ _ _ c.read_module.ensures.report _ c.in_err-module.was))

pub returns-in_err-check-clause-report : goal.returns-in_err-check-clause-report
unfolding fault_in
returns-in_err-check-clause-report c =
    let same : c.from_residual-in_err-check.result ≡ Err c.in_err-check.field-0.0 = search rules in
    rw same (load_over _ _ _ (module_read _ _ _ c.read_module.ensures.report _ c.in_ok-module.was) _ c.in_err-check.ensures)

pub returns-clause-report : goal.returns-clause-report
unfolding fault_in reading_of
returns-clause-report c =
    load_within _ _ _ (module_read _ _ _ c.read_module.ensures.report _ c.in_ok-module.was) c.in_ok-check.ensures
