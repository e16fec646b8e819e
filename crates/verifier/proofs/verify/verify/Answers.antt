-- `verifier::verify::verify` meets its contract: the refusal of the reader, or what the check of the code finds. Assumes nothing.
use mathlib.Core.Path.{sym, ap, ◌∙◌}
use Rattle.std.proofs.Common.{rules}
use Rattle.model.specs.Answers.{judgement_of}
use Rattle.reader.proofs.Checking.{ok_names, err_names}
use Rattle.reader.proofs.Passes.{module_load, load_refused}
use Rattle.verifier.proofs.Verdicts.{unloadable, code_accepted, code_refused}
use Rattle.verifier.proofs.verify.verify.Goals as goal

pub returns-in_err-module : goal.returns-in_err-module
returns-in_err-module c =
    ap judgement_of (search rules) ∙ unloadable _ _ _ (load_refused _ _ _ _ c.load.ensures.report _ c.in_err-module.was)

pub returns-in_err-check_code : goal.returns-in_err-check_code
returns-in_err-check_code c =
    ap judgement_of (search rules) ∙ code_refused _ _ c.in_ok-module.module (module_load _ _ _ _ c.load.ensures.report _ c.in_ok-module.was)
    c.in_ok-module.ensures.parts.code.bytes c.in_ok-module.ensures.parts.targets.bytes _
    (rw c.of.ensures at (sym (err_names c.check_code.ensures _ c.in_err-check_code.was)))

pub returns : goal.returns
returns c =
    code_accepted _ _ c.in_ok-module.module (module_load _ _ _ _ c.load.ensures.report _ c.in_ok-module.was)
    c.in_ok-module.ensures.parts.code.bytes c.in_ok-module.ensures.parts.targets.bytes
    (rw c.of.ensures at (sym (ok_names c.check_code.ensures _ (search rules))))
