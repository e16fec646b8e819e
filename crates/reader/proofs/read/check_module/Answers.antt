-- `reader::read::check_module` meets its contract: the layout, then the instructions, then the targets. Assumes nothing.
use mathlib.Core.Path.{◌≡◌, ◌∙◌, sym}
use Rattle.std.proofs.Common.{rules}
use Rattle.std.specs.Prelude.{Err}
use Rattle.model.specs.Answers.{rule_number, fault_of}
use Rattle.model.specs.Obligations.{first_fault}
use Rattle.model.specs.File.{instruction_in, is_instruction, target_row_in, instruction_rules, target_rules}
use Rattle.reader.specs.Findings.{fault_in}
use Rattle.reader.specs.Readings.{asked}
use Rattle.reader.proofs.Rows.{any_is_some}
use Rattle.reader.proofs.Checking.{ok_names, err_names, layout_refused, instruction_refused, targets_left}
use Rattle.reader.proofs.read.check_module.Goals as goal

pub returns-then-not-is_layout : goal.returns-then-not-is_layout
unfolding fault_in fault_of rule_number
returns-then-not-is_layout c = let x = c.args in
    rw c.at.ensures
    (layout_refused (asked x.claims) x.layout x.held.instructions (instruction_in x.code.now) x.held.targets (target_row_in x.targets.now)
    (sym c.is_layout.ensures ∙ c.if-not-is_layout.true))

pub returns-in_err-check_each : goal.returns-in_err-check_each
unfolding fault_in rule_number
returns-in_err-check_each c = let x = c.args in
    let judged : fault_in c.check_each.result ≡ first_fault (instruction_rules x.held.instructions (instruction_in x.code.now)) =
    c.check_each.ensures (λ i. is_instruction (instruction_in x.code.now i)) (λ i answer below post. search (rules, any_is_some)) in
    let same : c.from_residual.result ≡ Err c.in_err-check_each.field-0.0 = search rules in
    rw same
    (instruction_refused (asked x.claims) x.layout x.held.instructions (instruction_in x.code.now) x.held.targets (target_row_in x.targets.now)
    (sym c.is_layout.ensures ∙ c.if-not-is_layout.false) _ (err_names judged _ (c.in_err-check_each.was)))

pub returns : goal.returns
unfolding rule_number
returns c = let x = c.args in
    let judged : fault_in c.check_each.result ≡ first_fault (instruction_rules x.held.instructions (instruction_in x.code.now)) =
    c.check_each.ensures (λ i. is_instruction (instruction_in x.code.now i)) (λ i answer below post. search (rules, any_is_some)) in
    let rest : fault_in c.check_each-2.result ≡ first_fault (target_rules x.held.targets (asked x.claims x.held.instructions (target_row_in x.targets.now))) =
    c.check_each-2.ensures (asked x.claims x.held.instructions (target_row_in x.targets.now)) (λ j answer below post. search rules) in
    rest
    ∙ targets_left (asked x.claims) x.layout x.held.instructions (instruction_in x.code.now) x.held.targets (target_row_in x.targets.now)
    (sym c.is_layout.ensures ∙ c.if-not-is_layout.false) (ok_names judged _ (c.in_ok-check_each.was))
