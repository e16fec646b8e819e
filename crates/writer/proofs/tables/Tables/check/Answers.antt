-- `writer::tables::Tables::check` meets its contract: the layout, then the instructions, then the targets. Assumes nothing.
use mathlib.Core.Path.{◌≡◌, ◌∙◌, sym}
use lib.ListN.{length}
use Rattle.std.proofs.Common.{rules}
use Rattle.std.specs.Prelude.{Err}
use Rattle.model.specs.Answers.{rule_number, fault_of}
use Rattle.model.specs.Obligations.{first_fault}
use Rattle.model.specs.File.{is_instruction, is_good_target, instruction_rules, target_rules}
use Rattle.reader.specs.Findings.{fault_in}
use Rattle.reader.proofs.Rows.{any_is_some}
use Rattle.reader.proofs.Checking.{ok_names, err_names, layout_refused, instruction_refused, targets_left}
use Rattle.writer.specs.Rows.{decoded_at, targets_at}
use Rattle.writer.proofs.tables.Tables.check.Goals as goal

pub returns-then-not-is_layout : goal.returns-then-not-is_layout
unfolding fault_in fault_of rule_number
returns-then-not-is_layout c = let x = c.args.self.now in
    rw c.at.ensures
    (layout_refused is_good_target x.layout (length x.instructions.now) (decoded_at x.instructions.now) (length x.targets.now)
    (targets_at x.targets.now) (sym c.is_layout.ensures ∙ c.if-not-is_layout.true))

pub returns-in_err-check_each : goal.returns-in_err-check_each
unfolding fault_in rule_number
returns-in_err-check_each c = let x = c.args.self.now in
    let judged : fault_in c.check_each.result ≡ first_fault (instruction_rules (length x.instructions.now) (decoded_at x.instructions.now)) =
    c.check_each.ensures (λ i. is_instruction (decoded_at x.instructions.now i)) (λ i answer below post. search (rules, any_is_some)) in
    let same : c.from_residual.result ≡ Err c.in_err-check_each.field-0.0 = search rules in
    rw same
    (instruction_refused is_good_target x.layout (length x.instructions.now) (decoded_at x.instructions.now) (length x.targets.now)
    (targets_at x.targets.now) (sym c.is_layout.ensures ∙ c.if-not-is_layout.false) _ (err_names judged _ c.in_err-check_each.was))

pub returns : goal.returns
unfolding rule_number
returns c = let x = c.args.self.now in
    let n = length x.instructions.now in
    let judged : fault_in c.check_each.result ≡ first_fault (instruction_rules n (decoded_at x.instructions.now)) =
    c.check_each.ensures (λ i. is_instruction (decoded_at x.instructions.now i)) (λ i answer below post. search (rules, any_is_some)) in
    let rest : fault_in c.check_each-2.result ≡ first_fault (target_rules (length x.targets.now) (is_good_target n (targets_at x.targets.now))) =
    c.check_each-2.ensures (is_good_target n (targets_at x.targets.now)) (λ j answer below post. search rules) in
    rest
    ∙ targets_left is_good_target x.layout n (decoded_at x.instructions.now) (length x.targets.now) (targets_at x.targets.now)
    (sym c.is_layout.ensures ∙ c.if-not-is_layout.false) (ok_names judged _ c.in_ok-check_each.was)
