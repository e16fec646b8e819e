-- `reader::read::read_module` meets its contract: the three fields one after another, 4 at the end of the third, then the module of the
-- three stretches. Assumes nothing.
use Prim.Native.Nat.{ℕ, ◌^◌, ◌<◌}
use mathlib.Core.Path.{◌≡◌, ap, ◌∙◌}
use native.Mathlib.Omega.{arith}
use lib.ListN.{length, get_or}
use Rattle.std.proofs.Common.{rules}
use Rattle.std.specs.Prelude.{Err, None}
use Rattle.model.specs.Obligations.{first_fault}
use Rattle.model.specs.Answers.{rule_number, fault_of}
use Rattle.model.specs.File.{field_end, code_start, targets_at, targets_in, layout_in, layout_of, instruction_count, target_count, module_rules}
use Rattle.reader.specs.Findings.{fault_in}
use Rattle.reader.specs.Loading.{Loaded}
use Rattle.reader.specs.Readings.{asked, holds, reading_by, reading_of}
use Rattle.reader.proofs.Lengths.{value_short}
use Rattle.reader.proofs.Checking.{FieldsStand, first_refused, second_refused, third_refused, bytes_left, module_refused, module_holds}
use Rattle.reader.proofs.Passes.{module_loaded}
use Rattle.reader.proofs.read.read_module.Goals as goal
use Rattle.reader.proofs.read.read_module.Goals.{Else-file-end}

pub returns-in_err-read_field-clause-report : goal.returns-in_err-read_field-clause-report
unfolding reading_of fault_in
returns-in_err-read_field-clause-report c =
    let same : c.from_residual.result ≡ Err c.in_err-read_field.field-0.0 = search rules in
    rw same (first_refused c.args.claims c.args.file.now _ c.in_err-read_field.ensures.judged)

pub returns-in_err-code-clause-report : goal.returns-in_err-code-clause-report
unfolding reading_of fault_in
returns-in_err-code-clause-report c =
    let same : c.from_residual-in_err-code.result ≡ Err c.in_err-code.field-0.0 = search rules in
    rw same (second_refused c.args.claims c.args.file.now _ c.in_ok-read_field.ensures.judged c.in_err-code.ensures.judged)

pub returns-in_err-targets-clause-report : goal.returns-in_err-targets-clause-report
unfolding reading_of fault_in
returns-in_err-targets-clause-report c =
    let same : c.from_residual-in_err-targets.result ≡ Err c.in_err-targets.field-0.0 = search rules in
    rw same
    (third_refused c.args.claims c.args.file.now _ c.in_ok-read_field.ensures.judged c.in_ok-code.ensures.judged
    (rw c.field_end-targets_at.ensures.0 at c.in_err-targets.ensures.judged))

pub returns-then-file-end-clause-report : goal.returns-then-file-end-clause-report
unfolding reading_of fault_in fault_of rule_number
returns-then-file-end-clause-report c =
    let stand : FieldsStand c.args.file.now = record {
      layout_field = c.in_ok-read_field.ensures.judged;
      code_field = c.in_ok-code.ensures.judged;
      targets_field = rw c.field_end-targets_at.ensures.0 at c.in_ok-targets.ensures.judged;
    } in
    rw c.at.ensures
    (bytes_left c.args.claims c.args.file.now stand
    (c.field_end-end.ensures.0 ∙ ap (field_end c.args.file.now) c.field_end-targets_at.ensures.0) c.if-file-end.true)

module _ (c : Else-file-end) where
  stand : FieldsStand c.args.file.now
  unfolding fault_in
  stand = record {
    layout_field = c.in_ok-read_field.ensures.judged;
    code_field = c.in_ok-code.ensures.judged;
    targets_field = rw c.field_end-targets_at.ensures.0 at c.in_ok-targets.ensures.judged;
  }

  is-end : c.field_end-end.result ≡ field_end c.args.file.now (targets_at c.args.file.now)
  is-end = c.field_end-end.ensures.0 ∙ ap (field_end c.args.file.now) c.field_end-targets_at.ensures.0

  same_layout : c.layout_of-layout.result ≡ layout_in c.args.file.now
  same_layout = c.layout_of-layout.ensures ∙ ap layout_of c.in_ok-read_field.ensures.value.bytes

  is_targets : c.in_ok-targets.targets.now ≡ targets_in c.args.file.now
  is_targets = rw c.field_end-targets_at.ensures.0 at c.in_ok-targets.ensures.value.bytes

  bytes : (i : ℕ) → get_or c.args.file.now i 0 < 256
  bytes i = omega (arith, c.type_inv.file i)

  held : None ≡ first_fault (module_rules (asked c.args.claims) c.layout_of-layout.result c.in_ok-code.code.now c.in_ok-targets.targets.now)
      → holds c.layout_of-layout.result (instruction_count c.in_ok-code.code.now) (target_count c.in_ok-targets.targets.now)
      ≡ reading_by c.args.claims c.args.file.now
  held = module_holds c.args.claims c.args.file.now stand is-end c.if-file-end.false same_layout c.in_ok-code.ensures.value.bytes is_targets

pub overflow_cast-held : goal.overflow_cast-held
overflow_cast-held c =
    let short : length c.in_ok-code.code.now < 2 ^ 16 =
    rw c.in_ok-code.ensures.value.bytes (value_short c.args.file.now code_start 2 (bytes c)) in
    omega arith

pub overflow_cast-held-2 : goal.overflow_cast-held-2
overflow_cast-held-2 c =
    let short : length c.in_ok-targets.targets.now < 2 ^ 16 =
    rw (is_targets c) (value_short c.args.file.now (targets_at c.args.file.now) 3 (bytes c)) in
    omega arith

pub returns-in_err-check_module-clause-report : goal.returns-in_err-check_module-clause-report
unfolding reading_of fault_in
returns-in_err-check_module-clause-report c =
    let before = (goal.at.returns-in_err-check_module-clause-report c).Else-file-end in
    let same : c.from_residual-in_err-check_module.result ≡ Err c.in_err-check_module.field-0.0 = search rules in
    rw same
    (module_refused c.args.claims c.args.file.now (stand before) (is-end before) c.if-file-end.false (same_layout before)
    c.in_ok-code.ensures.value.bytes (is_targets before) _ c.in_err-check_module.ensures)

pub invariant_of-result : goal.invariant_of-result
unfolding fault_in
invariant_of-result c =
    let before = (goal.at.invariant_of-result c).Else-file-end in
    let loaded : Loaded c.layout_of-layout.result c.in_ok-code.code.now c.in_ok-targets.targets.now
    (instruction_count c.in_ok-code.code.now) (target_count c.in_ok-targets.targets.now) =
    module_loaded c.args.claims c.args.file.now c.in_ok-code.ensures.value.bytes (is_targets before)
    (held before c.in_ok-check_module.ensures) in
    record { loaded = ∣ loaded ∣₁ }

pub returns-clause-report : goal.returns-clause-report
unfolding reading_of fault_in
returns-clause-report c = held (goal.at.returns-clause-report c).Else-file-end c.in_ok-check_module.ensures
