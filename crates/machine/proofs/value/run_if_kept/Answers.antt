-- `machine::value::run_if_kept` meets its contract: the reader's refusal, 17 among them, 14, 15, and then the loop on the part that is lent. By the laws
-- of calls. Assumes nothing.
use Rattle.std.proofs.Common.{rules, ◌≡◌, Err, true}
use native.Mathlib.Omega.{arith}
use Rattle.model.specs.Answers.{rule_number, fault_of}
use Rattle.reader.proofs.Passes.{module_load, load_refused}
use Rattle.machine.proofs.Calling.{refused_post, unloadable, bad_pc, no_room, ran_post}
use Rattle.machine.proofs.value.run_if_kept.Goals.{then-all-size-via-then-all-size, then-all-size-via-else-all-size+then-all-size-2}
use Rattle.machine.proofs.value.run_if_kept.Goals as goal

pub returns-in_err-module : goal.returns-in_err-module
returns-in_err-module c = let same : c.from_residual.result ≡ Err c.in_err-module.field-0.0 = search rules in
    rw same (refused_post _ _ _ _ _ _ _ (unloadable _ _ _ _ _ _ (load_refused true _ _ c.load.result c.load.ensures.report _ c.in_err-module.was)))

pub returns-then-module-from : goal.returns-then-module-from
unfolding fault_of rule_number
returns-then-module-from c = let load = module_load true _ _ c.load.result c.load.ensures.report _ c.in_ok-module.was in
    rw c.at.ensures (refused_post _ _ _ _ _ _ _ (bad_pc _ _ _ _ _ load (omega (arith, c.if-module-from.true, c.from.ensures))))

pub returns-then-all-size : goal.returns-then-all-size
unfolding fault_of rule_number
returns-then-all-size c = let load = module_load true _ _ c.load.result c.load.ensures.report _ c.in_ok-module.was in
    rw c.at-then-all-size.ensures
    (refused_post _ _ _ _ _ _ _ (no_room _ _ _ _ _ load (omega (arith, c.if-module-from.false, c.from.ensures))
    (elim c.then-all-size.branch [
      | then-all-size-via-then-all-size w ↦ omega (arith, w.if-all-size)
      | then-all-size-via-else-all-size+then-all-size-2 w ↦ omega (arith, w.if-all-size, w.if-all-size-2)
    ])))

pub returns : goal.returns
returns c = let load = module_load true _ _ c.load.result c.load.ensures.report _ c.in_ok-module.was in
    let parts = c.in_ok-module.ensures.parts in
    ran_post _ _ _ _ _ c.in_ok-module.module load (omega (arith, c.if-module-from.false, c.from.ensures))
    (omega (arith, c.if-all-size.false, c.if-all-size-2.false))
    parts.code.bytes parts.targets.bytes _ _ _ (rw c.of-indexed.ensures at c.run_in.ensures)
