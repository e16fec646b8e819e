-- `verifier::verify::check_code` meets its contract: what a turn is given is the module's, and so is what it answers. Assumes nothing.
use mathlib.Core.Path.{◌≡◌, sym, ◌∙◌}
use native.Mathlib.Omega.{arith}
use Rattle.std.proofs.Common.{rules}
use Rattle.std.proofs.Props.{props}
use Rattle.std.proofs.Math.Logic.{∥∥₁_elim}
use Rattle.std.specs.Prelude.{Err}
use Rattle.model.specs.Answers.{rule_number, fault_of}
use Rattle.model.specs.Judgement.{claim_or}
use Rattle.reader.specs.Findings.{fault_in}
use Rattle.lookup.specs.Found.{target_found}
use Rattle.reader.proofs.Fetching.{fetched}
use Rattle.verifier.proofs.Passing.{Pass, takes_claim, takes_nothing, pass_with, pass_starts, pass_ends, rules_refuse, standing, next_refuses, turn_passes}
use Rattle.verifier.proofs.verify.check_code.Goals as goal
use Rattle.verifier.proofs.verify.check_code.Goals.{in-Some, in_default, After-is_some, After-next_kept}

-- the pass before a turn, of the target here as the turn names it, and what is known where its claim was taken
module _ (c : After-is_some) where
  pass : Pass c.args.indexed.now.module c.loop-i.known c.loop-i.arrives c.match-here.here c.loop-i.i
  pass = pass_with (elim c.match-here.branch [ in-Some w ↦ w.here-is ∙ sym w.in-Some.is | in_default w ↦ w.here-is ]) c.loop-i.invariant

  enters : c.match-here.known ≡ claim_or c.loop-i.known (target_found c.args.indexed.now.module.targets.now c.match-here.here)
  enters = elim c.match-here.branch [
    | in-Some w ↦ takes_claim c.args.indexed.now.module.targets.now c.loop-i.known w.here-is w.claim_in-known.ensures w.known-is
    | in_default w ↦ takes_nothing c.args.indexed.now.module.targets.now c.loop-i.known (w.here-is ∙ w.in_default.is) w.known-is
  ]

pub loop-i-init : goal.loop-i-init
loop-i-init c =
    ∥∥₁_elim c.args.indexed.now.module.loaded (hlevel props) (λ loaded.
    pass_starts c.args.indexed.now.module loaded c.unknown-known.ensures c.number_at-here.ensures)

pub invariant_of-place : goal.invariant_of-place
invariant_of-place c = let turn = (goal.at.invariant_of-place c).After-is_some in record {
  standing =
      ∥∥₁_elim c.args.indexed.now.module.loaded (hlevel props) (λ loaded.
      standing c.args.indexed.now.module loaded (pass turn) c.loop-i-test.true (enters turn)
      (fetched loaded c.loop-i.i c.loop-i-test.true _ c.fetch-instruction.ensures) c.is_some.ensures c.target_named.ensures);
}

pub returns-in_err-check : goal.returns-in_err-check
unfolding fault_in
returns-in_err-check c =
    let same : c.from_residual.result ≡ Err c.in_err-check.field-0.0 = search rules in
    rw same
    (∥∥₁_elim c.args.indexed.now.module.loaded (hlevel props) (λ loaded.
    rules_refuse c.args.indexed.now.module loaded c.loop-i.invariant c.loop-i-test.true c.in_err-check.ensures))

pub returns-then-not-next_kept : goal.returns-then-not-next_kept
unfolding fault_in fault_of rule_number
returns-then-not-next_kept c =
    let turn = (goal.at.returns-then-not-next_kept c).After-is_some in
    rw c.at.ensures
    (∥∥₁_elim c.args.indexed.now.module.loaded (hlevel props) (λ loaded.
    next_refuses c.args.indexed.now.module loaded (pass turn) c.loop-i-test.true (enters turn)
    (fetched loaded c.loop-i.i c.loop-i-test.true _ c.fetch-instruction.ensures) c.in_ok-check.ensures c.falls-arrives.ensures
    c.region_of-region.ensures c.after_next-known.ensures
    c.number_at-here-in-loop-i.ensures c.next_kept.ensures c.if-not-next_kept.true))

pub loop-i-preserved : goal.loop-i-preserved
unfolding fault_in
loop-i-preserved c =
    let turn = (goal.at.loop-i-preserved c).After-is_some in
    ∥∥₁_elim c.args.indexed.now.module.loaded (hlevel props) (λ loaded.
    turn_passes c.args.indexed.now.module loaded (pass turn) c.loop-i-test.true (enters turn)
    (fetched loaded c.loop-i.i c.loop-i-test.true _ c.fetch-instruction.ensures) c.in_ok-check.ensures c.falls-arrives.ensures
    c.region_of-region.ensures c.after_next-known.ensures
    c.number_at-here-in-loop-i.ensures c.next_kept.ensures c.if-not-next_kept.false)

pub returns : goal.returns
unfolding fault_in
returns c = ∥∥₁_elim c.args.indexed.now.module.loaded (hlevel props) (λ loaded. pass_ends c.args.indexed.now.module loaded c.loop-i.invariant (omega arith))
