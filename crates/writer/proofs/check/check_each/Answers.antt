-- `writer::check::check_each` meets its contract: each index is what the closure answers of it. Assumes nothing.
use mathlib.Core.Path.{sym, ◌∙◌}
use native.Mathlib.Omega.{arith}
use Rattle.model.specs.Answers.{fault_of}
use Rattle.reader.specs.Findings.{fault_in}
use Rattle.reader.proofs.Checking.{indexes_begin, index_fails, index_passes, indexes_pass}
use Rattle.writer.proofs.check.check_each.Goals as goal

pub loop-i-init : goal.loop-i-init
loop-i-init g c = λ kept told. indexes_begin _ kept _

pub returns-then-not-keeps : goal.returns-then-not-keeps
unfolding fault_in fault_of
returns-then-not-keeps g c = λ kept told.
    rw c.at.ensures
    (index_fails _ kept _ _ (c.loop-i.invariant kept told) c.loop-i-test.true
    (sym (told _ _ c.loop-i-test.true c.keeps.ensures) ∙ c.if-not-keeps.true))

pub loop-i-preserved : goal.loop-i-preserved
loop-i-preserved g c = λ kept told.
    index_passes _ kept _ _ (c.loop-i.invariant kept told) c.loop-i-test.true
    (sym (told _ _ c.loop-i-test.true c.keeps.ensures) ∙ c.if-not-keeps.false)

pub returns : goal.returns
unfolding fault_in
returns g c = λ kept told. indexes_pass _ kept _ _ (c.loop-i.invariant kept told) (omega arith)
