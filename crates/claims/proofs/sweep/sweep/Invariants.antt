-- `claims::sweep::sweep` meets its contract. The loop's invariant: the sweep over the instructions so far is the definition's.
-- Assumes nothing.
use Rattle.reader.specs.Readings.{program}
use Rattle.model.specs.Claims.{code_of}
use Rattle.claims.specs.Tables.{entries_in}
use Rattle.claims.proofs.Sweeping.{So}
use Rattle.claims.proofs.sweep.sweep.Given as goal

abbrev pub invariant-loop-i : goal.invariant-loop-i
invariant-loop-i l = So (code_of (program l.module)) l.module.targets.now (entries_in l.module.targets.now l.initial.rows) l.known l.rows l.changed l.i
