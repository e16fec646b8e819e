-- `claims::sweep::sweep_to_end` meets its contract. The loop's invariant: the entries are those that the definition comes to. The
-- measure is the room that they have left. Assumes nothing.
use Rattle.reader.specs.Readings.{program}
use Rattle.model.proofs.Claims.Tables.{rooms}
use Rattle.claims.specs.Tables.{entries_in}
use Rattle.claims.proofs.Going.{Going}
use Rattle.claims.proofs.sweep.sweep_to_end.Given as goal

abbrev pub invariant-sweeps : goal.invariant-sweeps
invariant-sweeps l = Going (program l.indexed.module) (entries_in l.indexed.module.targets.now l.rows)

abbrev pub decreases-sweeps : goal.decreases-sweeps
decreases-sweeps l = rooms (entries_in l.indexed.module.targets.now l.rows)
