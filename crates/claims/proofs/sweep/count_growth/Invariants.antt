-- `claims::sweep::count_growth` meets its contract. The loop's invariant: the rows so far are counted. Assumes nothing.
use Rattle.claims.proofs.Filling.{Filled, Counted}
use Rattle.claims.proofs.sweep.count_growth.Given as goal

abbrev pub invariant-loop-row : goal.invariant-loop-row
invariant-loop-row l = Filled (Counted l.initial.rows) l.initial.rows l.rows l.row-index
