-- `claims::sweep::begin` meets its contract. The loop's invariant: the rows so far are begun. Assumes nothing.
use Rattle.claims.proofs.Filling.{Filled, Begun}
use Rattle.claims.proofs.sweep.begin.Given as goal

abbrev pub invariant-loop-j : goal.invariant-loop-j
invariant-loop-j l = Filled (Begun l.targets) l.initial.rows l.rows l.j
