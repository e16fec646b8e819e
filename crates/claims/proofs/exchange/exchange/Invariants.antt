-- `claims::exchange::exchange` meets its contract. The loop's invariant: the claims so far are exchanged, and the rest of the table is
-- as it came. Assumes nothing.
use Rattle.std.proofs.Common.{length}
use Rattle.claims.proofs.Exchanging.{Begun}
use Rattle.claims.proofs.exchange.exchange.Given as goal

abbrev pub invariant-loop-j : goal.invariant-loop-j
invariant-loop-j l = Begun (length l.initial.rows) l.j l.initial.targets l.initial.rows l.targets l.rows
