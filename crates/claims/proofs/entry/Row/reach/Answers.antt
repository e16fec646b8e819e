-- `claims::entry::Row::reach` meets its contract: a target that is reached for the first time has not grown. Assumes nothing.
use Rattle.claims.proofs.entry.Row.reach.Goals as goal

pub returns-in-None : goal.returns-in-None
returns-in-None c i indirect = rw c.in-None.is (c.fresh.ensures i indirect)
