-- `claims::sweep::give_lowest` meets its contract: by whether a target is unreached. Assumes nothing.
use Rattle.claims.proofs.Giving.{gives_none, gives_lowest}
use Rattle.claims.proofs.sweep.give_lowest.Goals as goal

pub returns-in_default-clause-gives : goal.returns-in_default-clause-gives
returns-in_default-clause-gives c targets = gives_none c.args.rows.now targets c.in_default.is c.lowest_unreached.ensures

pub returns-clause-gives : goal.returns-clause-gives
returns-clause-gives c targets = gives_lowest c.args.rows.now targets c.in-Some.is c.lowest_unreached.ensures _ c.unknown.ensures c.fresh.ensures
