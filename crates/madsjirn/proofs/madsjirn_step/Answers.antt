-- `madsjirn::madsjirn_step` meets its contract: what the run over the lent machine leaves, with its answer's numbers. Assumes nothing.
use Rattle.madsjirn.proofs.Hosting.{leaves}
use Rattle.madsjirn.proofs.madsjirn_step.Goals as goal

pub returns : goal.returns
returns c = leaves _ _ _ _ _ _ _ _ _ _ c.step.ensures c.from.ensures
