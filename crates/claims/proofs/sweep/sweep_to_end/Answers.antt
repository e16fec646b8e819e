-- `claims::sweep::sweep_to_end` meets its contract. The loop's invariant: the entries are those that the definition comes to. The
-- measure is the room that they have left. Assumes nothing.
use Rattle.model.proofs.Claims.FromFile.{module_fit}
use Rattle.claims.proofs.Going.{goes_first, goes_counted, goes_given, goes_no_further, few_grown}
use Rattle.claims.proofs.sweep.sweep_to_end.Goals as goal

pub sweeps-init : goal.sweeps-init
sweeps-init c = goes_first (module_fit c.requires.1 c.requires.0.0.kept) c.requires.2

pub count_growth-requires : goal.count_growth-requires
count_growth-requires c = few_grown (module_fit c.requires.1 c.requires.0.0.kept) c.args.indexed.now.module.targets.now c.sweeps.invariant _ c.sweep.ensures

pub sweeps-smaller-then-sweep : goal.sweeps-smaller-then-sweep
sweeps-smaller-then-sweep c =
    (goes_counted (module_fit c.requires.1 c.requires.0.0.kept) c.sweeps.invariant c.sweep.ensures c.if-sweep.true (c.count_growth.ensures _)).1

pub sweeps-preserved-then-sweep : goal.sweeps-preserved-then-sweep
sweeps-preserved-then-sweep c =
    (goes_counted (module_fit c.requires.1 c.requires.0.0.kept) c.sweeps.invariant c.sweep.ensures c.if-sweep.true (c.count_growth.ensures _)).0

pub returns-then-not-give_lowest : goal.returns-then-not-give_lowest
returns-then-not-give_lowest c =
    rw (c.give_lowest.ensures.keeps c.if-not-give_lowest.true)
    (goes_no_further (module_fit c.requires.1 c.requires.0.0.kept) c.sweeps.invariant c.sweep.ensures c.if-sweep.false
    (rw c.if-not-give_lowest.true at (c.give_lowest.ensures.gives c.args.indexed.now.module.targets.now)))

pub sweeps-smaller : goal.sweeps-smaller
sweeps-smaller c =
    (goes_given (module_fit c.requires.1 c.requires.0.0.kept) c.sweeps.invariant c.sweep.ensures c.if-sweep.false
    (rw c.if-not-give_lowest.false at (c.give_lowest.ensures.gives c.args.indexed.now.module.targets.now))).1

pub sweeps-preserved : goal.sweeps-preserved
sweeps-preserved c =
    (goes_given (module_fit c.requires.1 c.requires.0.0.kept) c.sweeps.invariant c.sweep.ensures c.if-sweep.false
    (rw c.if-not-give_lowest.false at (c.give_lowest.ensures.gives c.args.indexed.now.module.targets.now))).0
