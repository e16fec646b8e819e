-- `machine::access::in_zones` meets its contract: by the law of distances. Assumes nothing.
use Rattle.std.proofs.Math.Bool.{Bool-set}
use native.Mathlib.Omega.{arith}
use Rattle.machine.proofs.Modules.{by_layout, bounds}
use Rattle.machine.proofs.Reaching.{zones_by_distance}
use Rattle.machine.proofs.access.in_zones.Goals as goal

pub overflow_add-most-2 : goal.overflow_add-most-2
overflow_add-most-2 c = let kept = bounds c.args.m.now in record { fits = omega (arith, kept.most, kept.small) }

pub overflow_sub-most : goal.overflow_sub-most
overflow_sub-most c = omega (arith, c.from.ensures.1, (bounds c.args.m.now).least)

pub returns : goal.returns
returns c = rw (c.difference-distance.ensures, c.from.ensures.0)
    (by_layout c.args.m.now (Bool-set _ _) (λ kept. zones_by_distance kept _ c.ranges.address.fits c.args.width))
