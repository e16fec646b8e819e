-- `machine::operations::guard` meets its contract: the size is a power of two, and the region ends below 2^32. Assumes nothing.
use Rattle.std.specs.Prelude.{◌<◌}
use native.Mathlib.Nat.{mod-lt}
use native.Mathlib.Omega.{arith}
use Rattle.model.specs.Instructions.{guarded}
use Rattle.machine.proofs.Modules.{bounds, masked}
use Rattle.machine.proofs.operations.guard.Goals as goal

pub overflow_sub-result : goal.overflow_sub-result
overflow_sub-result c = omega (arith, (bounds c.args.m.now).least)

pub overflow_add-result : goal.overflow_add-result
overflow_add-result c = let kept = bounds c.args.m.now in
    let positive : 0 < c.args.m.now.layout.size = omega (arith, kept.least) in
    record { fits = omega (arith, masked c.args.m.now c.args.x, mod-lt c.args.x positive, kept.above) }

pub returns : goal.returns
unfolding guarded
returns c = rw (masked c.args.m.now c.args.x)
