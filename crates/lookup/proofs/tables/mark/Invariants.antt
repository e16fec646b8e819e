-- The loop's invariant: the bits of the targets so far are set. Assumes nothing.
use Rattle.std.specs.Prelude.{◌≡◌}
use Rattle.model.specs.File.{tabulate, target_in}
use Rattle.model.specs.Lookup.{bit_table}
use Rattle.lookup.proofs.tables.mark.Given as goal

abbrev pub invariant-loop-j : goal.invariant-loop-j
invariant-loop-j l = l.bits ≡ bit_table (tabulate 0 l.j (target_in l.module.targets.now))
