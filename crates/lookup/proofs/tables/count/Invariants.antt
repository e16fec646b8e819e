-- The loop's invariant: the counts of the groups so far, and how many targets come before this one. Assumes nothing.
use Rattle.std.specs.Prelude.{◌≡◌, ◌*◌}
use Rattle.model.specs.Lookup.{targets_below}
use Rattle.reader.specs.Readings.{program}
use Rattle.lookup.proofs.Counting.{counts_to}
use Rattle.lookup.proofs.tables.count.Given as goal

abbrev pub invariant-loop-group : goal.invariant-loop-group
invariant-loop-group l =
    (l.counts ≡ counts_to (program l.module).targets l.group) × (l.before ≡ targets_below (program l.module).targets (64 * l.group))
