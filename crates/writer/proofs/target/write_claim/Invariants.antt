-- `writer::target::write_claim`. The loop's invariant: the ranges of the registers so far are written. Assumes nothing.
use mathlib.Core.Path.{◌≡◌}
use Rattle.model.specs.Claims.{write_ranges}
use Rattle.writer.proofs.target.write_claim.Given as goal

abbrev pub invariant-loop-r : goal.invariant-loop-r
invariant-loop-r l = l.bytes ≡ write_ranges l.r l.start (record { lows = l.lows; highs = l.highs }) l.initial.bytes
