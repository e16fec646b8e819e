-- `writer::fill::write_rows`. The loop's invariant: the rows so far are stored. Assumes nothing.
use mathlib.Core.Path.{◌≡◌}
use mathlib.Core.List.{flat_map}
use lib.ListN.{take}
use lib.Seq.{sets}
use Rattle.writer.proofs.fill.write_rows.Given as goal

abbrev pub invariant-loop-i : goal.invariant-loop-i
invariant-loop-i g l = l.buffer ≡ sets l.initial.buffer l.at (flat_map g.R.Row.bytes (take l.i l.rows))
