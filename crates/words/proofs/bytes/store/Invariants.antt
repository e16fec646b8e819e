-- `words::bytes::store`. The loop's invariant: what is left to write, written, makes the whole write. Assumes nothing.
use Rattle.std.proofs.Common.{◌≡◌, ◌+◌, ◌-◌}
use Rattle.model.specs.Words.{write_bytes}
use Rattle.words.proofs.bytes.store.Given as goal

abbrev pub invariant-loop-i : goal.invariant-loop-i
invariant-loop-i g l = write_bytes (g.row.N - l.i) l.rest l.bytes (l.at + l.i) ≡ write_bytes g.row.N l.x l.initial.bytes l.at
