-- `words::bytes::store` meets its contract: in one piece, or a byte at a time as far as there are bytes. Assumes nothing.
use Rattle.std.proofs.Common.{sym, ◌∙◌, ◌+◌, ◌-◌, arith}
use Rattle.words.proofs.Writes.{write_first, write_past}
use Rattle.words.proofs.bytes.store.Goals as goal

pub loop-i-preserved : goal.loop-i-preserved
loop-i-preserved g c =
    write_first g.row.N c.loop-i.i c.loop-i.rest c.loop-i.bytes c.args.at (omega arith) ∙ c.loop-i.invariant

pub returns-after-loop-i : goal.returns-after-loop-i
returns-after-loop-i g c =
    sym (write_past (g.row.N - c.loop-i.i) c.loop-i.rest c.loop-i.bytes (c.args.at + c.loop-i.i) (λ left. omega arith)) ∙ c.loop-i.invariant
