-- `lookup::tables::find` meets its contract: by the bit of the index in its group's word. Assumes nothing.
use native.Mathlib.Omega.{arith}
use mathlib.Core.Path.{sym}
use Rattle.model.proofs.Lookup.{none_past}
use Rattle.lookup.proofs.Finding.{bit_clear, bit_found}
use Rattle.lookup.proofs.tables.find.Goals as goal

pub returns-then-group-ge-GROUPS : goal.returns-then-group-ge-GROUPS
returns-then-group-ge-GROUPS c = sym (none_past c.args.bits.now c.args.counts.now c.args.index (omega (arith, c.if-group-ge-GROUPS.true)))

pub returns-then-word-bit-eq0 : goal.returns-then-word-bit-eq0
returns-then-word-bit-eq0 c = bit_clear c.args.bits.now c.args.counts.now c.args.index c.if-word-bit-eq0.true

pub returns : goal.returns
returns c = bit_found c.args.bits.now c.args.counts.now c.args.index c.if-word-bit-eq0.false c.from.ensures
