-- `writer::fill::TargetRowRow::write` meets its contract: four bytes and the claim are stored one behind the other. Assumes nothing.
use Prim.Native.Nat.{◌/◌, ◌%◌}
use native.Mathlib.Omega.{arith}
use lib.ListN.{get_or}
use Rattle.model.specs.Words.{low_bytes}
use Rattle.writer.proofs.Claiming.{claim_behind}
use Rattle.writer.proofs.fill.TargetRowRow.write.Goals as goal

pub returns : goal.returns
unfolding low_bytes
returns c = let entry = c.args in
    let row = entry.self in
    claim_behind entry.buffer.now entry.at (get_or row 0 0 % 256) (get_or row 0 0 / 256 % 256) (get_or row 1 0 % 256) 0
    c.claim_of.ensures (omega arith) c.write_claim.ensures
