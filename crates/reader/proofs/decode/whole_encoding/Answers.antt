-- `reader::decode::whole_encoding` meets its contract: the bytes that it loads are those that the definition decodes. Assumes nothing.
use Rattle.model.specs.File.{instruction_in}
use Rattle.reader.proofs.Assembling.{immediate_read}
use Rattle.reader.proofs.decode.whole_encoding.Goals as goal

pub returns : goal.returns
unfolding instruction_in
returns c = let entry = c.args in
    λ i is. rw (immediate_read entry.code.now entry.at _ c.little_endian-imm.ensures, is)
