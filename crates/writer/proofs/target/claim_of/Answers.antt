-- `writer::target::claim_of` meets its contract: its two lists are made entry by entry. Assumes nothing.
use Prim.Native.Nat.{◌+◌, ◌*◌}
use lib.ListN.{get_or}
use Rattle.std.proofs.Common.{rules}
use Rattle.model.proofs.Made.{made_tabulates}
use Rattle.writer.specs.Rows.{claim_of}
use Rattle.writer.proofs.target.claim_of.Goals as goal

pub returns : goal.returns
unfolding claim_of
returns c = let row = c.args.row in
    rw (
      made_tabulates (λ r. get_or row (2 + 2 * r) 0) 0 c.from_fn.ensures.items (λ r y q below k. search rules),
      made_tabulates (λ r. get_or row (3 + 2 * r) 0) 0 c.from_fn-2.ensures.items (λ r y q below k. search rules),
    )
