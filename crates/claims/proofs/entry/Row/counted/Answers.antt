-- `claims::entry::Row::counted` meets its contract, register by register. Assumes nothing.
use Rattle.std.proofs.Common.{rules}
use Rattle.model.proofs.Made.{made_tabulates}
use Rattle.claims.proofs.Growing.{none_yet, counted_at, counted_row}
use Rattle.claims.proofs.entry.Row.counted.Goals as goal

pub returns : goal.returns
returns c = counted_row c.args.self.now
    (made_tabulates (counted_at c.args.self.now) none_yet c.from_fn.ensures.items (λ r y q below k. (search rules, search rules)))
