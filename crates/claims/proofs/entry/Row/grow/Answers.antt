-- `claims::entry::Row::grow` meets its contract, register by register. Assumes nothing.
use Rattle.std.proofs.Common.{get_or, rules}
use Rattle.model.proofs.Made.{made_tabulates}
use Rattle.claims.proofs.Growing.{none_yet, nothing, widened_at, grown_at, grown_row}
use Rattle.claims.proofs.entry.Row.grow.Goals as goal

pub returns : goal.returns
returns c =
    grown_row c.args.self.now c.args.claim c.args.ranges (search rules)
    (made_tabulates (widened_at c.args.self.now c.args.claim c.args.ranges) nothing c.from_fn-after.ensures.items (λ r y q below k. (search rules, search rules)))
    (made_tabulates (λ r. (get_or c.from_fn-after.result r nothing).low) 0 c.from_fn.ensures.items (λ r y q below k. (search rules, search rules)))
    (made_tabulates (λ r. (get_or c.from_fn-after.result r nothing).high) 0 c.from_fn-2.ensures.items (λ r y q below k. (search rules, search rules)))
    (made_tabulates (grown_at c.args.self.now c.args.claim c.args.ranges) none_yet c.from_fn-3.ensures.items (λ r y q below k. (search rules, search rules)))
