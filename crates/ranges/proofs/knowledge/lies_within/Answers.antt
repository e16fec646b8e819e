-- `ranges::knowledge::lies_within` meets its contract: the chain is true exactly where each register's range lies within the claim's.
-- Assumes nothing.
use Rattle.std.proofs.Common.{rules}
use Rattle.std.proofs.iter.runs.Sources.{ranges}
use Rattle.ranges.proofs.Registers.{lies_within_is}
use Rattle.ranges.proofs.knowledge.lies_within.Goals as goal

pub returns : goal.returns
returns c = lies_within_is c.args.known c.args.claim c.all.result (search (rules, ranges))
