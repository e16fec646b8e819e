-- `reader::target::claim_in` meets its contract: a word for each register, for the lowest and for the highest values. Assumes nothing.
use Prim.Native.Nat.{◌+◌, ◌*◌}
use Rattle.std.proofs.Common.{rules}
use Rattle.model.specs.Words.{read_bytes}
use Rattle.model.proofs.Made.{made_tabulates}
use Rattle.reader.proofs.Targets.{claim_is}
use Rattle.reader.proofs.target.claim_in.Goals as goal

pub returns : goal.returns
returns c =
    let targets = c.args.targets.now in
    let start = c.target_start-start.result in
    claim_is targets c.args.j start _ _ c.target_start-start.ensures.0
    (made_tabulates (λ r. read_bytes 4 targets (start + 4 + 8 * r)) 0 c.from_fn.ensures.items (λ r y q below k. search rules))
    (made_tabulates (λ r. read_bytes 4 targets (start + 8 + 8 * r)) 0 c.from_fn-2.ensures.items (λ r y q below k. search rules))
