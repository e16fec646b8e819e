-- `machine::operations::store` meets its contract: by where the access lies, and where the step goes. Assumes nothing.
use Rattle.std.proofs.Common.{rules, ◌≡◌, Err}
use mathlib.Core.Path.{sym, ◌∙◌}
use Rattle.model.specs.File.{program_of}
use Rattle.machine.proofs.Reaching.{inside_fits}
use Rattle.machine.proofs.Settling.{access_ends, store_settles, store_stays}
use Rattle.machine.proofs.operations.store.Goals as goal

pub write-requires : goal.write-requires
write-requires c = inside_fits _ _ _ _ (sym c.reach_of.ensures ∙ c.in_ok-offset.was) c.args.region.now c.requires

pub returns-in_err-offset : goal.returns-in_err-offset
unfolding program_of
returns-in_err-offset c = let same : c.from_residual.result ≡ Err c.in_err-offset.field-0.0 = search rules in
    λ rs. rw same (access_ends _ _ _ _ _ c.reach_of.ensures _ c.in_err-offset.was _)

pub returns-in_err-next : goal.returns-in_err-next
unfolding program_of
returns-in_err-next c = let same : c.from_residual-in_err-next.result ≡ Err c.in_err-next.field-0.0 = search rules in
    λ rs. rw same (store_stays _ _ _ _ _ c.reach_of.ensures _ c.in_ok-offset.was _ _ c.onward.ensures c.in_err-next.was)

pub returns : goal.returns
unfolding program_of
returns c = λ rs. store_settles _ _ _ _ _ c.reach_of.ensures _ c.in_ok-offset.was _ _ _ c.onward.ensures c.in_ok-next.was
    c.write.ensures
