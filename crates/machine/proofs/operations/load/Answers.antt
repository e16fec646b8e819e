-- `machine::operations::load` meets its contract: by where the access lies, and what the load makes of the bytes. Assumes nothing.
use Rattle.std.proofs.Common.{rules, ◌≡◌, Err}
use Rattle.model.specs.File.{program_of}
use Rattle.machine.proofs.Settling.{access_ends, load_settles}
use Rattle.machine.proofs.operations.load.Goals as goal

pub returns-in_err-offset : goal.returns-in_err-offset
unfolding program_of
returns-in_err-offset c = let same : c.from_residual.result ≡ Err c.in_err-offset.field-0.0 = search rules in
    rw same (access_ends _ _ _ _ _ (rw c.width_read.ensures at c.reach_of.ensures) _ c.in_err-offset.was _)

pub returns : goal.returns
unfolding program_of
returns c = load_settles _ _ _ _ _ c.reach_of.ensures _ c.in_ok-offset.was _ c.width_read.ensures _ _ _ _
    c.carried.ensures c.assign.ensures
