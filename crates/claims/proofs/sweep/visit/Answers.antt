-- `claims::sweep::visit` meets its contract: the edge that is taken, then the one to the next index. Assumes nothing.
use Rattle.std.specs.Prelude.{Some}
use Rattle.std.proofs.Common.{◌+◌}
use Rattle.model.specs.Instructions.{shape, traits}
use Rattle.claims.proofs.Arriving.{named_below, named_listed}
use Rattle.claims.proofs.Visiting.{visit_stops, visit_goes_on}
use Rattle.claims.proofs.sweep.visit.Goals as goal

pub arrive-changed-requires : goal.arrive-changed-requires
arrive-changed-requires c =
    named_below c.args.indexed.now.module.targets.now c.args.rows.now (traits (shape c.args.instruction)).names (named_listed c.args.indexed.now.module c.args.rows.now c.requires.1 (traits (shape c.args.instruction)).names c.target_named-named.ensures)

pub returns-then-not-falls : goal.returns-then-not-falls
returns-then-not-falls c p is_x is_region =
    visit_stops p c.args.i is_x c.args.known _ c.after_taken-taken.ensures
    (c.arrive-changed.ensures (traits (shape c.args.instruction)).names (named_listed c.args.indexed.now.module c.args.rows.now c.requires.1 (traits (shape c.args.instruction)).names c.target_named-named.ensures))
    c.falls.ensures c.if-not-falls.true

pub arrive-requires : goal.arrive-requires
arrive-requires c =
    rw c.arrive-changed.auto.rows (named_below c.args.indexed.now.module.targets.now c.args.rows.now (Some (c.args.i + 1)) (named_listed c.args.indexed.now.module c.args.rows.now c.requires.1 (Some (c.args.i + 1)) c.number_at-there.ensures))

pub returns : goal.returns
returns c p is_x is_region =
    visit_goes_on p c.args.i is_x c.args.known _ c.after_taken-taken.ensures
    (c.arrive-changed.ensures (traits (shape c.args.instruction)).names (named_listed c.args.indexed.now.module c.args.rows.now c.requires.1 (traits (shape c.args.instruction)).names c.target_named-named.ensures))
    c.falls.ensures c.if-not-falls.false (rw is_region at c.after_next-next.ensures)
    (c.arrive.ensures (Some (c.args.i + 1)) (rw c.arrive-changed.auto.rows (named_listed c.args.indexed.now.module c.args.rows.now c.requires.1 (Some (c.args.i + 1)) c.number_at-there.ensures)))
