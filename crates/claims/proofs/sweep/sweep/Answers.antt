-- `claims::sweep::sweep` meets its contract. The loop's invariant: the sweep over the instructions so far is the definition's.
-- Assumes nothing.
use Rattle.std.specs.Prelude.{Some}
use Rattle.std.proofs.Common.{◌≡◌, length, ap, ◌∙◌, arith}
use Rattle.model.specs.File.{program_of}
use Rattle.reader.specs.Readings.{program}
use Rattle.model.specs.Claims.{Sweep, sweep, code_of}
use Rattle.reader.proofs.Fetching.{fetched, program_count}
use Rattle.verifier.proofs.Zones.{unwrapped}
use Rattle.claims.specs.Tables.{entries_in, HasRows}
use Rattle.claims.proofs.Arriving.{named_below, named_listed}
use Rattle.claims.proofs.Sweeping.{Entered, sweep_starts, takes_claim, takes_nothing, sweep_visits, sweep_passes}
use Rattle.claims.proofs.sweep.sweep.Goals.{in-Some, in_default, in-Some-known, in_default-known}
use Rattle.claims.proofs.sweep.sweep.Goals as goal

pub loop-i-init : goal.loop-i-init
loop-i-init c = sweep_starts _ c.unknown.ensures

pub bounds-rows-number : goal.bounds-rows-number
bounds-rows-number c =
    named_below c.args.indexed.now.module.targets.now c.loop-i.rows (Some c.loop-i.i)
    (named_listed c.args.indexed.now.module c.loop-i.rows (c.requires.0, c.loop-i.auto.rows ∙ c.requires.1) (Some c.loop-i.i) c.number_at.ensures)
    c.in-Some.number c.in-Some.is

pub loop-i-preserved : goal.loop-i-preserved
unfolding program_of
loop-i-preserved c =
    let has : HasRows c.args.indexed.now.module c.loop-i.rows = (c.requires.0, c.loop-i.auto.rows ∙ c.requires.1) in
    -- what is known when the target here, if there is one, has told its claim
    let entered : Entered (code_of (program c.args.indexed.now.module)) c.args.indexed.now.module.targets.now
    (entries_in c.args.indexed.now.module.targets.now c.args.rows.now) c.match-number_at.known c.loop-i.rows c.loop-i.changed c.loop-i.i =
    elim c.match-number_at.branch [
      | in-Some w ↦ takes_claim c.loop-i.invariant _
          (named_listed c.args.indexed.now.module c.loop-i.rows has (Some c.loop-i.i) w.in-Some.ensures) w.known-is
      | in_default w ↦ takes_nothing c.loop-i.invariant
          (named_listed c.args.indexed.now.module c.loop-i.rows has (Some c.loop-i.i) w.in_default.ensures) w.known-is
    ] in
    elim c.match-known.branch [
      | in-Some-known w ↦ rw (w.rows-is, w.known-is, w.changed-is)
          (sweep_visits entered w.in-Some-known.is
          (w.visit-passed.ensures (code_of (program c.args.indexed.now.module))
          (fetched c.requires.0 c.loop-i.i c.loop-i-test.true _ w.fetch.ensures)
          (c.region_of-region.ensures ∙ unwrapped c.requires.0.kept.layout)))
      | in_default-known w ↦ rw (w.rows-is, w.known-is, w.changed-is) (sweep_passes entered w.in_default-known.is)
    ]

pub returns : goal.returns
returns c =
    let all : c.loop-i.i ≡ length (program c.args.indexed.now.module).code =
    omega (arith, c.loop-i-test.false, program_count c.requires.0) in
    ap (λ (s : Sweep). s.table) (c.loop-i.invariant.is ∙ ap (sweep _ _) all)
