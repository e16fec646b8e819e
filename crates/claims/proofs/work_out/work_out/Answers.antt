-- `claims::work_out::work_out` meets its contract: the refusal of the reader, or what comes of the module that was read. Assumes nothing.
use Rattle.std.proofs.Common.{◌≡◌, ◌≤◌, length, refl, sym, ◌∙◌, rules}
use Rattle.std.proofs.lemmas.List.{length-take-le}
use Rattle.std.specs.Prelude.{Ok, Err, false}
use Rattle.model.specs.File.{code_start}
use Rattle.model.specs.Promises.{AreBytes}
use Rattle.model.proofs.Stretches.{value_bytes}
use Rattle.reader.specs.Loading.{Loaded}
use Rattle.reader.specs.Readings.{reading_of}
use Rattle.reader.proofs.Passes.{ReadFacts, module_load, load_refused}
use Rattle.claims.proofs.Finishing.{refused_early}
use Rattle.claims.proofs.work_out.work_out.Goals as goal
use Rattle.claims.proofs.work_out.work_out.Goals.{In_ok-module}

pub returns-in_err-module : goal.returns-in_err-module
returns-in_err-module c =
    let same : c.from_residual.result ≡ Err c.in_err-module.field-0.0 = search rules in
    rw same (refused_early _ _ _ (load_refused false c.args.file.now c.args.limits (Err c.in_err-module.field-0.0) c.in_err-module.ensures.report _ refl))

module _ (c : In_ok-module) where
  facts : ReadFacts false c.args.file.now c.in_ok-module.module.layout c.in_ok-module.module.held.instructions c.in_ok-module.module.held.targets
  facts = (module_load false c.args.file.now c.args.limits (Ok c.in_ok-module.module) c.in_ok-module.ensures.report _ refl).read

pub slice_bounds-table-end : goal.slice_bounds-table-end
slice_bounds-table-end c = (facts (goal.at.slice_bounds-table-end c).In_ok-module).loaded.k_most

pub slice_bounds-rows-end : goal.slice_bounds-rows-end
slice_bounds-rows-end c =
    let most : c.in_ok-module.module.held.targets ≤ 256 = (facts (goal.at.slice_bounds-rows-end c).In_ok-module).loaded.k_most in
    sym (length-take-le c.in_ok-module.module.held.targets _ most)

pub sweep_all-requires : goal.sweep_all-requires
sweep_all-requires c =
    let m = c.in_ok-module.module in
    let parts = c.in_ok-module.ensures.parts in
    let read = facts (goal.at.sweep_all-requires c).In_ok-module in
    let bytes : AreBytes c.args.file.now = search rules in
    let loaded : Loaded m.layout m.code.now m.targets.now m.held.instructions m.held.targets =
    rw (parts.code.bytes, parts.targets.bytes) read.loaded in
    let short = length-take-le m.held.targets _ read.loaded.k_most in (
      (loaded, c.begin.auto.rows ∙ short),
      rw parts.code.bytes (value_bytes c.args.file.now code_start 2 bytes),
      c.begin.ensures m.layout m.code.now m.held.instructions (rw short loaded),
    )

pub finish-requires : goal.finish-requires
unfolding reading_of
finish-requires c =
    let m = c.in_ok-module.module in
    let parts = c.in_ok-module.ensures.parts in
    let read = facts (goal.at.finish-requires c).In_ok-module in
    let short = length-take-le m.held.targets _ read.loaded.k_most in
    let long : length c.sweep_all.new.rows ≡ m.held.targets = c.sweep_all.auto.rows ∙ c.begin.auto.rows ∙ short in (
      rw (long, ← read.same_layout, ← read.count_is) (sym c.in_ok-module.ensures.report),
      rw (parts.code.bytes, parts.targets.bytes, read.same_layout) at c.sweep_all.ensures,
    )
