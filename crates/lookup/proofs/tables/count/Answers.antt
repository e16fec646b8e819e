-- `lookup::tables::count` meets its contract: a group's bits are as many as its targets. Assumes nothing.
use Rattle.std.proofs.Common.{◌≡◌, ◌+◌, ◌*◌, ◌<◌, get_or, sym, ap, ◌∙◌, arith}
use Rattle.std.specs.Prelude.{count_ones}
use Rattle.std.specs.Int.{div_ceil}
use Rattle.std.specs.Coded.{le_prop}
use Rattle.std.proofs.Math.Nat.{ℕ_set}
use Rattle.model.specs.Lookup.{targets_below}
use Rattle.reader.specs.Readings.{program}
use Rattle.std.proofs.Props.{props}
use Rattle.std.proofs.Math.Logic.{∥∥₁_elim}
use Rattle.lookup.proofs.Listed.{rising, targets_most}
use Rattle.lookup.proofs.Counting.{counts_to, none_before, none_counted, one_counted, groups_end, group_inside, all_counted, group_further, below_most}
use Rattle.lookup.proofs.tables.count.Goals as goal

pub loop-group-init : goal.loop-group-init
loop-group-init c = (none_counted (program c.args.module.now).targets, none_before (program c.args.module.now).targets)

pub overflow_cast-counts : goal.overflow_cast-counts
overflow_cast-counts c = ∥∥₁_elim c.args.module.now.loaded (hlevel props) (λ loaded. record {
  fits = omega (arith, c.loop-group.invariant.1, below_most (program c.args.module.now).targets (64 * c.loop-group.group), targets_most loaded);
})

pub bounds-counts-group : goal.bounds-counts-group
bounds-counts-group c = ∥∥₁_elim c.args.module.now.loaded le_prop (λ loaded.
    group_inside loaded.n_most (rw c.div_ceil-group-end.ensures at c.loop-group-test.true))

pub bounds-bits-group : goal.bounds-bits-group
bounds-bits-group c = ∥∥₁_elim c.args.module.now.loaded le_prop (λ loaded.
    group_inside loaded.n_most (rw c.div_ceil-group-end.ensures at c.loop-group-test.true))

module _ (c : goal.After-before-1) where
  inside : c.loop-group.group < 64
  inside = ∥∥₁_elim c.args.module.now.loaded le_prop (λ loaded.
      group_inside loaded.n_most (rw c.div_ceil-group-end.ensures at c.loop-group-test.true))

  further : c.loop-group.before + count_ones (get_or c.args.bits.now c.loop-group.group 0)
      ≡ targets_below (program c.args.module.now).targets (64 * (c.loop-group.group + 1))
  further = ∥∥₁_elim c.args.module.now.loaded (ℕ_set _ _) (λ loaded.
      rw (c.requires, c.loop-group.invariant.1) (sym (group_further (program c.args.module.now).targets (rising loaded) c.loop-group.group inside)))

pub overflow_add-before : goal.overflow_add-before
overflow_add-before c = ∥∥₁_elim c.args.module.now.loaded (hlevel props) (λ loaded. record {
  fits = omega (arith, further c, below_most (program c.args.module.now).targets (64 * (c.loop-group.group + 1)), targets_most loaded);
})

pub loop-group-preserved : goal.loop-group-preserved
loop-group-preserved c =
    (rw (c.loop-group.invariant.0, c.loop-group.invariant.1) (one_counted (program c.args.module.now).targets c.loop-group.group (inside c)), further c)

pub returns : goal.returns
returns c =
    let all : c.loop-group.group ≡ div_ceil c.args.module.now.held.instructions 64 = omega (arith, c.div_ceil-group-end.ensures) in
    c.loop-group.invariant.0 ∙ ap (counts_to (program c.args.module.now).targets) all
    ∙ all_counted (program c.args.module.now).targets c.args.module.now.held.instructions _ (groups_end c.args.module.now.held.instructions)
