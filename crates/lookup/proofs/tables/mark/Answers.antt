-- `lookup::tables::mark` meets its contract: each target sets its own bit. Assumes nothing.
use Rattle.std.proofs.Common.{◌%◌, ap, ◌∙◌, arith}
use Rattle.std.proofs.Math.Numerals.{add-one}
use Rattle.std.proofs.Props.{props}
use Rattle.std.proofs.Math.Logic.{∥∥₁_elim}
use Rattle.std.proofs.lemmas.Nat.{one_shl}
use Rattle.std.specs.Coded.{le_prop}
use Rattle.model.specs.File.{tabulate, target_in}
use Rattle.model.specs.Lookup.{bit_table}
use Rattle.lookup.proofs.Listed.{table_is, group_below}
use Rattle.lookup.proofs.Marking.{none_marked, target_marked}
use Rattle.lookup.proofs.tables.mark.Goals as goal

pub loop-j-init : goal.loop-j-init
unfolding tabulate
loop-j-init c = none_marked

pub bounds-bits-index : goal.bounds-bits-index
bounds-bits-index c = ∥∥₁_elim c.args.module.now.loaded le_prop (λ loaded.
    rw (c.from-index.ensures ∙ c.index_of.ensures) (group_below loaded c.loop-j.j c.loop-j-test.true))

pub bounds-bits-index-in-loop-j : goal.bounds-bits-index-in-loop-j
bounds-bits-index-in-loop-j c = ∥∥₁_elim c.args.module.now.loaded le_prop (λ loaded.
    rw (c.from-index.ensures ∙ c.index_of.ensures) (group_below loaded c.loop-j.j c.loop-j-test.true))

pub loop-j-preserved : goal.loop-j-preserved
unfolding target_in
loop-j-preserved c = ∥∥₁_elim c.args.module.now.loaded (hlevel props) (λ loaded.
    rw (add-one, one_shl (c.from-index.result % 64) 64 (omega arith), c.loop-j.invariant)
    (target_marked (target_in c.args.module.now.targets.now) c.loop-j.j c.from-index.result
    (c.from-index.ensures ∙ c.index_of.ensures)
    (rw (c.from-index.ensures ∙ c.index_of.ensures) (group_below loaded c.loop-j.j c.loop-j-test.true))))

pub returns : goal.returns
returns c = ∥∥₁_elim c.args.module.now.loaded (hlevel props) (λ loaded.
    c.loop-j.invariant ∙ rw (table_is loaded) (ap (λ k. bit_table (tabulate 0 k (target_in c.args.module.now.targets.now))) (omega arith)))
