-- `lookup::Indexed::number_at` meets its contract: a module's indexes rise, so the tables answer as its list does. Assumes nothing.
use Rattle.std.proofs.Common.{ap₂, ◌∙◌}
use Rattle.std.proofs.Props.{props}
use Rattle.std.proofs.Math.Logic.{∥∥₁_elim}
use Rattle.model.specs.Lookup.{found_by}
use Rattle.model.proofs.Lookup.{found_at_once}
use Rattle.reader.specs.Readings.{program}
use Rattle.lookup.proofs.Listed.{rising}
use Rattle.lookup.proofs.indexed.Indexed.number_at.Goals as goal

pub returns : goal.returns
returns c = ∥∥₁_elim c.args.self.now.module.loaded (hlevel props) (λ loaded.
    c.find.ensures
    ∙ ap₂ (λ bits counts. found_by bits counts c.args.index) c.args.self.now.tabled.0 c.args.self.now.tabled.1
    ∙ (found_at_once.found c.args.self.now.module.held.instructions loaded.n_most (program c.args.self.now.module).targets (rising loaded)
    c.args.index).number)
