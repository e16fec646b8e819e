-- `reader::decode::fetch` meets its contract: it assembles the bytes that the definition decodes. Assumes nothing.
use mathlib.Core.Path.{refl, ◌∙◌}
use native.Mathlib.Omega.{arith}
use Rattle.reader.proofs.decode.fetch.Goals as goal

pub returns-then-code-at : goal.returns-then-code-at
returns-then-code-at c = record { is = λ whole y e. absurd (omega arith); past = λ short. refl }

pub returns : goal.returns
returns c = record {
  is = λ there y e. c.assemble.ensures y (c.whole_encoding.ensures _ refl ∙ e);
  past = λ short. absurd (omega arith);
}
