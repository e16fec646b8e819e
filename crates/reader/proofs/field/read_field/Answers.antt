-- `reader::field::read_field` meets its contract: by the law for each way that judging a field can go, in the order of its tests.
-- Assumes nothing.
use mathlib.Core.Path.{refl}
use native.Mathlib.Omega.{arith}
use Rattle.model.specs.Answers.{fault_of}
use Rattle.reader.specs.Findings.{fault_in}
use Rattle.reader.proofs.Judging.{short_header, wrong_tag, bad_length, short_value, all_met, value_is}
use Rattle.reader.proofs.field.read_field.Goals as goal

pub returns-then-all-start-clause-judged : goal.returns-then-all-start-clause-judged
unfolding fault_in fault_of
returns-then-all-start-clause-judged c = rw c.at.ensures (short_header _ _ _ (omega arith))

pub returns-then-file-start-clause-judged : goal.returns-then-file-start-clause-judged
unfolding fault_in fault_of
returns-then-file-start-clause-judged c = rw c.at-then-file-start.ensures (wrong_tag _ _ _ (omega arith) c.if-file-start.true)

pub returns-then-not-is_listed-clause-judged : goal.returns-then-not-is_listed-clause-judged
unfolding fault_in fault_of
returns-then-not-is_listed-clause-judged c =
    rw c.at-then-not-is_listed.ensures
    (bad_length _ _ _ (omega arith) c.if-file-start.false _ _ c.read_u16-length.ensures c.is_listed.ensures c.if-not-is_listed.true)

pub returns-then-all-value-clause-judged : goal.returns-then-all-value-clause-judged
unfolding fault_in fault_of
returns-then-all-value-clause-judged c =
    rw c.at-then-all-value.ensures
    (short_value _ _ _ (omega arith) c.if-file-start.false _ _ c.read_u16-length.ensures c.is_listed.ensures
    c.if-not-is_listed.false c.if-all-value.true)

pub returns-clause-judged : goal.returns-clause-judged
unfolding fault_in
returns-clause-judged c =
    all_met _ _ _ (omega arith) c.if-file-start.false _ _ c.read_u16-length.ensures c.is_listed.ensures
    c.if-not-is_listed.false c.if-all-value.false

pub returns-clause-value : goal.returns-clause-value
returns-clause-value c = record {
  bytes =
      value_is _ _ _ (omega arith) c.if-file-start.false _ _ c.read_u16-length.ensures c.is_listed.ensures
      c.if-not-is_listed.false c.if-all-value.false;
  place = λ met. (refl, omega arith);
}
