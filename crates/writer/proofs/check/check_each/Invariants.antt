-- `writer::check::check_each`. The loop's invariant: whatever test the closure makes, the first fault from here on is the first of all.
-- Assumes nothing.
use Prim.Native.Nat.{ℕ, ◌<◌}
use mathlib.Core.Bool.{Bool}
use mathlib.Core.Path.{◌≡◌}
use Rattle.model.specs.Answers.{rule_number}
use Rattle.reader.proofs.Checking.{Judges}
use Rattle.writer.proofs.check.check_each.Given as goal

abbrev pub invariant-loop-i : goal.invariant-loop-i
invariant-loop-i g l =
    (kept : ℕ → Bool) → ((i : ℕ) (answer : Bool) → i < l.n → goal.F-post g l.keeps i answer → answer ≡ kept i)
    → Judges (rule_number l.rule) kept l.n l.i
