-- The loop's invariant: what arrives is the model's, the number of the target here is the module's, and the first fault from here on
-- is the first of all. Assumes nothing.
use Rattle.verifier.proofs.Passing.{Pass}
use Rattle.verifier.proofs.verify.check_code.Given as goal

abbrev pub invariant-loop-i : goal.invariant-loop-i
invariant-loop-i l = Pass l.indexed.module l.known l.arrives l.here l.i
