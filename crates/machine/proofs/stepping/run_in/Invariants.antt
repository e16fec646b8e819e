-- `machine::stepping::run_in` meets its contract. The loop's invariant: what is left of the run from here, with the steps made, comes to
-- what the whole run comes to. Assumes nothing.
use Rattle.machine.proofs.Looping.{machine_of, Underway}
use Rattle.machine.proofs.stepping.run_in.Given as goal

abbrev pub invariant-loop-made : goal.invariant-loop-made
invariant-loop-made l = Underway l.indexed.module l.budget l.fn.machine l.initial.region (machine_of l.registers l.pc) l.region l.made
