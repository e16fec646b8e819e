-- `machine::stepping::run_in` meets its contract: by the laws of the loop. Assumes nothing.
use native.Mathlib.Omega.{arith}
use Rattle.machine.proofs.Looping.{underway_starts, goes_on_lem, run_ended, run_spent}
use Rattle.machine.proofs.stepping.run_in.Goals as goal

pub loop-made-init : goal.loop-made-init
loop-made-init c = rw c.from-pc.ensures (underway_starts _ _ _ _ c.requires.inside)

pub loop-made-preserved : goal.loop-made-preserved
loop-made-preserved c = goes_on_lem c.loop-made.invariant c.loop-made-test.true c.step.ensures c.in-Ok.is

pub returns-in-Err : goal.returns-in-Err
returns-in-Err c = run_ended c.loop-made.invariant c.loop-made-test.true c.step.ensures c.in-Err.is _ c.ended.ensures

pub returns : goal.returns
returns c = run_spent c.loop-made.invariant (omega arith) _ c.ended-2.ensures
