-- `machine::stepping::execute` meets its contract: an arm for each instruction, by the laws of the arms. Assumes nothing.
use mathlib.Core.Path.{refl}
use native.Mathlib.Omega.{arith}
use Rattle.model.specs.Instructions.{shape, guarded}
use Rattle.model.specs.File.{program_of}
use Rattle.machine.proofs.Arms.{displaced_by, assigned, halted, loaded, stored, jumped, branched, not_branched, checked, denied, jumped_via}
use Rattle.machine.proofs.stepping.execute.Goals as goal

pub returns-in-Halt : goal.returns-in-Halt
returns-in-Halt c = halted _ _ _ _ c.in-Halt.is

pub returns-in-Set : goal.returns-in-Set
unfolding shape
returns-in-Set c = assigned _ _ _ c.in-Set.is _ _ _ _ _ _ refl refl c.assign.ensures

pub returns-in-Copy : goal.returns-in-Copy
unfolding shape
returns-in-Copy c = assigned _ _ _ c.in-Copy.is _ _ _ _ _ _ refl c.get-y.ensures c.assign-in-Copy.ensures

pub returns-in-Add : goal.returns-in-Add
unfolding shape
returns-in-Add c = assigned _ _ _ c.in-Add.is _ _ _ _ _ _ refl (cc) c.assign-in-Add.ensures

pub returns-in-Addi : goal.returns-in-Addi
unfolding shape
returns-in-Addi c = assigned _ _ _ c.in-Addi.is _ _ _ _ _ _ refl
    (displaced_by c.args.registers.now c.in-Addi.a _ _ c.in-Addi.imm (omega arith) c.get-x-in-Addi.ensures c.displaced.ensures)
    c.assign-in-Addi.ensures

pub returns-in-Sub : goal.returns-in-Sub
unfolding shape
returns-in-Sub c = assigned _ _ _ c.in-Sub.is _ _ _ _ _ _ refl (cc) c.assign-in-Sub.ensures

pub returns-in-Andi : goal.returns-in-Andi
unfolding shape
returns-in-Andi c = assigned _ _ _ c.in-Andi.is _ _ _ _ _ _ refl (cc) c.assign-in-Andi.ensures

pub returns-in-Guard : goal.returns-in-Guard
unfolding shape guarded program_of
returns-in-Guard c = assigned _ _ _ c.in-Guard.is _ _ _ _ _ _ refl (cc) c.assign-in-Guard.ensures

pub returns-in-Shr : goal.returns-in-Shr
unfolding shape
returns-in-Shr c = assigned _ _ _ c.in-Shr.is _ _ _ _ _ _ refl (cc) c.assign-in-Shr.ensures

pub returns-in-Sar : goal.returns-in-Sar
unfolding shape
returns-in-Sar c = assigned _ _ _ c.in-Sar.is _ _ _ _ _ _ refl (cc) c.assign-in-Sar.ensures

pub returns-in-Load : goal.returns-in-Load
returns-in-Load c = loaded _ _ _ _ _ _ _ _ _
    (displaced_by c.args.registers.now c.in-Load.b _ _ c.in-Load.imm (omega arith) c.get-y-in-Load.ensures
    c.displaced-address.ensures)
    _ c.in-Load.is _ c.load.ensures

pub returns-in-Store : goal.returns-in-Store
returns-in-Store c = stored _ _ _ _ _ _ _ _ _
    (displaced_by c.args.registers.now c.in-Store.b _ _ c.in-Store.imm (omega arith) c.get-y-in-Store.ensures
    c.displaced-address-in-Store.ensures)
    _ c.in-Store.is _ _ c.get-x-in-Store.ensures c.store.ensures

pub returns-in-Jump : goal.returns-in-Jump
returns-in-Jump c = jumped _ _ _ _ _ _ c.jump.ensures c.in-Jump.is

pub returns-then-is_met : goal.returns-then-is_met
returns-then-is_met c = branched _ _ _ _ _ _ c.jump-then-is_met.ensures _ _ _ c.in-Branch.is
    (rw (← c.get-x-in-Branch.ensures, ← c.get-y-in-Branch.ensures, ← c.is_met.ensures) c.if-is_met.true)

pub returns-else-is_met : goal.returns-else-is_met
returns-else-is_met c = not_branched _ _ _ _ _ c.onward.ensures _ _ _ _ c.in-Branch.is
    (rw (← c.get-x-in-Branch.ensures, ← c.get-y-in-Branch.ensures, ← c.is_met.ensures) c.if-is_met.false)

pub returns-then-is_indirect : goal.returns-then-is_indirect
returns-then-is_indirect c = let tested = c.is_indirect.ensures in
    checked _ _ _ _ _ c.onward-then-is_indirect.ensures _ c.in-Check.is
    (rw (← c.get-x-in-Check.ensures, ← tested) c.if-is_indirect.true)

pub returns-else-is_indirect : goal.returns-else-is_indirect
returns-else-is_indirect c = let tested = c.is_indirect.ensures in
    denied _ _ _ _ _ c.in-Check.is
    (rw (← c.get-x-in-Check.ensures, ← tested) c.if-is_indirect.false)

pub returns-in-Jumpr : goal.returns-in-Jumpr
returns-in-Jumpr c = jumped_via _ _ _ _ _ _ c.in-Jumpr.is
    (rw (← c.get-x-in-Jumpr.ensures) c.jump_via.ensures)
