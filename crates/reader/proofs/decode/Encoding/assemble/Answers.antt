-- `reader::decode::Encoding::assemble` meets its contract: each opcode named is the index of its row, and any other stands past the rows.
-- Assumes nothing.
use native.Mathlib.Omega.{arith}
use Rattle.std.proofs.Common.{rules}
use mathlib.Core.Path.{refl}
use Rattle.model.specs.declared.Instruction.TheVariants.{Set, Copy, Add, Addi, Sub, Andi, Guard, Shr, Sar, Load, Store, Branch, Check}
use Rattle.model.specs.File.{has_nothing, has_imm, width_of, load_width_of, test_of, rows, decode}
use Rattle.model.specs.Words.{signed}
use Rattle.words.proofs.Signed.{kept_signed}
use Rattle.reader.proofs.Assembling.{row_is, a_imm_row, a_row, a_b_row, amount_row, looked_up_row, or_other, last_row}
use Rattle.reader.proofs.decode.Encoding.assemble.Goals as goal

pub returns-in-0 : goal.returns-in-0
unfolding decode rows
returns-in-0 c = let x = c.args.self in rw c.in-0.is (λ i. row_is (has_nothing x.a x.b x.w x.imm) (λ good. refl))

pub returns-in-1 : goal.returns-in-1
unfolding decode rows
returns-in-1 c = let x = c.args.self in rw c.in-1.is (λ i. a_imm_row x.a x.b x.w x.imm (λ r. Set r x.imm))

pub returns-in-2 : goal.returns-in-2
unfolding decode rows
returns-in-2 c = let x = c.args.self in rw c.in-2.is (λ i. a_b_row x.a x.b x.w x.imm Copy)

pub returns-in-3 : goal.returns-in-3
unfolding decode rows
returns-in-3 c = let x = c.args.self in rw c.in-3.is (λ i. a_b_row x.a x.b x.w x.imm Add)

pub returns-in-4 : goal.returns-in-4
unfolding decode rows
returns-in-4 c =
    let x = c.args.self in
    rw (c.in-4.is, kept_signed x.imm _ (search rules) c.to_signed.ensures)
    (λ i. a_imm_row x.a x.b x.w x.imm (λ r. Addi r (signed x.imm)))

pub returns-in-5 : goal.returns-in-5
unfolding decode rows
returns-in-5 c = let x = c.args.self in rw c.in-5.is (λ i. a_b_row x.a x.b x.w x.imm Sub)

pub returns-in-6 : goal.returns-in-6
unfolding decode rows
returns-in-6 c = let x = c.args.self in rw c.in-6.is (λ i. a_imm_row x.a x.b x.w x.imm (λ r. Andi r x.imm))

pub returns-in-7 : goal.returns-in-7
unfolding decode rows
returns-in-7 c = let x = c.args.self in rw c.in-7.is (λ i. a_row x.a x.b x.w x.imm Guard)

pub returns-in-8 : goal.returns-in-8
unfolding decode rows
returns-in-8 c = let x = c.args.self in rw c.in-8.is (λ i. amount_row x.a x.b x.w x.imm Shr)

pub returns-in-9 : goal.returns-in-9
unfolding decode rows
returns-in-9 c = let x = c.args.self in rw c.in-9.is (λ i. amount_row x.a x.b x.w x.imm Sar)

pub returns-in-10 : goal.returns-in-10
unfolding decode rows
returns-in-10 c =
    let x = c.args.self in
    rw (c.in-10.is, kept_signed x.imm _ (search rules) c.to_signed-in-10.ensures)
    (λ i. looked_up_row x.a x.b x.w x.imm (λ r s v. Load r s v (signed x.imm)) (load_width_of x.w) (or_other _ c.load_width_of.ensures c.unwrap_or.ensures))

pub returns-in-11 : goal.returns-in-11
unfolding decode rows
returns-in-11 c =
    let x = c.args.self in
    rw (c.in-11.is, kept_signed x.imm _ (search rules) c.to_signed-in-11.ensures)
    (λ i. looked_up_row x.a x.b x.w x.imm (λ r s v. Store r s v (signed x.imm)) (width_of x.w) (or_other _ c.width_of.ensures c.unwrap_or-in-11.ensures))

pub returns-in-12 : goal.returns-in-12
unfolding decode rows
returns-in-12 c = let x = c.args.self in rw c.in-12.is (λ i. row_is (has_imm x.a x.b x.w) (λ good. refl))

pub returns-in-13 : goal.returns-in-13
unfolding decode rows
returns-in-13 c =
    let x = c.args.self in
    rw c.in-13.is
    (λ i. looked_up_row x.a x.b x.w x.imm (λ r s t. Branch r s t x.imm) (test_of x.w) (or_other _ c.test_of.ensures c.unwrap_or-in-13.ensures))

pub returns-in-14 : goal.returns-in-14
unfolding decode rows
returns-in-14 c = let x = c.args.self in rw c.in-14.is (λ i. a_row x.a x.b x.w x.imm Check)

pub returns-in_default : goal.returns-in_default
returns-in_default c = let x = c.args.self in λ i e. last_row x.a x.b x.w x.imm x.op i (((((((((((((((tt, omega arith), omega arith), omega arith), omega arith), omega arith), omega arith), omega arith), omega arith), omega arith), omega arith), omega arith), omega arith), omega arith), omega arith), omega arith) e
