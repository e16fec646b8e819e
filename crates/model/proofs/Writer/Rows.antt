-- A row that decodes is the row of what it decodes to (`RowsDecoded`), and its op, a, b and w are bytes. By the table's rows: each operand
-- is used, and so stands in the row of the instruction, or is zero. Assumes nothing.
use Prim.Native.Nat.{ℕ, zero, suc, ◌<◌, min}
use mathlib.Core.Path.{◌≡◌, refl, ap, subst, ◌∙◌}
use mathlib.Core.Bool.{Bool}
use Rattle.std.specs.Prelude.{Option, None, Some, option_map}
use native.Mathlib.Omega.{arith}
use borrow.Author.Tests.{ltb-true, ltb-false, eqb-true}
use lib.Dec.{ltb, eqb}
use lib.IntN.{ℤ}
use Rattle.model.specs.declared.Instruction.{Instruction}
use Rattle.model.specs.declared.Instruction.TheVariants.{Halt, Set, Copy, Add, Addi, Sub, Andi, Guard, Shr, Sar, Load, Store, Jump, Branch, Check, Jumpr}
use Rattle.model.specs.declared.LoadWidth.TheVariants.{Unsigned}
use Rattle.model.specs.Words.{modulus, top, wrap, signed}
use Rattle.model.specs.Instructions.{bytes_of}
use Rattle.model.specs.File.{has_a_b_w_imm, width_of, load_width_of, test_of, provided, rows, decode, InstructionRow, decoded}
use Rattle.model.specs.Writer.{instruction_row, load_width_number, test_number, encoded}
use Rattle.model.specs.Promises.{RowsDecoded}
use Rattle.model.proofs.Tests.{by_cond}
use Rattle.model.proofs.Reflection.{Reflects, lt_reflects, eq_reflects, and_reflects}
use Rattle.model.proofs.Claims.Each.{IfThere}
use Rattle.model.proofs.Decoding.{NumberedRows, no_more, ◌then◌, row_at, provided_row}

-- ---- operands that are read, and their numbers

-- the word of a signed reading is the number that was read, if that is a word
wrap-signed : (x : ℕ) → wrap (signed x) ≡ min x top
unfolding wrap signed
wrap-signed x =
    by_cond (λ (z : ℤ). wrap z ≡ min x top) (ltb x 0x8000_0000)
    (λ small. omega (arith, ltb-true x 0x8000_0000 small))
    (λ large. omega (arith, ltb-false x 0x8000_0000 large))

-- of what w is looked up for, if it is there: its number is w, which is a byte
abbrev IsNumber : {A : Type 0} → (A → ℕ) → ℕ → A → Type 0
IsNumber number w v = (number v ≡ w) × (w < 256)

width_numbered : (w : ℕ) → IfThere (IsNumber bytes_of w) (width_of w)
width_numbered zero = tt
width_numbered (suc zero) = (refl, omega arith)
width_numbered (suc (suc zero)) = (refl, omega arith)
width_numbered (suc (suc (suc zero))) = tt
width_numbered (suc (suc (suc (suc zero)))) = (refl, omega arith)
width_numbered (suc (suc (suc (suc (suc w))))) = tt

test_numbered : (w : ℕ) → IfThere (IsNumber test_number w) (test_of w)
test_numbered zero = (refl, omega arith)
test_numbered (suc zero) = (refl, omega arith)
test_numbered (suc (suc zero)) = (refl, omega arith)
test_numbered (suc (suc (suc w))) = tt

-- what holds of it gives what holds of what is made of it
mapped : {A B : Type 0} (P : A → Type 0) (Q : B → Type 0) (f : A → B) (o : Option A) → IfThere P o → ((x : A) → P x → Q (f x))
    → IfThere Q (option_map f o)
mapped P Q f None holds so = tt
mapped P Q f (Some x) holds so = so x holds

load_width_numbered : (w : ℕ) → IfThere (IsNumber load_width_number w) (load_width_of w)
load_width_numbered w =
    by_cond (IfThere (IsNumber load_width_number w)) (eqb w 129) (λ is. omega (arith, eqb-true w 129 is))
    (λ _. by_cond (IfThere (IsNumber load_width_number w)) (eqb w 130) (λ is. omega (arith, eqb-true w 130 is))
    (λ _. mapped (IsNumber bytes_of w) (IsNumber load_width_number w) Unsigned (width_of w) (width_numbered w) (λ v numbered. numbered)))

-- ---- the rows

module _ (a b w imm : ℕ) where
  -- what a row tells of its opcode and operands
  record Tells (op : ℕ) (i : Instruction) : Type 0 where
    op_is : (encoded i).op ≡ op
    a_is : (encoded i).a ≡ a
    b_is : (encoded i).b ≡ b
    w_is : (encoded i).w ≡ w
    imm_is : imm < modulus → (encoded i).imm ≡ imm
    op_byte : op < 256
    a_byte : a < 256
    b_byte : b < 256
    w_byte : w < 256

  row_tells : (op : ℕ) {Q : Type 0} {test : Bool} (row : Option Instruction) → Reflects test Q → (Q → IfThere (Tells op) row)
      → IfThere (Tells op) (provided test row)
  row_tells op {Q} {test} row reflects tells = provided_row (Tells op) test row (λ passes. tells (reflects.0 passes))

  both : Reflects (has_a_b_w_imm a b) ((a < 8) × (b < 8))
  both = and_reflects (lt_reflects a 8) (lt_reflects b 8)

  looked_up_tells : (op : ℕ) {A : Type 0} (number : A → ℕ) (make : A → Instruction) (o : Option A) → IfThere (IsNumber number w) o
      → ((v : A) → (a < 8) × (b < 8) → IsNumber number w v → Tells op (make v))
      → IfThere (Tells op) (provided (has_a_b_w_imm a b) (option_map make o))
  looked_up_tells op number make o numbered tells =
      row_tells op (option_map make o) both
      (λ used. mapped (IsNumber number w) (Tells op) make o numbered (λ v is. tells v used is))

  table_tells : NumberedRows Tells (rows a b w imm)
  unfolding rows encoded
  table_tells =
      let only-imm = and_reflects (and_reflects (eq_reflects a 0) (eq_reflects b 0)) (eq_reflects w 0) in
      let a-imm = and_reflects (and_reflects (lt_reflects a 8) (eq_reflects b 0)) (eq_reflects w 0) in
      let no-imm = eq_reflects imm 0 in
      let only-a = and_reflects a-imm no-imm in
      let a-b = and_reflects (and_reflects both (eq_reflects w 0)) no-imm in
      let a-amount = and_reflects (and_reflects (and_reflects (lt_reflects a 8) (eq_reflects b 0)) (lt_reflects w 32)) no-imm in
      row_tells 0 (Some Halt) (and_reflects only-imm no-imm) (λ used. omega arith)
      then row_tells 1 (Some (Set a imm)) a-imm (λ used. omega arith)
      then row_tells 2 (Some (Copy a b)) a-b (λ used. omega arith)
      then row_tells 3 (Some (Add a b)) a-b (λ used. omega arith)
      then row_tells 4 (Some (Addi a (signed imm))) a-imm (λ used. omega (arith, wrap-signed imm))
      then row_tells 5 (Some (Sub a b)) a-b (λ used. omega arith)
      then row_tells 6 (Some (Andi a imm)) a-imm (λ used. omega arith)
      then row_tells 7 (Some (Guard a)) only-a (λ used. omega arith)
      then row_tells 8 (Some (Shr a w)) a-amount (λ used. omega arith)
      then row_tells 9 (Some (Sar a w)) a-amount (λ used. omega arith)
      then looked_up_tells 10 load_width_number (λ v. Load a b v (signed imm)) (load_width_of w) (load_width_numbered w)
      (λ v used is. omega (arith, wrap-signed imm))
      then looked_up_tells 11 bytes_of (λ v. Store a b v (signed imm)) (width_of w) (width_numbered w)
      (λ v used is. omega (arith, wrap-signed imm))
      then row_tells 12 (Some (Jump imm)) only-imm (λ used. omega arith)
      then looked_up_tells 13 test_number (λ t. Branch a b t imm) (test_of w) (test_numbered w) (λ t used is. omega arith)
      then row_tells 14 (Some (Check a)) only-a (λ used. omega arith)
      then row_tells 15 (Some (Jumpr a)) only-a (λ used. omega arith)
      then no_more

-- ---- what decodes

decode_tells : (op a b w imm : ℕ) (i : Instruction) → decode op a b w imm ≡ Some i → Tells a b w imm op i
unfolding decode
decode_tells op a b w imm i is = subst (IfThere (Tells a b w imm op)) is (row_at (table_tells a b w imm) op)

-- a row that decodes is of bytes, and so one that is not of bytes does not decode
pub decoded_bytes : (op a b w imm : ℕ) (i : Instruction) → decode op a b w imm ≡ Some i
    → (op < 256) × (a < 256) × (b < 256) × (w < 256)
decoded_bytes op a b w imm i is =
    let told = decode_tells op a b w imm i is in (told.op_byte, told.a_byte, told.b_byte, told.w_byte)

pub not_bytes : (op a b w imm : ℕ) → ((op < 256) × (a < 256) × (b < 256) × (w < 256) → ⊥) → decode op a b w imm ≡ None
not_bytes op a b w imm past = by_decoded (decode op a b w imm) refl
  where
    by_decoded : (o : Option Instruction) → decode op a b w imm ≡ o → o ≡ None
    by_decoded None is = refl
    by_decoded (Some i) is = absurd (past (decoded_bytes op a b w imm i is))

-- rows of the same numbers are the same
pub same_row : (x y : InstructionRow) → x.op ≡ y.op → x.a ≡ y.a → x.b ≡ y.b → x.w ≡ y.w → x.imm ≡ y.imm → x ≡ y
same_row x y op a b w imm =
    let same : instruction_row x.op x.a x.b x.w x.imm ≡ instruction_row y.op y.a y.b y.w y.imm = cc in
    same

row_of_decoded : (x : InstructionRow) (i : Instruction) → x.imm < modulus → decoded x ≡ Some i → encoded i ≡ x
row_of_decoded x i word is =
    let told = decode_tells x.op x.a x.b x.w x.imm i is in
    same_row (encoded i) x told.op_is told.a_is told.b_is told.w_is (told.imm_is word)

pub rows_decoded : RowsDecoded
rows_decoded = record {
  one = row_of_decoded;
  back = λ x i word is. ap decoded (row_of_decoded x i word is) ∙ is;
}
