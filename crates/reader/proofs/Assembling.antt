-- What is assembled of an opcode's row: where the row has an instruction, its operands are within their ranges, so that what is read of
-- their low bits is what they are. Assumes nothing.
use Prim.Native.Nat.{ℕ, ◌+◌, ◌*◌, ◌%◌}
use mathlib.Core.Bool.{Bool, true, false, ◌&&◌}
use mathlib.Core.List.{List}
use Rattle.std.specs.Prelude.{Option, None, Some, option_map, unwrap_or}
use Rattle.std.proofs.lemmas.Option.{none-some, same_Some}
use mathlib.Core.Path.{◌≡◌, refl, ap, ◌∙◌}
use native.Mathlib.Decide.{ℕ_discrete}
use native.Mathlib.Nat.{mod-eq_of_lt}
use native.Mathlib.Omega.{arith}
use borrow.Author.Tests.{ltb-true}
use lib.ListN.{get_or}
use Rattle.model.specs.declared.Instruction.{Instruction}
use Rattle.model.specs.declared.Instruction.TheVariants.{Jumpr}
use Rattle.model.specs.File.{is_register, is_amount, is_unused, has_a, has_a_b, has_a_amount, has_a_imm, has_a_b_w_imm, provided, rows, decode}
use Rattle.model.specs.Words.{read_bytes}
use Rattle.model.proofs.Tests.{and_left, and_right}
use Rattle.words.proofs.LittleEndian.{four_bytes}
use Rattle.reader.proofs.Rows.{NoneBelow, no_instruction_lem}

-- a row that has an instruction has y, if y is what the row makes of operands that are as they should be
pub row_is : (good : Bool) {x y i : Instruction} → (good ≡ true → y ≡ x) → provided good (Some x) ≡ Some i → y ≡ i
row_is true {x} {y} {i} same e = same refl ∙ same_Some x i e
row_is false {x} {y} {i} same e = absurd (none-some i e)

-- and so of what is made of something looked up
pub mapped_some : {A B : Type 0} (f : A → B) (o : Option A) {y i : B}
    → ((v : A) → o ≡ Some v → y ≡ f v) → option_map f o ≡ Some i → y ≡ i
mapped_some f (Some v) {y} {i} same e = same v refl ∙ same_Some (f v) i e
mapped_some f None {y} {i} same e = absurd (none-some i e)

mapped_is : {A : Type 0} (good : Bool) (f : A → Instruction) (o : Option A) {y i : Instruction}
    → (good ≡ true → (v : A) → o ≡ Some v → y ≡ f v) → provided good (option_map f o) ≡ Some i → y ≡ i
mapped_is true f o same e = mapped_some f o (same refl) e
mapped_is false f o {y} {i} same e = absurd (none-some i e)

low_bits : (r : ℕ) → is_register r ≡ true → r % 8 ≡ r
low_bits r small = mod-eq_of_lt (ltb-true r 8 small)

module _ (a b w imm : ℕ) where
  a_read : has_a_imm a b w ≡ true → a % 8 ≡ a
  a_read good = low_bits a (and_left (is_register a) (is_unused b) (and_left (is_register a && is_unused b) (is_unused w) good))

  two_read : has_a_b_w_imm a b ≡ true → (a % 8 ≡ a) × (b % 8 ≡ b)
  two_read good =
      (low_bits a (and_left (is_register a) (is_register b) good), low_bits b (and_right (is_register a) (is_register b) good))

  amount_read : has_a_amount a b w imm ≡ true → (a % 8 ≡ a) × (w % 32 ≡ w)
  amount_read good =
      let ranged = and_left (is_register a && is_unused b && is_amount w) (is_unused imm) good in
      let first = and_left (is_register a && is_unused b) (is_amount w) ranged in (
        low_bits a (and_left (is_register a) (is_unused b) first),
        mod-eq_of_lt (ltb-true w 32 (and_right (is_register a && is_unused b) (is_amount w) ranged)),
      )

  pub a_imm_row : {i : Instruction} (f : ℕ → Instruction) → provided (has_a_imm a b w) (Some (f a)) ≡ Some i → f (a % 8) ≡ i
  a_imm_row f = row_is (has_a_imm a b w) (λ good. ap f (a_read good))

  pub a_row : {i : Instruction} (f : ℕ → Instruction) → provided (has_a a b w imm) (Some (f a)) ≡ Some i → f (a % 8) ≡ i
  a_row f = row_is (has_a a b w imm) (λ good. ap f (a_read (and_left (has_a_imm a b w) (is_unused imm) good)))

  pub a_b_row : {i : Instruction} (f : ℕ → ℕ → Instruction) → provided (has_a_b a b w imm) (Some (f a b)) ≡ Some i → f (a % 8) (b % 8) ≡ i
  a_b_row f =
      row_is (has_a_b a b w imm)
      (λ good.
      let both = two_read (and_left (has_a_b_w_imm a b) (is_unused w) (and_left (has_a_b_w_imm a b && is_unused w) (is_unused imm) good)) in
      cc (both.0, both.1))

  pub amount_row : {i : Instruction} (f : ℕ → ℕ → Instruction) → provided (has_a_amount a b w imm) (Some (f a w)) ≡ Some i → f (a % 8) (w % 32) ≡ i
  amount_row f = row_is (has_a_amount a b w imm) (λ good. cc ((amount_read good).0, (amount_read good).1))

  pub looked_up_row : {A : Type 0} {i : Instruction} (f : ℕ → ℕ → A → Instruction) (o : Option A) {d : A} → ((v : A) → o ≡ Some v → d ≡ v)
      → provided (has_a_b_w_imm a b) (option_map (f a b) o) ≡ Some i → f (a % 8) (b % 8) d ≡ i
  looked_up_row f o is =
      mapped_is (has_a_b_w_imm a b) (f a b) o (λ good v e. cc ((two_read good).0, (two_read good).1, is v e))

  -- the last arm: opcode 15, or none
  pub last_row : (op : ℕ) (i : Instruction) → NoneBelow 15 op → decode op a b w imm ≡ Some i → Jumpr (a % 8) ≡ i
  unfolding decode rows
  last_row op i others e = by_opcode (ℕ_discrete op 15)
    where
      by_opcode : Dec (op ≡ 15) → Jumpr (a % 8) ≡ i
      by_opcode (yes same) = a_row Jumpr (rw same at e)
      by_opcode (no other) = absurd (none-some i (no_instruction_lem op a b w imm (others, other) ∙ e))

-- what is looked up, or another where there is nothing
pub or_other : {A : Type 0} {o found : Option A} (other : A) {d : A} → found ≡ o → d ≡ unwrap_or found other → (v : A) → o ≡ Some v → d ≡ v
or_other other is made v there = made ∙ rw (is, there)

-- the immediate, byte by byte
pub immediate_read : (code : List ℕ) (at imm : ℕ)
    → imm ≡ get_or code (at + 4) 0 + 256 * get_or code (at + 5) 0 + 65536 * get_or code (at + 6) 0 + 16777216 * get_or code (at + 7) 0
    → imm ≡ read_bytes 4 code (at + 4)
immediate_read code at imm made =
    let second : at + 5 ≡ at + 4 + 1 = omega arith in
    let third : at + 6 ≡ at + 4 + 2 = omega arith in
    let fourth : at + 7 ≡ at + 4 + 3 = omega arith in
    four_bytes code (at + 4) _ _ refl refl _ _ imm refl refl (rw (second, third, fourth) at made)
