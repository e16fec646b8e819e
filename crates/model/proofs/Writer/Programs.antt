-- Tables that keep the rules and hold the same module are the same. Assumes nothing.
use Prim.Native.Nat.{ℕ, ◌<◌}
use mathlib.Core.Path.{◌≡◌, refl, sym, ap, ◌∙◌}
use mathlib.Core.Bool.{Bool, true, false}
use mathlib.Core.List.{List, map}
use Rattle.std.specs.Prelude.{unwrap_or}
use native.Mathlib.Omega.{arith}
use borrow.Author.Tests.{eqb-true, eqb-false}
use lib.Dec.{eqb}
use lib.ListN.{length, length-map, get_or, get_or-map}
use lib.Seq.{ext_get_or}
use Rattle.model.specs.declared.Instruction.TheVariants.{Halt}
use Rattle.model.specs.declared.Target.{Target}
use Rattle.model.specs.Program.{Program}
use Rattle.model.specs.File.{InstructionRow, decoded}
use Rattle.model.specs.Writer.{Tables, no_instruction, no_target, instruction_row_at, target_row_at, encoded, target_of, program_from}
use Rattle.model.specs.Promises.{AreTables}
use Rattle.model.proofs.Writer.Rows.{rows_decoded}
use Rattle.model.proofs.Writer.Kept.{TablesKept}

-- lists are the same where what is made of them is, and each two entries of which the same is made are the same
map_injective : {A B : Type 0} (f : A → B) (d : A) (xs ys : List A) → map f xs ≡ map f ys
    → ((i : ℕ) → i < length xs → i < length ys → f (get_or xs i d) ≡ f (get_or ys i d) → get_or xs i d ≡ get_or ys i d) → xs ≡ ys
map_injective f d xs ys same each =
    let as_long : length xs ≡ length ys = sym (length-map xs f) ∙ ap length same ∙ length-map ys f in
    ext_get_or d xs ys as_long
    (λ i below. each i below (omega arith) (sym (get_or-map f xs i d) ∙ ap (λ l. get_or l i (f d)) same ∙ get_or-map f ys i d))

-- a kind is told from whether it is 1
same_kind : (a b : ℕ) → a < 2 → b < 2 → eqb a 1 ≡ eqb b 1 → a ≡ b
same_kind a b few few' same = by_kind (eqb a 1) refl
  where
    by_kind : (is : Bool) → eqb a 1 ≡ is → a ≡ b
    by_kind true is = omega (arith, eqb-true a 1 is, eqb-true b 1 (sym same ∙ is))
    by_kind false is = omega (arith, eqb-false a 1 is, eqb-false b 1 (sym same ∙ is))

module _ (t u : Tables) (are : AreTables t) (are' : AreTables u) (kept : TablesKept t) (kept' : TablesKept u) where
  same_row : (i : ℕ) → i < length t.instructions → i < length u.instructions
      → unwrap_or (decoded (instruction_row_at t i)) Halt ≡ unwrap_or (decoded (instruction_row_at u i)) Halt
      → instruction_row_at t i ≡ instruction_row_at u i
  same_row i below below' same =
      let x = kept.rules.each_instruction i below in
      let y = kept'.rules.each_instruction i below' in
      let instruction : x.0 ≡ y.0 = rw (x.1, y.1) at same in
      sym (rows_decoded.one (instruction_row_at t i) x.0 (are.imm i) x.1)
      ∙ ap encoded instruction
      ∙ rows_decoded.one (instruction_row_at u i) y.0 (are'.imm i) y.1

  same_target : (j : ℕ) → j < length t.targets → j < length u.targets
      → target_of (target_row_at t j) ≡ target_of (target_row_at u j) → target_row_at t j ≡ target_row_at u j
  same_target j below below' same =
      let placed = (kept.rules.each_target j below).placed in
      let placed' = (kept'.rules.each_target j below').placed in
      let kind =
      same_kind (target_row_at t j).kind (target_row_at u j).kind placed.kind placed'.kind (ap (λ (x : Target). x.indirect) same) in
      let zero_byte : (target_row_at t j).zero_byte ≡ (target_row_at u j).zero_byte = placed.zero_byte ∙ sym placed'.zero_byte in
      λ i. record { index = (same i).index; kind = kind i; zero_byte = zero_byte i; claim = (same i).claim }

  pub same_tables : program_from t ≡ program_from u → t ≡ u
  unfolding program_from
  same_tables same =
      let instructions =
      map_injective (λ (x : InstructionRow). unwrap_or (decoded x) Halt) no_instruction t.instructions u.instructions
      (ap (λ (p : Program). p.code) same) same_row in
      let targets =
      map_injective target_of no_target t.targets u.targets (ap (λ (p : Program). p.targets) same) same_target in
      λ i. record { layout = (same i).layout; instructions = instructions i; targets = targets i }
