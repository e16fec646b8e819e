-- A module of bytes that keeps rules 5 to 7 but for the order of claims' ends is fit for its claims to be worked out. Assumes nothing.
use Prim.Native.Nat.{ℕ, zero, suc, ◌+◌, ◌<◌}
use mathlib.Core.Path.{◌≡◌, refl, sym, ◌∙◌}
use mathlib.Core.Bool.{Bool}
use mathlib.Core.List.{List}
use Rattle.std.specs.Prelude.{Option, Some}
use native.Mathlib.Omega.{arith}
use borrow.Author.Tests.{eqb-true}
use lib.ListN.{length, get_or}
use lib.Seq.{ext_get_or}
use Rattle.model.specs.declared.Instruction.{Instruction}
use Rattle.model.specs.declared.Instruction.TheVariants.{Halt, Set, Copy, Add, Addi, Sub, Andi, Guard, Shr, Sar, Load, Store, Jump, Branch, Check, Jumpr}
use Rattle.model.specs.declared.Layout.{Layout}
use Rattle.model.specs.declared.LoadWidth.{LoadWidth}
use Rattle.model.specs.declared.Target.{Target}
use Rattle.model.specs.declared.Test.{Test}
use Rattle.model.specs.declared.Width.{Width}
use Rattle.model.specs.Words.{modulus, signed}
use Rattle.model.specs.Ranges.{low, high, unknown}
use Rattle.model.specs.File.{code_start, target_count, width_of, load_width_of, test_of, provided, has_nothing, has_a, has_a_b, has_a_amount, has_imm, has_a_imm, has_a_b_w_imm, rows, tabulate, claim_in, target_in, indirect_claim, program_of, program_in}
use Rattle.model.specs.Rules.{ModulePlaced, FilePlaced}
use Rattle.model.specs.Promises.{AreBytes}
use Rattle.model.proofs.Tabulate.{length-tabulate}
use Rattle.model.proofs.RuleW.{signed_signed32}
use Rattle.model.proofs.Stretches.{value_bytes}
use Rattle.model.proofs.Decoding.{Rows, no_more, ◌then◌, provided_row, mapped_row, code_holds}
use Rattle.model.proofs.Claims.Each.{All, IfThere}
use Rattle.model.proofs.Claims.Bounds.{Operands}
use Rattle.model.proofs.Claims.Ending.{OpenClaim, Fit}

-- ---- operands are of 32 bits

row_operands : (test : Bool) (row : Option Instruction) → IfThere Operands row → IfThere Operands (provided test row)
row_operands test row operands = provided_row Operands test row (λ _. operands)

rows_operands : (a b w imm : ℕ) → imm < modulus → Rows Operands (rows a b w imm)
unfolding rows
rows_operands a b w imm word =
    row_operands (has_nothing a b w imm) (Some Halt) tt
    then row_operands (has_a_imm a b w) (Some (Set a imm)) word
    then row_operands (has_a_b a b w imm) (Some (Copy a b)) tt
    then row_operands (has_a_b a b w imm) (Some (Add a b)) tt
    then row_operands (has_a_imm a b w) (Some (Addi a (signed imm))) (signed_signed32 imm word)
    then row_operands (has_a_b a b w imm) (Some (Sub a b)) tt
    then row_operands (has_a_imm a b w) (Some (Andi a imm)) tt
    then row_operands (has_a a b w imm) (Some (Guard a)) tt
    then row_operands (has_a_amount a b w imm) (Some (Shr a w)) tt
    then row_operands (has_a_amount a b w imm) (Some (Sar a w)) tt
    then row_operands (has_a_b_w_imm a b) _ (mapped_row Operands (λ (v : LoadWidth). Load a b v (signed imm)) (load_width_of w) (λ v. tt))
    then row_operands (has_a_b_w_imm a b) _ (mapped_row Operands (λ (v : Width). Store a b v (signed imm)) (width_of w) (λ v. tt))
    then row_operands (has_imm a b w) (Some (Jump imm)) tt
    then row_operands (has_a_b_w_imm a b) _ (mapped_row Operands (λ (t : Test). Branch a b t imm) (test_of w) (λ t. tt))
    then row_operands (has_a a b w imm) (Some (Check a)) tt
    then row_operands (has_a a b w imm) (Some (Jumpr a)) tt
    then no_more

-- ---- indirect claims

-- one that is anything in each register is the claim that says nothing
pub claim_unknown : (targets : List ℕ) (j : ℕ)
    → ((r : ℕ) → r < 8 → (low (claim_in targets j) r ≡ low indirect_claim r) × (high (claim_in targets j) r ≡ high indirect_claim r))
    → claim_in targets j ≡ unknown
unfolding claim_in
claim_unknown targets j same =
    let lows = eight_are (claim_in targets j).lows unknown.lows (length-tabulate 0 8 _) refl (λ r below. (same r below).0) in
    let highs = eight_are (claim_in targets j).highs unknown.highs (length-tabulate 0 8 _) refl (λ r below. (same r below).1) in
    λ i. record { lows = lows i; highs = highs i }
  where
    eight_are : (xs ys : List ℕ) → length xs ≡ 8 → length ys ≡ 8 → ((r : ℕ) → r < 8 → get_or xs r 0 ≡ get_or ys r 0) → xs ≡ ys
    eight_are xs ys long long' each = ext_get_or 0 xs ys (long ∙ sym long') (λ r below. each r (omega arith))

-- what holds of every target of a table holds of them all
all_from : (P : Target → Type 0) (f : ℕ → Target) (i n : ℕ) → ((j : ℕ) → j < i + n → P (f j)) → All P (tabulate i n f)
unfolding tabulate
all_from P f i zero each = tt
all_from P f i (suc n) each = (each i (omega arith), all_from P f (suc i) n (λ j below. each j (omega arith)))

-- ---- the module

pub module_fit : {l : Layout} {code targets : List ℕ} → AreBytes code → ModulePlaced l code targets → Fit (program_of l code targets)
unfolding program_of target_in
module_fit {l} {code} {targets} bytes placed = record {
  layout = placed.layout;
  operands = code_holds Operands rows_operands tt code bytes l targets;
  open_claims =
      all_from OpenClaim (target_in targets) 0 (target_count targets)
      (λ j below is. claim_unknown targets j ((placed.each_target j (omega arith)).indirect (eqb-true _ _ is)));
}

pub file_fit : (file : List ℕ) → AreBytes file → FilePlaced file → Fit (program_in file)
file_fit file bytes placed = module_fit (value_bytes file code_start 2 bytes) placed.holds
