-- What is known along every edge: eight ranges, none of them empty, of which no highest value exceeds 2^32 − 1.
-- Assumes nothing.
use Prim.Native.Nat.{ℕ, zero, suc, ◌*◌, ◌^◌, ◌≤◌, ◌<◌}
use mathlib.Core.Path.{◌≡◌, refl, sym, ◌∙◌}
use mathlib.Core.Bool.{Bool, true, false, ◌&&◌, ◌||◌}
use mathlib.Core.List.{List, [], ◌∷◌}
use native.Mathlib.Omega.{arith}
use native.Mathlib.Nat.{le_refl, le_trans}
use lib.Dec.{leb, ltb, eqb}
use lib.IntN.{ℤ, pos, negsuc, ◌+ℤ◌, sub_ℕ}
use lib.ListN.{length, get_or, set, replicate, length-set}
use lib.Pow.{shr_le, shr_mono}
use lib.Signed.{shr_z}
use borrow.Author.Tests.{ltb-true, ltb-false}
use Rattle.model.specs.declared.Instruction.{Instruction}
use Rattle.model.specs.declared.Instruction.TheVariants.{Halt, Set, Copy, Add, Addi, Sub, Andi, Guard, Shr, Sar, Load, Store, Jump, Branch, Check, Jumpr}
use Rattle.model.specs.declared.Layout.{Layout}
use Rattle.model.specs.declared.LoadWidth.{LoadWidth}
use Rattle.model.specs.declared.LoadWidth.TheVariants.{Unsigned, SignedOne, SignedTwo}
use Rattle.model.specs.declared.Pair.{Pair}
use Rattle.model.specs.declared.Range.{Range}
use Rattle.model.specs.declared.Ranges.{Ranges}
use Rattle.model.specs.declared.Test.{Test}
use Rattle.model.specs.declared.Test.TheVariants.{Equal, Below, SignedBelow}
use Rattle.model.specs.declared.Width.TheVariants.{One, Two, Four}
use Rattle.model.specs.Words.{modulus, top, signed, arithmetic_shift}
use Rattle.model.specs.Ranges.{low, high, range_of, put, unknown, rule_w, region_range, guard_range, sar_range, common, is_empty, cut, cut_both, cut_for, rule_b}
use Rattle.model.specs.Instructions.{load_range, load_access, Access, Shape, stops, assigns, loads, stores, jumps, branches, checks, jumps_via, shape, rule_n, after_next, after_taken}
use Rattle.model.specs.Rules.{LayoutKept}
use Rattle.model.specs.Safety.{EightWords}
use Rattle.model.proofs.Tests.{by_cond, and_right}
use Rattle.model.proofs.Registers.{words_set}
use Rattle.model.proofs.RuleW.{Signed32, wrap_below}
use Rattle.model.proofs.Values.{Fits, add_fits, addi_fits, sub_fits, guard_fits, sar_fits}
use Rattle.model.proofs.Claims.Sums.{neither}

-- eight ranges, none empty, of which no highest value exceeds a word
pub record Bounded (k : Ranges) : Type 0 where
  pub lows8 : length k.lows ≡ 8
  pub highs8 : length k.highs ≡ 8
  pub ordered : (r : ℕ) → low k r ≤ high k r
  pub small : (r : ℕ) → high k r ≤ top

-- a range of words that is not empty
pub record Proper (x : Range) : Type 0 where
  pub ordered : x.low ≤ x.high
  pub small : x.high ≤ top

-- ---- what keeps it so

ordered_set : (xs ys : List ℕ) (a v w : ℕ) → length xs ≡ length ys → ((i : ℕ) → get_or xs i 0 ≤ get_or ys i 0) → v ≤ w
    → (i : ℕ) → get_or (set xs a v) i 0 ≤ get_or (set ys a w) i 0
ordered_set [] [] a v w same le v≤w i = le i
ordered_set [] (y ∷ ys) a v w same le v≤w i = absurd (omega arith)
ordered_set (x ∷ xs) [] a v w same le v≤w i = absurd (omega arith)
ordered_set (x ∷ xs) (y ∷ ys) zero v w same le v≤w zero = v≤w
ordered_set (x ∷ xs) (y ∷ ys) zero v w same le v≤w (suc i) = le (suc i)
ordered_set (x ∷ xs) (y ∷ ys) (suc a) v w same le v≤w zero = le zero
ordered_set (x ∷ xs) (y ∷ ys) (suc a) v w same le v≤w (suc i) = ordered_set xs ys a v w (omega arith) (λ j. le (suc j)) v≤w i

at_most_replicate : (n c i : ℕ) → get_or (replicate n c) i 0 ≤ c
at_most_replicate zero c i = omega arith
at_most_replicate (suc n) c zero = le_refl c
at_most_replicate (suc n) c (suc i) = at_most_replicate n c i

pub bounded_unknown : Bounded unknown
bounded_unknown = record {
  lows8 = refl;
  highs8 = refl;
  ordered = λ r. omega (arith, at_most_replicate 8 0 r);
  small = at_most_replicate 8 top;
}

module _ {k : Ranges} (b : Bounded k) where
  pub bounded_at : (r : ℕ) → Proper (range_of k r)
  bounded_at r = record { ordered = b.ordered r; small = b.small r }

  bounded_put : (a : ℕ) (x : Range) → Proper x → Bounded (put k a x)
  bounded_put a x proper = record {
    lows8 = simp length-set b.lows8;
    highs8 = simp length-set b.highs8;
    ordered = ordered_set k.lows k.highs a x.low x.high (b.lows8 ∙ sym b.highs8) b.ordered proper.ordered;
    small = λ r. omega (arith, (words_set highest a x.high (omega (arith, proper.small))).small r);
  }
    where
      highest : EightWords k.highs
      highest = record { eight = b.highs8; small = λ r. omega (arith, b.small r) }

-- ---- rules N and B: a cut that would be empty is not made

proper_common : {x : Range} (to : Range) → Proper x → is_empty (common x to) ≡ false → Proper (common x to)
proper_common to proper kept = record { ordered = ltb-false _ _ kept; small = omega (arith, proper.small) }

proper_cut : {x : Range} (to : Range) → Proper x → Proper (cut x to)
unfolding cut
proper_cut {x} to proper = by_cond Proper (is_empty (common x to)) (λ _. proper) (proper_common to proper)

abbrev BothProper : Pair → Type 0
BothProper xs = Proper xs.first × Proper xs.second

proper_cut_both : {x y : Range} (p q : Range) → Proper x → Proper y → BothProper (cut_both x p y q)
unfolding cut_both
proper_cut_both {x} {y} p q proper proper' =
    by_cond BothProper (is_empty (common x p) || is_empty (common y q))
    (λ _. (proper, proper'))
    (λ kept. let n = neither _ _ kept in (proper_common p proper n.0, proper_common q proper' n.1))

proper_cut_for : (test : Test) (taken : Bool) {x y : Range} → Proper x → Proper y → BothProper (cut_for test taken x y)
proper_cut_for Equal true proper proper' = proper_cut_both _ _ proper proper'
proper_cut_for Equal false proper proper' = (proper, proper')
proper_cut_for Below true proper proper' = proper_cut_both _ _ proper proper'
proper_cut_for Below false proper proper' = proper_cut_both _ _ proper proper'
proper_cut_for SignedBelow taken proper proper' = (proper, proper')

module _ {k : Ranges} (b : Bounded k) where
  bounded_rule_n : (region : Range) (ac : Access) → Bounded (rule_n region ac k)
  unfolding rule_n
  bounded_rule_n region ac = bounded_put b ac.pointer _ (proper_cut _ (bounded_at b ac.pointer))

  bounded_rule_b : (test : Test) (taken : Bool) (a c : ℕ) → Bounded (rule_b test taken a c k)
  unfolding rule_b
  bounded_rule_b test taken a c =
      let both = proper_cut_for test taken (bounded_at b a) (bounded_at b c) in
      by_cond Bounded (eqb a c) (λ _. b) (λ _. bounded_put (bounded_put b a _ both.0) c _ both.1)

-- ---- the edges

-- a register's new range is proper, where those before are
abbrev pub Modest : Range → Shape → Type 0
Modest region stops = Unit {0}
Modest region (assigns a value ranged) = (k : Ranges) → Bounded k → Proper (ranged region k)
Modest region (loads a b v imm) = Unit {0}
Modest region (stores a ac) = Unit {0}
Modest region (jumps to) = Unit {0}
Modest region (branches test a b to) = Unit {0}
Modest region (checks a) = Unit {0}
Modest region (jumps_via a) = Unit {0}

load_proper : (v : LoadWidth) → Proper (load_range v)
load_proper (Unsigned One) = omega arith
load_proper (Unsigned Two) = omega arith
load_proper (Unsigned Four) = omega arith
load_proper SignedOne = omega arith
load_proper SignedTwo = omega arith

pub bounded_next : (region : Range) (s : Shape) → Modest region s → {k : Ranges} → Bounded k → Bounded (after_next region s k)
unfolding after_next
bounded_next region stops m b = b
bounded_next region (assigns a value ranged) m {k} b = bounded_put b a (ranged region k) (m k b)
bounded_next region (loads a c v imm) m b = bounded_put (bounded_rule_n b region (load_access c v imm)) a (load_range v) (load_proper v)
bounded_next region (stores a ac) m b = bounded_rule_n b region ac
bounded_next region (jumps to) m b = b
bounded_next region (branches test a c to) m b = bounded_rule_b b test false a c
bounded_next region (checks a) m b = b
bounded_next region (jumps_via a) m b = b

pub bounded_taken : (s : Shape) {k : Ranges} → Bounded k → Bounded (after_taken s k)
unfolding after_taken
bounded_taken stops b = b
bounded_taken (assigns a value ranged) b = b
bounded_taken (loads a c v imm) b = b
bounded_taken (stores a ac) b = b
bounded_taken (jumps to) b = b
bounded_taken (branches test a c to) b = bounded_rule_b b test true a c
bounded_taken (checks a) b = b
bounded_taken (jumps_via a) b = b

-- ---- the instructions

-- a highest sum that rule W brings back by one turn
abbrev OneTurn : ℤ → Type 0
OneTurn (pos n) = n < 2 * modulus
OneTurn (negsuc n) = Unit {0}

rule_w_small : (l h : ℤ) → OneTurn h → (rule_w l h).high ≤ top
unfolding rule_w
rule_w_small (pos l) (pos h) small =
    by_cond (λ (x : Range). x.high ≤ top) (ltb l modulus && ltb h modulus)
    (λ t. omega (arith, ltb-true h modulus (and_right (ltb l modulus) (ltb h modulus) t)))
    (λ _. by_cond (λ (x : Range). x.high ≤ top) (leb modulus l && leb modulus h) (λ _. omega arith) (λ _. omega arith))
rule_w_small (pos l) (negsuc h) small = omega arith
rule_w_small (negsuc l) (pos h) small = omega arith
rule_w_small (negsuc l) (negsuc h) small = omega arith

difference_small : (x y : ℕ) → x ≤ top → OneTurn (sub_ℕ x y)
difference_small x y small = by_cond OneTurn (ltb x y) (λ _. tt) (λ _. omega arith)

sum_small : (x : ℕ) (z : ℤ) → x ≤ top → Signed32 z → OneTurn (pos x +ℤ z)
sum_small x (pos n) small s = omega arith
sum_small x (negsuc n) small s = difference_small x (suc n) small

guard_small : (region x : Range) → region.high ≤ top → x.high ≤ top → (guard_range region x).high ≤ top
unfolding guard_range
guard_small region x inside small =
    by_cond (λ (y : Range). y.high ≤ top) (leb region.low x.low && leb x.high region.high) (λ _. small) (λ _. inside)

sar_small : (x : Range) (w : ℕ) → (sar_range x w).high ≤ top
unfolding sar_range arithmetic_shift
sar_small x w =
    by_cond (λ (y : Range). y.high ≤ top) (ltb x.high 0x8000_0000 || leb 0x8000_0000 x.low) (λ _. shifted_small) (λ _. omega arith)
  where
    shifted_small : arithmetic_shift x.high w ≤ top
    shifted_small = omega (arith, wrap_below (shr_z (signed x.high) (2 ^ w)))

-- a range that a value fits is not empty
fitted : {x : Range} {v : ℕ} → Fits x v → x.high ≤ top → Proper x
fitted f small = record { ordered = omega (arith, f.inside.0, f.inside.1); small = small }

-- the lowest value fits
lowest_fits : {x : Range} → Proper x → Fits x x.low
lowest_fits {x} proper = record { inside = (le_refl x.low, proper.ordered); word = omega (arith, proper.ordered, proper.small) }

-- the operands are of 32 bits
abbrev pub Operands : Instruction → Type 0
Operands Halt = Unit {0}
Operands (Set a imm) = imm < modulus
Operands (Copy a b) = Unit {0}
Operands (Add a b) = Unit {0}
Operands (Addi a imm) = Signed32 imm
Operands (Sub a b) = Unit {0}
Operands (Andi a imm) = Unit {0}
Operands (Guard a) = Unit {0}
Operands (Shr a w) = Unit {0}
Operands (Sar a w) = Unit {0}
Operands (Load a b v imm) = Unit {0}
Operands (Store a b w imm) = Unit {0}
Operands (Jump to) = Unit {0}
Operands (Branch a b test to) = Unit {0}
Operands (Check a) = Unit {0}
Operands (Jumpr a) = Unit {0}

pub modest : (l : Layout) → LayoutKept l → (x : Instruction) → Operands x → Modest (region_range l) (shape x)
unfolding shape
modest l lk Halt o = tt
modest l lk (Set a imm) o = λ k b. record { ordered = le_refl imm; small = omega arith }
modest l lk (Copy a c) o = λ k b. bounded_at b c
modest l lk (Add a c) o = λ k b.
    fitted (add_fits (lowest_fits (bounded_at b a)) (lowest_fits (bounded_at b c))) (rule_w_small _ _ (omega (arith, b.small a, b.small c)))
modest l lk (Addi a imm) o = λ k b.
    fitted (addi_fits imm o (lowest_fits (bounded_at b a))) (rule_w_small _ _ (sum_small _ imm (b.small a) o))
modest l lk (Sub a c) o = λ k b.
    fitted (sub_fits (lowest_fits (bounded_at b a)) (lowest_fits (bounded_at b c))) (rule_w_small _ _ (difference_small _ _ (b.small a)))
modest l lk (Andi a imm) o = λ k b. record { ordered = omega arith; small = omega (arith, b.small a) }
modest l lk (Guard a) o = λ k b.
    fitted (guard_fits lk (lowest_fits (bounded_at b a)))
    (guard_small (region_range l) (range_of k a) (omega (arith, lk.above)) (b.small a))
modest l lk (Shr a w) o = λ k b.
    record { ordered = shr_mono w (b.ordered a); small = le_trans (shr_le (high k a) w) (b.small a) }
modest l lk (Sar a w) o = λ k b. fitted (sar_fits w (lowest_fits (bounded_at b a))) (sar_small (range_of k a) w)
modest l lk (Load a c v imm) o = tt
modest l lk (Store a c w imm) o = tt
modest l lk (Jump to) o = tt
modest l lk (Branch a c test to) o = tt
modest l lk (Check a) o = tt
modest l lk (Jumpr a) o = tt
