-- Rule W against wrapping: what lies between two exact ends lies, wrapped, in the range that rule W makes of them.
-- Assumes nothing.
use Prim.Native.Nat.{ℕ, zero, suc, ◌+◌, ◌-◌, ◌*◌, ◌%◌, ◌≤◌, ◌<◌}
use mathlib.Core.Path.{◌≡◌}
use mathlib.Core.Bool.{cond, ◌&&◌}
use native.Mathlib.Omega.{arith}
use lib.Dec.{T, leb, ltb, leb→le, le→leb}
use lib.IntN.{ℤ, pos, negsuc, ◌+ℤ◌, ◌-ℤ◌, sub_ℕ}
use lib.Signed.{mag, le_z}
use borrow.Author.Tests.{ltb-true, ltb-false, leb-true}
use Rattle.model.specs.declared.Range.{Range}
use Rattle.model.specs.Words.{modulus, wrap, signed}
use Rattle.model.specs.Ranges.{range, anything, rule_w}
use Rattle.model.proofs.Tests.{by_cond, and_left, and_right}
use Rattle.model.proofs.Registers.{In}

-- what is wrapped is a word
pub wrap_below : (z : ℤ) → wrap z < modulus
unfolding wrap
wrap_below (pos n) = omega arith
wrap_below (negsuc n) = omega arith

-- ---- whole numbers, raised by 2^32 so that they compare as natural numbers

-- a whole number from -2^32 up, which a raise makes a natural number
abbrev pub Raisable : ℤ → Type 0
Raisable (pos n) = Unit {0}
Raisable (negsuc n) = n < modulus

-- that natural number
abbrev pub raised : ℤ → ℕ
raised (pos n) = modulus + n
raised (negsuc n) = modulus - suc n

-- it keeps the order
pub raised_mono : (a b : ℤ) → T (le_z a b) → raised a ≤ raised b
raised_mono (pos a) (pos b) t = omega (arith, leb→le a b t)
raised_mono (pos a) (negsuc b) t = absurd t
raised_mono (negsuc a) (pos b) t = omega arith
raised_mono (negsuc a) (negsuc b) t = omega (arith, leb→le b a t)

-- and tells it, of numbers from above -2^32
pub raised_tells : (a b : ℤ) → 0 < raised b → raised a ≤ raised b → T (le_z a b)
raised_tells (pos a) (pos b) some h = le→leb a b (omega arith)
raised_tells (pos a) (negsuc b) some h = absurd (omega arith)
raised_tells (negsuc a) (pos b) some h = tt
raised_tells (negsuc a) (negsuc b) some h = le→leb b a (omega arith)

-- a difference, raised
pub raised_difference : (a b : ℕ) → raised (sub_ℕ a b) ≡ modulus + a - b
raised_difference a b =
    by_cond (λ (z : ℤ). raised z ≡ modulus + a - b) (ltb a b)
    (λ t. omega (arith, ltb-true a b t)) (λ f. omega (arith, ltb-false a b f))

difference_raisable : (a b : ℕ) → b ≤ modulus → Raisable (sub_ℕ a b)
difference_raisable a b h = by_cond Raisable (ltb a b) (λ t. omega (arith, ltb-true a b t)) (λ f. tt)

-- a sum, raised, is the sum with the raised number: the natural number stands before it
pub raised_before : (x : ℕ) (z : ℤ) → Raisable z → raised (pos x +ℤ z) ≡ x + raised z
raised_before x (pos n) h = omega arith
raised_before x (negsuc n) h = omega (arith, raised_difference x (suc n))

-- or after it
pub raised_after : (z : ℤ) (x : ℕ) → Raisable z → raised (z +ℤ pos x) ≡ raised z + x
raised_after (pos n) x h = omega arith
raised_after (negsuc n) x h = omega (arith, raised_difference x (suc n))

-- and the sum is raisable too
pub sum_raisable : (x : ℕ) (z : ℤ) → Raisable z → Raisable (pos x +ℤ z)
sum_raisable x (pos n) h = tt
sum_raisable x (negsuc n) h = difference_raisable x (suc n) h

-- ---- signed numbers of 32 bits

-- from -2^31 to 2^31 - 1
abbrev pub Signed32 : ℤ → Type 0
Signed32 z = mag z < 0x8000_0000

-- such a number is raisable
pub signed32_raisable : (z : ℤ) → Signed32 z → Raisable z
signed32_raisable (pos n) h = tt
signed32_raisable (negsuc n) h = omega arith

-- and, raised, lies as near 2^32
pub signed32_raised : (z : ℤ) → Signed32 z → (0x8000_0000 ≤ raised z) × (raised z < modulus + 0x8000_0000)
signed32_raised (pos n) h = omega arith
signed32_raised (negsuc n) h = omega arith

-- a word's signed reading is such a number
pub signed_signed32 : (x : ℕ) → x < modulus → Signed32 (signed x)
unfolding signed
signed_signed32 x h =
    by_cond Signed32 (ltb x 0x8000_0000) (λ t. ltb-true x 0x8000_0000 t) (λ f. omega (arith, ltb-false x 0x8000_0000 f))

-- a number from -2^31 up less such a one, raised
pub raised_less : (x z : ℤ) → modulus ≤ raised x + 0x8000_0000 → Signed32 z → raised (x -ℤ z) + raised z ≡ modulus + raised x
raised_less (pos a) (pos zero) least s = omega arith
raised_less (pos a) (pos (suc n)) least s = omega (arith, raised_difference a (suc n))
raised_less (pos a) (negsuc n) least s = omega arith
raised_less (negsuc a) (pos zero) least s = omega (arith, raised_difference 0 (suc a))
raised_less (negsuc a) (pos (suc n)) least s = omega arith
raised_less (negsuc a) (negsuc n) least s = omega (arith, raised_difference (suc n) (suc a))

-- ---- rule W

rule_w_natural : (l x h : ℕ) → l ≤ x → x ≤ h → x < 2 * modulus → In (rule_w (pos l) (pos h)) (wrap (pos x))
unfolding rule_w wrap
rule_w_natural l x h above below small =
    by_cond (λ (r : Range). In r (x % modulus)) (ltb l modulus && ltb h modulus)
    (λ t. omega (arith, ltb-true h modulus (and_right (ltb l modulus) (ltb h modulus) t)))
    (λ _. past_the_top)
  where
    past_the_top : In (cond (leb modulus l && leb modulus h) (range (l - modulus) (h - modulus)) anything) (x % modulus)
    past_the_top =
        by_cond (λ (r : Range). In r (x % modulus)) (leb modulus l && leb modulus h)
        (λ t. omega (arith, leb-true modulus l (and_left (leb modulus l) (leb modulus h) t)))
        (λ _. omega arith)

-- a whole number from -2^32 to below 2^33 between two ends
rule_w_between : (l x h : ℤ) → Raisable x → raised l ≤ raised x → raised x ≤ raised h → raised x < 3 * modulus
    → In (rule_w l h) (wrap x)
unfolding rule_w wrap
rule_w_between (pos l) (pos x) (pos h) ok above below small = rule_w_natural l x h (omega arith) (omega arith) (omega arith)
rule_w_between (pos l) (pos x) (negsuc h) ok above below small = omega arith
rule_w_between (pos l) (negsuc x) (pos h) ok above below small = absurd (omega arith)
rule_w_between (pos l) (negsuc x) (negsuc h) ok above below small = omega arith
rule_w_between (negsuc l) (pos x) (pos h) ok above below small = omega arith
rule_w_between (negsuc l) (pos x) (negsuc h) ok above below small = absurd (omega arith)
rule_w_between (negsuc l) (negsuc x) (pos h) ok above below small = omega arith
rule_w_between (negsuc l) (negsuc x) (negsuc h) ok above below small = omega arith

module _ (p : Range) (x : ℕ) (i : In p x) (x-word : x < modulus) where
  -- a word and a signed number
  pub rule_w_addi : (imm : ℤ) → Signed32 imm → In (rule_w (pos p.low +ℤ imm) (pos p.high +ℤ imm)) (wrap (pos x +ℤ imm))
  rule_w_addi imm s =
      let ok : Raisable imm = signed32_raisable imm s in
      let sum : raised (pos x +ℤ imm) ≡ x + raised imm = raised_before x imm ok in
      rule_w_between (pos p.low +ℤ imm) (pos x +ℤ imm) (pos p.high +ℤ imm) (sum_raisable x imm ok)
      (omega (arith, raised_before p.low imm ok))
      (omega (arith, raised_before p.high imm ok))
      (omega (arith, signed32_raised imm s))

  module _ (q : Range) (y : ℕ) (j : In q y) (y-word : y < modulus) where
    -- two words, added
    pub rule_w_add : In (rule_w (pos p.low +ℤ pos q.low) (pos p.high +ℤ pos q.high)) (wrap (pos x +ℤ pos y))
    rule_w_add =
        rule_w_natural (p.low + q.low) (x + y) (p.high + q.high)
        (omega (arith, i.0, j.0)) (omega (arith, i.1, j.1)) (omega arith)

    -- two words, subtracted
    pub rule_w_sub : In (rule_w (sub_ℕ p.low q.high) (sub_ℕ p.high q.low)) (wrap (sub_ℕ x y))
    rule_w_sub =
        let difference : raised (sub_ℕ x y) ≡ modulus + x - y = raised_difference x y in
        rule_w_between (sub_ℕ p.low q.high) (sub_ℕ x y) (sub_ℕ p.high q.low)
        (difference_raisable x y (omega arith))
        (omega (arith, raised_difference p.low q.high))
        (omega (arith, raised_difference p.high q.low))
        (omega arith)
