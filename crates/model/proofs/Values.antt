-- The table's two columns agree: the new value of a register lies in its new range, and is a word. Assumes nothing.
use Prim.Native.Nat.{ℕ, zero, suc, ◌+◌, ◌-◌, ◌*◌, ◌/◌, ◌%◌, ◌^◌, ◌≤◌, ◌<◌, min}
use mathlib.Core.Path.{◌≡◌, sym, ap, ◌∙◌, subst}
use mathlib.Core.Bool.{Bool, true, ◌&&◌, ◌||◌}
use mathlib.Core.Logic.{◌⊎◌, inl, inr}
use mathlib.Core.List.{List}
use native.Mathlib.Omega.{arith}
use native.Mathlib.Nat.{le_refl, lt_of_lt_of_le, mod-lt, mod-eq_of_lt, mul-add-mod_self_right}
use lib.Dec.{leb, ltb}
use lib.IntN.{ℤ, pos, ◌+ℤ◌, sub_ℕ}
use lib.Pow.{shr_mono, shr_le, pow_pos, pow_mono, le_ones}
use borrow.Author.Tests.{lt-ltb, le-ltb, ltb-true, leb-true}
use Rattle.model.specs.declared.Layout.{Layout}
use Rattle.model.specs.declared.LoadWidth.{LoadWidth}
use Rattle.model.specs.declared.LoadWidth.TheVariants.{Unsigned, SignedOne, SignedTwo}
use Rattle.model.specs.declared.Range.{Range}
use Rattle.model.specs.declared.Ranges.{Ranges}
use Rattle.model.specs.declared.Width.{Width}
use Rattle.model.specs.declared.Width.TheVariants.{One, Two, Four}
use Rattle.model.specs.Words.{modulus, wrap, signed, signed_from, arithmetic_shift, bitwise_and}
use Rattle.model.specs.Ranges.{range, anything, range_of, rule_w, region_range, guard_range, shr_range, sar_range}
use Rattle.model.specs.Instructions.{bytes_of, width_read, carried, load_range, reg, guarded}
use Rattle.model.specs.Rules.{LayoutKept}
use Rattle.model.specs.Safety.{EightWords}
use Rattle.model.specs.Accuracy.{Within}
use Rattle.model.proofs.Tests.{by_cond, and_left, and_right, or_cases}
use Rattle.model.proofs.Registers.{In}
use Rattle.model.proofs.RuleW.{Signed32, wrap_below, rule_w_add, rule_w_addi, rule_w_sub}

-- a word that lies in a range
pub record Fits (p : Range) (x : ℕ) : Type 0 where
  pub inside : In p x
  pub word : x < modulus

-- a register's value fits its range
pub register_fits : {k : Ranges} {rs : List ℕ} → Within k rs → EightWords rs → (a : ℕ) → a < 8 → Fits (range_of k a) (reg rs a)
register_fits w ws a a8 = record { inside = (w.low a a8, w.high a a8); word = ws.small a }

-- set: a constant fits the range of itself alone
pub constant_fits : (imm : ℕ) → imm < modulus → Fits (range imm imm) imm
constant_fits imm h = record { inside = (le_refl imm, le_refl imm); word = h }

-- ---- add, addi, sub

-- the wrapped sum of two words fits what rule W makes of their ranges
pub add_fits : {p q : Range} {x y : ℕ} → Fits p x → Fits q y
    → Fits (rule_w (pos p.low +ℤ pos q.low) (pos p.high +ℤ pos q.high)) (wrap (pos x +ℤ pos y))
add_fits {p} {q} {x} {y} f g = record {
  inside = rule_w_add p x f.inside f.word q y g.inside g.word;
  word = wrap_below (pos x +ℤ pos y);
}

-- the wrapped sum of a word and a signed number
pub addi_fits : {p : Range} {x : ℕ} (imm : ℤ) → Signed32 imm → Fits p x
    → Fits (rule_w (pos p.low +ℤ imm) (pos p.high +ℤ imm)) (wrap (pos x +ℤ imm))
addi_fits {p} {x} imm s f = record {
  inside = rule_w_addi p x f.inside f.word imm s;
  word = wrap_below (pos x +ℤ imm);
}

-- the wrapped difference of two words
pub sub_fits : {p q : Range} {x y : ℕ} → Fits p x → Fits q y
    → Fits (rule_w (sub_ℕ p.low q.high) (sub_ℕ p.high q.low)) (wrap (sub_ℕ x y))
sub_fits {p} {q} {x} {y} f g = record {
  inside = rule_w_sub p x f.inside f.word q y g.inside g.word;
  word = wrap_below (sub_ℕ x y);
}

-- ---- andi

bitwise_and_at_most : (n x y : ℕ) → (bitwise_and n x y ≤ x) × (bitwise_and n x y ≤ y)
unfolding bitwise_and
bitwise_and_at_most zero x y = omega arith
bitwise_and_at_most (suc n) x y = omega (arith, bitwise_and_at_most n (x / 2) (y / 2))

-- a bitwise and is at most either
pub and_fits : {p : Range} {x : ℕ} (imm : ℕ) → Fits p x → Fits (range 0 (min p.high imm)) (bitwise_and 32 x imm)
and_fits {p} {x} imm f =
    let at_most = bitwise_and_at_most 32 x imm in
    record { inside = omega (arith, at_most.0, at_most.1); word = omega (arith, at_most.0) }

-- ---- guard

-- a region has a byte
pub some_size : {l : Layout} → LayoutKept l → 0 < l.size
some_size lk = rw lk.power.3 (pow_pos lk.power.0)

-- the least and the greatest size
pub least_size : {l : Layout} → LayoutKept l → 256 ≤ l.size
least_size lk = rw lk.power.3 (pow_mono lk.power.1)

pub most_size : {l : Layout} → LayoutKept l → l.size ≤ 65536
most_size lk = rw lk.power.3 (pow_mono lk.power.2)

module _ {l : Layout} (lk : LayoutKept l) {p : Range} {x : ℕ} (f : Fits p x) where
  -- an address of the region stays as it is
  guarded_inside : l.base ≤ p.low → p.high ≤ l.base + l.size - 1 → guarded l x ≡ x
  unfolding guarded
  guarded_inside above below = omega (arith, remainder)
    where
      from_base : x ≡ lk.aligned.0 * l.size + (x - l.base)
      from_base = omega (arith, lk.aligned.1, f.inside.0)

      remainder : x % l.size ≡ x - l.base
      remainder =
          ap (λ (n : ℕ). n % l.size) from_base
          ∙ mul-add-mod_self_right lk.aligned.0 l.size (x - l.base)
          ∙ mod-eq_of_lt (omega (arith, some_size lk, f.inside.1))

  guarded_in : In (guard_range (region_range l) p) (guarded l x)
  unfolding guard_range guarded
  guarded_in =
      by_cond (λ (r : Range). In r (guarded l x)) (from_base && to_last) unchanged
      (λ _. omega (arith, mod-lt x (some_size lk)))
    where
      from_base : Bool
      from_base = leb l.base p.low

      to_last : Bool
      to_last = leb p.high (l.base + l.size - 1)

      same : from_base && to_last ≡ true → guarded l x ≡ x
      same t = guarded_inside (leb-true _ _ (and_left from_base to_last t)) (leb-true _ _ (and_right from_base to_last t))

      unchanged : from_base && to_last ≡ true → In p (guarded l x)
      unchanged t = subst (λ (v : ℕ). In p v) (sym (same t)) f.inside

  -- a guarded word fits its range where that lies in the region, and the region else
  pub guard_fits : Fits (guard_range (region_range l) p) (guarded l x)
  unfolding guarded
  guard_fits = record { inside = guarded_in; word = omega (arith, mod-lt x (some_size lk), lk.above) }

-- ---- shr and sar

-- a shift fits the shifted range
pub shr_fits : {p : Range} {x : ℕ} (w : ℕ) → Fits p x → Fits (shr_range p w) (x / 2 ^ w)
shr_fits {p} {x} w f = record {
  inside = (shr_mono w f.inside.0, shr_mono w f.inside.1);
  word = omega (arith, shr_le x w, f.word);
}

shift_below : (x w : ℕ) → arithmetic_shift x w < modulus
unfolding arithmetic_shift
shift_below x w = wrap_below _

-- an arithmetic shift rises with its word on each side of 2^31
shift_low : (x w : ℕ) → x < 0x8000_0000 → arithmetic_shift x w ≡ x / 2 ^ w
unfolding arithmetic_shift signed wrap
shift_low x w h = rw (lt-ltb x 0x8000_0000 h) (mod-eq_of_lt (omega (arith, shr_le x w)))

shift_high : (x w : ℕ) → 0x8000_0000 ≤ x → arithmetic_shift x w ≡ modulus - suc ((modulus - suc x) / 2 ^ w)
unfolding arithmetic_shift signed wrap
shift_high x w h =
    rw (le-ltb x 0x8000_0000 h)
    (ap (λ (n : ℕ). modulus - suc n) shifted_small)
  where
    shifted_small : (modulus - suc x) / 2 ^ w % modulus ≡ (modulus - suc x) / 2 ^ w
    shifted_small = mod-eq_of_lt (omega (arith, shr_le (modulus - suc x) w))

shift_mono_low : (x y w : ℕ) → x ≤ y → y < 0x8000_0000 → arithmetic_shift x w ≤ arithmetic_shift y w
shift_mono_low x y w x≤y h = rw (shift_low x w (omega arith), shift_low y w h) (shr_mono w x≤y)

shift_mono_high : (x y w : ℕ) → x ≤ y → 0x8000_0000 ≤ x → arithmetic_shift x w ≤ arithmetic_shift y w
shift_mono_high x y w x≤y h =
    let falls : (modulus - suc y) / 2 ^ w ≤ (modulus - suc x) / 2 ^ w = shr_mono w (omega arith) in
    rw (shift_high x w h, shift_high y w (omega arith)) (omega arith)

-- and so does an arithmetic one, where the range lies on one side
pub sar_fits : {p : Range} {x : ℕ} (w : ℕ) → Fits p x → Fits (sar_range p w) (arithmetic_shift x w)
unfolding sar_range
sar_fits {p} {x} w f = record {
  inside =
      by_cond (λ (r : Range). In r (arithmetic_shift x w)) (ltb p.high 0x8000_0000 || leb 0x8000_0000 p.low)
      (λ t. one_side (or_cases (ltb p.high 0x8000_0000) (leb 0x8000_0000 p.low) t))
      (λ _. omega (arith, shift_below x w));
  word = shift_below x w;
}
  where
    one_side : (ltb p.high 0x8000_0000 ≡ true) ⊎ (leb 0x8000_0000 p.low ≡ true)
        → In (range (arithmetic_shift p.low w) (arithmetic_shift p.high w)) (arithmetic_shift x w)
    one_side (inl t) =
        let below : p.high < 0x8000_0000 = ltb-true _ _ t in (
          shift_mono_low p.low x w f.inside.0 (omega (arith, f.inside.1)),
          shift_mono_low x p.high w f.inside.1 below,
        )
    one_side (inr t) =
        let above : 0x8000_0000 ≤ p.low = leb-true _ _ t in (
          shift_mono_high p.low x w f.inside.0 above,
          shift_mono_high x p.high w f.inside.1 (omega (arith, f.inside.0)),
        )

-- ---- load

-- a wrapped number fits anything
wrapped_fits : (z : ℤ) → Fits anything (wrap z)
wrapped_fits z = record { inside = omega (arith, wrap_below z); word = wrap_below z }

-- what a load carries of a number of its bytes fits its range
pub carried_fits : (v : LoadWidth) (raw : ℕ) → raw < 2 ^ (8 * bytes_of (width_read v)) → Fits (load_range v) (carried v raw)
unfolding carried
carried_fits (Unsigned w) raw below =
    record { inside = (omega arith, le_ones (8 * bytes_of w) below); word = lt_of_lt_of_le below (pow_mono (at_most_32 w)) }
  where
    at_most_32 : (u : Width) → 8 * bytes_of u ≤ 32
    at_most_32 One = omega arith
    at_most_32 Two = omega arith
    at_most_32 Four = omega arith
carried_fits SignedOne raw below = wrapped_fits (signed_from 0x80 raw)
carried_fits SignedTwo raw below = wrapped_fits (signed_from 0x8000 raw)
