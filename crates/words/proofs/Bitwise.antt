-- The bitwise and, bit by bit, and a shift past the width. Assumes nothing.
use Rattle.std.proofs.Common.{◌≡◌, ℕ, zero, suc, ◌+◌, ◌*◌, ◌/◌, ◌%◌, ◌^◌, ◌<◌, ◌≤◌, min, ltb, cond, sym, refl, ap, ◌∙◌, lt_of_lt_of_le, arith, ltb-false}
use native.Mathlib.Nat.{div-eq_of_lt, pow-le-pow_right}
use lib.Bits.{bit_and, and_step, and_zero_l}
use Rattle.model.specs.Words.{modulus, bitwise_and}
use Rattle.model.proofs.Tests.{by_cond}

-- the machine's and is that of the lowest n bits, where n bits hold the first number
pub and_is_bitwise : (n x y : ℕ) → x < 2 ^ n → bit_and x y ≡ bitwise_and n x y
unfolding bitwise_and
and_is_bitwise zero x y fits = let none : x ≡ 0 = omega arith in rw none (and_zero_l y)
and_is_bitwise (suc n) x y fits =
    and_step x y ∙ ap (λ (high : ℕ). high * 2 + min (x % 2) (y % 2)) (and_is_bitwise n (x / 2) (y / 2) (omega arith))

-- a shift by the width or more leaves nothing
pub shifted_out : (x w : ℕ) → x < modulus → cond (ltb w 32) (x / 2 ^ w) 0 ≡ x / 2 ^ w
shifted_out x w fits = by_cond (λ (n : ℕ). n ≡ x / 2 ^ w) (ltb w 32) (λ _. refl) (λ f. none (ltb-false w 32 f))
  where
    none : 32 ≤ w → 0 ≡ x / 2 ^ w
    none long = let power : 2 ^ 32 ≤ 2 ^ w = pow-le-pow_right (omega arith) long in sym (div-eq_of_lt (lt_of_lt_of_le fits power))
