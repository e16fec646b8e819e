-- The signed reading of a word: the machine's reading is the definition's, also where it was kept as bits, and the shift of a
-- reading by at most 31 is the definition's by any number. Assumes nothing.
use Rattle.std.proofs.Common.{◌≡◌, ℕ, suc, ◌-◌, ◌^◌, ◌<◌, ◌≤◌, min, Bool, true, false, cond, leb, ltb, ℤ, pos, negsuc, sym, refl, ap, ◌∙◌, lt_of_lt_of_le, arith, w32, SFits, to_z, of_z, leb-true, leb-false}
use native.Mathlib.Nat.{div-eq_of_lt, pow-le-pow_right}
use lib.Signed.{mag, shr_z, mag_shr}
use mir.Val.{sel}
use mir.ValLaws.{to_z-of_z, to_z-Fits, sfits_le}
use Rattle.model.specs.Words.{modulus, wrap, signed, arithmetic_shift}

-- the machine's reading of a word is the definition's
pub reading_is_signed : (x : ℕ) → to_z w32 x ≡ signed x
unfolding signed
reading_is_signed x = sel_is_cond (ltb x 0x8000_0000)
  where
    sel_is_cond : (b : Bool) → sel b (pos x) (negsuc (modulus - suc x)) ≡ cond b (pos x) (negsuc (modulus - suc x))
    sel_is_cond true = refl
    sel_is_cond false = refl

signed_fits : (x : ℕ) → x < modulus → SFits w32 (signed x)
signed_fits x fits = rw (sym (reading_is_signed x)) (to_z-Fits w32 x (record { fits = fits }))

-- a signed reading that was kept as bits is read back
pub kept_signed : (x : ℕ) (z : ℤ) → x < modulus → z ≡ signed x → to_z w32 (of_z w32 z) ≡ signed x
kept_signed x z fits made = ap (λ (y : ℤ). to_z w32 (of_z w32 y)) made ∙ to_z-of_z w32 (signed x) (signed_fits x fits)

-- divided by any two numbers above its magnitude a number gives the same, 0 or -1
sign_left : (z : ℤ) (m n : ℕ) → mag z < m → mag z < n → shr_z z m ≡ shr_z z n
sign_left (pos a) m n short long = ap pos (div-eq_of_lt short ∙ sym (div-eq_of_lt long))
sign_left (negsuc a) m n short long = ap negsuc (div-eq_of_lt short ∙ sym (div-eq_of_lt long))

-- a shift by 31 leaves the sign alone, and so does every longer one
pub long_shift : (x w : ℕ) → x < modulus → 31 ≤ w → arithmetic_shift x 31 ≡ arithmetic_shift x w
unfolding arithmetic_shift
long_shift x w fits long =
    let fit : SFits w32 (signed x) = signed_fits x fits in
    let power : 2 ^ 31 ≤ 2 ^ w = pow-le-pow_right (omega arith) long in
    ap wrap (sign_left (signed x) (2 ^ 31) (2 ^ w) fit.sfits (lt_of_lt_of_le fit.sfits power))

bounded_shift : (x w : ℕ) → x < modulus → arithmetic_shift x (min w 31) ≡ arithmetic_shift x w
bounded_shift x w fits = by_test (leb w 31) refl
  where
    by_test : (b : Bool) → leb w 31 ≡ b → arithmetic_shift x (min w 31) ≡ arithmetic_shift x w
    by_test true short = let same : min w 31 ≡ w = omega (arith, leb-true w 31 short) in rw same
    by_test false long =
        let above : 31 < w = leb-false w 31 long in
        let most : min w 31 ≡ 31 = omega arith in
        rw most (long_shift x w fits (omega arith))

-- the code's shift: of a reading that was kept as bits
pub shift_is_arithmetic : (x w : ℕ) (y z : ℤ) → x < modulus → z ≡ signed x → y ≡ shr_z (to_z w32 (of_z w32 z)) (2 ^ min w 31)
    → wrap (to_z w32 (of_z w32 y)) ≡ arithmetic_shift x w
unfolding arithmetic_shift
shift_is_arithmetic x w y z fits made shifted =
    let fit : SFits w32 (shr_z (signed x) (2 ^ min w 31)) = sfits_le (mag_shr (signed x) (2 ^ min w 31)) (signed_fits x fits) in
    let is : y ≡ shr_z (signed x) (2 ^ min w 31) = rw (kept_signed x z fits made) at shifted in
    rw (is, to_z-of_z w32 _ fit) (bounded_shift x w fits)
