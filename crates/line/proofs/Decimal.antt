-- How many digits a number has: one more than its tenth, and at most ten where it is the code's. Assumes nothing.
use Prim.Native.Nat.{ℕ, zero, suc, ◌+◌, ◌/◌, ◌^◌, ◌≤◌, ◌<◌}
use mathlib.Core.Path.{◌≡◌, refl}
use mathlib.Core.Bool.{Bool, true, false}
use native.Mathlib.Omega.{arith}
use native.Mathlib.Nat.{pow-suc, div-lt_iff_lt-mul}
use lib.Dec.{ltb}
use lib.ListN.{length, length-append}
use borrow.Author.Tests.{ltb-true, ltb-false}
use Rattle.model.specs.Line.{decimal}
use Rattle.model.proofs.Line.{decimal_known}

pub length_small : (n : ℕ) → n < 10 → length (decimal n) ≡ 1
length_small n h = rw (decimal_known.small n h)

pub length_more : (n : ℕ) → 10 ≤ n → length (decimal n) ≡ length (decimal (n / 10)) + 1
length_more n h = rw (decimal_known.more n h, length-append)

few_digits : (k n : ℕ) → n < 10 ^ suc k → length (decimal n) ≤ suc k
few_digits zero n h = omega (arith, length_small n (omega arith))
few_digits (suc k) n h = by_size (ltb n 10) refl (few_digits k (n / 10) ((div-lt_iff_lt-mul (omega arith)).1 (rw pow-suc at h)))
  where
    by_size : (small : Bool) → ltb n 10 ≡ small → length (decimal (n / 10)) ≤ suc k → length (decimal n) ≤ suc (suc k)
    by_size true is few = omega (arith, length_small n (ltb-true n 10 is))
    by_size false is few = omega (arith, length_more n (ltb-false n 10 is))

pub ten_digits : (n : ℕ) → n < 4294967296 → length (decimal n) ≤ 10
ten_digits n h = few_digits 9 n (omega arith)
