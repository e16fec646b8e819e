-- Raised ends, taken back: what the code has of an end raised by 2^32, less that, is the end where it is not negative and else 0.
-- Assumes nothing.
use Prim.Native.Nat.{ℕ, ◌-◌}
use mathlib.Core.Path.{◌≡◌, refl}
use native.Mathlib.Omega.{arith}
use lib.Dec.{ltb}
use lib.IntN.{ℤ, sub_ℕ}
use borrow.Author.Tests.{ltb-true}
use Rattle.model.specs.Words.{modulus}
use Rattle.model.specs.Ranges.{or_zero}
use Rattle.model.proofs.Tests.{by_cond}

pub or_zero_lem : (from : ℕ) → or_zero (sub_ℕ from modulus) ≡ from - modulus
or_zero_lem from =
    by_cond (λ (z : ℤ). or_zero z ≡ from - modulus) (ltb from modulus)
    (λ t. omega (arith, ltb-true from modulus t)) (λ _. refl)
