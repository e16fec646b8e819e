-- The gate program's line: what decimal numbers are, with no bound on their digits, and the lines that are known. Assumes nothing.
use Prim.Native.Nat.{ℕ, zero, suc, ◌/◌, ◌%◌, ◌≤◌, ◌<◌}
use mathlib.Core.Path.{◌≡◌, refl}
use mathlib.Core.Bool.{Bool, true, false}
use mathlib.Core.List.{[], ◌∷◌, ◌++◌}
use native.Mathlib.Omega.{arith}
use native.Mathlib.Nat.{div-lt_self}
use lib.Dec.{ltb}
use borrow.Author.Tests.{ltb-false, lt-ltb, le-ltb}
use Rattle.model.specs.Line.{digit, decimal_within, decimal, line_of}
use Rattle.model.specs.Promises.{DecimalKnown, LineKnown}

pub tenth_less : (n : ℕ) → 10 ≤ n → n / 10 < n
tenth_less n h = div-lt_self (omega arith) (omega arith)

-- more digits than enough change nothing
enough : (most other n : ℕ) → n < most → n < other → decimal_within most n ≡ decimal_within other n
unfolding decimal_within
enough zero other n h k = absurd (omega arith)
enough (suc most) zero n h k = absurd (omega arith)
enough (suc most) (suc other) n h k = by_size (ltb n 10) refl λ less. enough most other (n / 10) (omega arith) (omega arith)
  where
    by_size : (small : Bool) → ltb n 10 ≡ small → (n / 10 < n → decimal_within most (n / 10) ≡ decimal_within other (n / 10))
        → decimal_within (suc most) n ≡ decimal_within (suc other) n
    by_size true is same = rw is
    by_size false is same = rw (is, same (tenth_less n (ltb-false n 10 is)))

decimal_small : (n : ℕ) → n < 10 → decimal n ≡ digit n ∷ []
unfolding decimal decimal_within
decimal_small n h = rw (lt-ltb n 10 h)

decimal_more : (n : ℕ) → 10 ≤ n → decimal n ≡ decimal (n / 10) ++ (digit (n % 10) ∷ [])
unfolding decimal decimal_within
decimal_more n h = rw (le-ltb n 10 h, enough n (suc (n / 10)) (n / 10) (tenth_less n h) (omega arith))

pub decimal_known : DecimalKnown
decimal_known = record { small = decimal_small; more = decimal_more }

pub line_known : LineKnown
unfolding line_of decimal decimal_within
line_known = record { lines = refl }
