-- Tests over what may be there, and over every number below a bound. Assumes nothing.
use Rattle.std.specs.Prelude.{ℕ, zero, suc, Bool, true, false, ◌&&◌, ◌||◌, Option, None, Some}

-- if it is there, it passes
abbrev pub all_of : {A : Type 0} → Option A → (A → Bool) → Bool
all_of None f = true
all_of (Some x) f = f x

-- it is there, and passes
abbrev pub any_of : {A : Type 0} → Option A → (A → Bool) → Bool
any_of None f = false
any_of (Some x) f = f x

-- all numbers below n pass
unfoldable pub all_below : ℕ → (ℕ → Bool) → Bool
all_below zero f = true
all_below (suc n) f = all_below n f && f n

-- some number below n passes
unfoldable pub any_below : ℕ → (ℕ → Bool) → Bool
any_below zero f = false
any_below (suc n) f = any_below n f || f n
