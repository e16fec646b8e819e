-- Sums over the numbers below a bound, and what a test that fails tells. Assumes nothing.
use Prim.Native.Nat.{ℕ, zero, suc, ◌+◌, ◌*◌, ◌≤◌, ◌<◌}
use mathlib.Core.Path.{◌≡◌, refl}
use mathlib.Core.Bool.{Bool, true, false, ◌&&◌, ◌||◌, true≢false}
use native.Mathlib.Omega.{arith}
use native.Mathlib.Decide.{ℕ_discrete}
use Rattle.model.specs.Quantifiers.{all_below}

-- f 0 + f 1 + .. over the numbers below n
unfoldable pub sum_below : ℕ → (ℕ → ℕ) → ℕ
sum_below zero f = 0
sum_below (suc n) f = sum_below n f + f n

-- each summand is at most nine
pub sum_at_most : (n : ℕ) (f : ℕ → ℕ) → ((r : ℕ) → r < n → f r ≤ 9) → sum_below n f ≤ 9 * n
unfolding sum_below
sum_at_most zero f small = omega arith
sum_at_most (suc n) f small = omega (arith, sum_at_most n f (λ r h. small r (omega arith)), small n (omega arith))

-- no summand rises, so the sum does not
pub sum_mono : (n : ℕ) (f g : ℕ → ℕ) → ((r : ℕ) → r < n → f r ≤ g r) → sum_below n f ≤ sum_below n g
unfolding sum_below
sum_mono zero f g le = omega arith
sum_mono (suc n) f g le = omega (arith, sum_mono n f g (λ r h. le r (omega arith)), le n (omega arith))

-- and where one falls, it falls
pub sum_strict : (n : ℕ) (f g : ℕ → ℕ) → ((r : ℕ) → r < n → f r ≤ g r) → (r : ℕ) → r < n → f r < g r → sum_below n f < sum_below n g
unfolding sum_below
sum_strict zero f g le r below lt = absurd (omega arith)
sum_strict (suc n) f g le r below lt = last_or_below (λ h. sum_strict n f g le_below r h lt) (ℕ_discrete r n)
  where
    le_below : (s : ℕ) → s < n → f s ≤ g s
    le_below s h = le s (omega arith)

    last_or_below : (r < n → sum_below n f < sum_below n g) → Dec (r ≡ n) → sum_below (suc n) f < sum_below (suc n) g
    last_or_below below-n (yes e) =
        let last : f n < g n = rw e at lt in
        omega (arith, sum_mono n f g le_below)
    last_or_below below-n (no e) =
        let rest : sum_below n f < sum_below n g = below-n (omega arith) in
        omega (arith, le n (omega arith))

-- where not either passes, neither does
pub neither : (a b : Bool) → a || b ≡ false → (a ≡ false) × (b ≡ false)
neither true b e = absurd (true≢false e)
neither false b e = (refl, e)

-- where not all numbers below n pass, one does not
pub fails_below : (n : ℕ) (f : ℕ → Bool) → all_below n f ≡ false → (r : ℕ) × (r < n) × (f r ≡ false)
unfolding all_below
fails_below zero f e = absurd (true≢false e)
fails_below (suc n) f e = by_test (all_below n f) refl (λ q. fails_below n f q)
  where
    and_true_false : (b : Bool) → b ≡ true → b && f n ≡ false → f n ≡ false
    and_true_false true h q = q
    and_true_false false h q = absurd (true≢false (let w : true ≡ false = cc in w))

    by_test : (b : Bool) → all_below n f ≡ b → (all_below n f ≡ false → (r : ℕ) × (r < n) × (f r ≡ false))
        → (r : ℕ) × (r < suc n) × (f r ≡ false)
    by_test true h below = (n, omega arith, and_true_false (all_below n f) h e)
    by_test false h below = let w = below h in (w.0, omega (arith, w.1), w.2)
