-- Boolean tests: what holds where a test passes, and where it fails. Assumes nothing.
use Prim.Native.Nat.{ℕ, zero, suc, ◌≤◌, ◌<◌}
use mathlib.Core.Path.{◌≡◌, refl, sym, ap, ◌∙◌}
use mathlib.Core.Logic.{◌⊎◌, inl, inr}
use mathlib.Core.Bool.{Bool, true, false, cond, not, ◌&&◌, ◌||◌, false≢true}
use native.Mathlib.Omega.{arith}
use native.Mathlib.Decide.{ℕ_discrete}
use borrow.Author.Tests.{not-true, not-false, leb-true, le-leb}
use lib.Dec.{leb}
use Rattle.model.specs.Quantifiers.{all_below}

-- a choice has a property where both its answers have it
pub by_cond : {A : Type 0} (P : A → Type 0) (b : Bool) {x y : A} → (b ≡ true → P x) → (b ≡ false → P y) → P (cond b x y)
by_cond P true f g = f refl
by_cond P false f g = g refl

pub cond_true : {A : Type 0} (b : Bool) (x y : A) → b ≡ true → cond b x y ≡ x
cond_true b x y e = ap (λ (t : Bool). cond t x y) e

pub cond_false : {A : Type 0} (b : Bool) (x y : A) → b ≡ false → cond b x y ≡ y
cond_false b x y e = ap (λ (t : Bool). cond t x y) e

pub and_left : (a b : Bool) → a && b ≡ true → a ≡ true
and_left true b e = refl
and_left false b e = e

pub and_right : (a b : Bool) → a && b ≡ true → b ≡ true
and_right true b e = e
and_right false b e = absurd (false≢true e)

pub or_cases : (a b : Bool) → a || b ≡ true → (a ≡ true) ⊎ (b ≡ true)
or_cases true b e = inl refl
or_cases false b e = inr e

-- what `if !answer` tells of the test that was answered
module _ {answer test : Bool} (same : answer ≡ test) where
  pub test_fails : not answer ≡ true → test ≡ false
  test_fails taken = sym same ∙ not-true answer taken

  pub test_passes : not answer ≡ false → test ≡ true
  test_passes left = sym same ∙ not-false answer left

-- two comparisons that say the same
pub same_order : (a b c d : ℕ) → (a ≤ b → c ≤ d) → (c ≤ d → a ≤ b) → leb a b ≡ leb c d
same_order a b c d forth back = by_test (leb a b) refl
  where
    by_test : (t : Bool) → leb a b ≡ t → t ≡ leb c d
    by_test true passed = sym (le-leb c d (forth (leb-true a b passed)))
    by_test false failed = by_other (leb c d) refl
      where
        by_other : (s : Bool) → leb c d ≡ s → false ≡ s
        by_other true passed = sym failed ∙ le-leb a b (back (leb-true c d passed))
        by_other false still = refl

-- what all numbers below n pass, each of them passes
pub all_below_at : (n : ℕ) (f : ℕ → Bool) → all_below n f ≡ true → (i : ℕ) → i < n → f i ≡ true
unfolding all_below
all_below_at zero f e i h = absurd (omega arith)
all_below_at (suc n) f e i h = last_or_below (λ q. all_below_at n f (and_left (all_below n f) (f n) e) i q) (ℕ_discrete i n)
  where
    last_or_below : (i < n → f i ≡ true) → Dec (i ≡ n) → f i ≡ true
    last_or_below below (yes q) = rw q (and_right (all_below n f) (f n) e)
    last_or_below below (no q) = below (omega arith)
