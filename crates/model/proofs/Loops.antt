-- Tests of every number below a bound, as a loop makes them: where one fails, where one more passes, and at the end.
-- Assumes nothing.
use Prim.Native.Nat.{ℕ, ◌+◌, ◌≤◌, ◌<◌}
use mathlib.Core.Path.{◌≡◌, sym, ◌∙◌}
use mathlib.Core.Bool.{Bool, true, false, false≢true}
use native.Mathlib.Numerals.{add-one}
use native.Mathlib.Omega.{arith}
use borrow.Author.Tests.{not-true}
use Rattle.model.specs.Quantifiers.{all_below}
use Rattle.model.proofs.Tests.{all_below_at}
use Rattle.model.proofs.Reflection.{Reflects, not_reflects, all_below_reflects}

-- a test whose statement does not hold fails
pub fails : {a : Bool} {P : Type 0} → Reflects a P → (P → ⊥) → a ≡ false
fails {a} reflects refuted = not-true a ((not_reflects reflects).1 refuted)

each_passes : (n : ℕ) (f : ℕ → Bool) → Reflects (all_below n f) ((i : ℕ) → i < n → f i ≡ true)
each_passes n f = all_below_reflects n (λ i. (λ e. e, λ e. e))

pub all_fails : (n : ℕ) (f : ℕ → Bool) (i : ℕ) → i < n → f i ≡ false → false ≡ all_below n f
all_fails n f i below failed = sym (fails (each_passes n f) (λ pass. false≢true (sym failed ∙ pass i below)))

pub all_more : (f : ℕ → Bool) (i : ℕ) → all_below i f ≡ true → f i ≡ true → all_below (i + 1) f ≡ true
unfolding all_below
all_more f i so_far here = rw (add-one, so_far, here)

pub all_passed : (n : ℕ) (f : ℕ → Bool) (i : ℕ) → n ≤ i → all_below i f ≡ true → true ≡ all_below n f
all_passed n f i past so_far = sym ((each_passes n f).1 (λ k below. all_below_at i f so_far k (omega arith)))
