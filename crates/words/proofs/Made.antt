-- Arrays that `array::from_fn` makes. Assumes nothing.
use Rattle.std.proofs.Common.{◌≡◌, ℕ, zero, suc, ◌+◌, ◌<◌, List, get_or, refl, ◌∙◌, add-zero, zero-add, arith}
use Rattle.std.specs.Array.{IsFromFnResult, IsFromFnResultFrom}
use Rattle.std.specs.Fn.{Mut}
use Rattle.std.specs.Iterator.{ActsAs}

-- by calls of a function which stays as it is: at each index stands what the function gives there
module _ {F : Type 0} (g : Mut F (ℕ × Unit {0}) ℕ) (f : F) (h : ℕ → ℕ) (acts : ActsAs g f h) where
  made_from : (n k : ℕ) (p : F) (made : List ℕ) → p ≡ f → IsFromFnResultFrom g p made k n → (i : ℕ) → i < n
      → get_or made (k + i) 0 ≡ h (k + i)
  made_from zero k p made same each i below = absurd (omega arith)
  made_from (suc n) k p made same each zero below = rw add-zero (each.2.1 0 ∙ (acts k each.1 each.0 (rw same at each.3)).1)
  made_from (suc n) k p made same each (suc j) below =
      let place : k + suc j ≡ k + 1 + j = omega arith in
      rw place (made_from n (k + 1) each.0 made (acts k each.1 each.0 (rw same at each.3)).0 each.4 j (omega arith))

  pub made_of : (n : ℕ) (made : List ℕ) → IsFromFnResult g f made n → (i : ℕ) → i < n → get_or made i 0 ≡ h i
  made_of n made is i below = let at = made_from n 0 f made refl is.each i below in rw zero-add at at
