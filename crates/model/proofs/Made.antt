-- Arrays that are made by calls of a closure at their indexes (`array::from_fn`): where a call leaves the closure as it was, and gives
-- what a function says of the index, they are that function's table. Assumes nothing.
use Prim.Native.Nat.{ℕ, zero, suc, ◌+◌, ◌<◌}
use mathlib.Core.Path.{◌≡◌, refl, sym, ◌∙◌}
use mathlib.Core.List.{List}
use native.Mathlib.Omega.{arith}
use lib.ListN.{get_or}
use denote.Param.Members.{Mut, Called}
use Rattle.std.specs.Array.{IsFromFnResult, IsFromFnResultFrom}
use Rattle.model.specs.File.{tabulate}
use Rattle.model.proofs.Tabulate.{tabulate_is}

module _ {F B : Type 0} {g : Mut F (ℕ × Unit {0}) B} {f : F} (h : ℕ → B) (d : B) where
  made_from : (ys : List B) (i n : ℕ) → ((r : ℕ) (y : B) (q : F) → r < i + n → Called g f (r, tt) y q → (y ≡ h r) × (q ≡ f))
      → IsFromFnResultFrom g f ys i n → tabulate i n (λ r. get_or ys r d) ≡ tabulate i n h
  unfolding tabulate
  made_from ys i zero gives made = refl
  made_from ys i (suc n) gives made =
      let one = gives i made.1 made.0 (omega arith) made.3 in
      let next : i + 1 ≡ suc i = omega arith in
      let rest : IsFromFnResultFrom g f ys (suc i) n = rw (one.1, next) at made.4 in
      rw (made.2.1 d, one.0, made_from ys (suc i) n (λ r y q below k. gives r y q (omega arith) k) rest)

  pub made_tabulates : {ys : List B} {n : ℕ} → IsFromFnResult g f ys n
      → ((r : ℕ) (y : B) (q : F) → r < n → Called g f (r, tt) y q → (y ≡ h r) × (q ≡ f)) → ys ≡ tabulate 0 n h
  made_tabulates {ys} {n} is gives =
      sym (tabulate_is (λ r. get_or ys r d) d n ys is.long (λ r _. refl)) ∙ made_from ys 0 n (λ r y q below k. gives r y q (omega arith) k) is.each
