-- Tables of outcomes: a computed test of all rows, and that what passes it agrees in every row. Assumes nothing.
use Prim.Native.Nat.{ℕ}
use mathlib.Core.Path.{◌≡◌, refl, sym, ap₂, subst}
use mathlib.Core.Bool.{Bool, true, false, ◌&&◌, false≢true}
use mathlib.Core.Logic.{⊎_elim}
use mathlib.Core.List.Memᴰ
use mathlib.Core.List.{List, [], ◌∷◌, Memᴰ}
use lib.Dec.{eqb}
use borrow.Author.Tests.{eqb-true}
use Rattle.model.specs.Outcomes.{Row}
use Rattle.model.proofs.Tests.{and_left, and_right}

unfoldable pub agrees : List ℕ → List ℕ → Bool
agrees [] [] = true
agrees [] (y ∷ ys) = false
agrees (x ∷ xs) [] = false
agrees (x ∷ xs) (y ∷ ys) = eqb x y && agrees xs ys

unfoldable pub every : List Row → Bool
every [] = true
every (r ∷ rs) = agrees r.given r.expected && every rs

agrees_same : (xs ys : List ℕ) → agrees xs ys ≡ true → xs ≡ ys
unfolding agrees
agrees_same [] [] passes = refl
agrees_same [] (y ∷ ys) passes = absurd (false≢true passes)
agrees_same (x ∷ xs) [] passes = absurd (false≢true passes)
agrees_same (x ∷ xs) (y ∷ ys) passes =
    ap₂ (λ (z : ℕ) (zs : List ℕ). z ∷ zs) (eqb-true x y (and_left (eqb x y) (agrees xs ys) passes))
    (agrees_same xs ys (and_right (eqb x y) (agrees xs ys) passes))

pub all_agree : (rows : List Row) → every rows ≡ true → (r : Row) → Memᴰ r rows → r.given ≡ r.expected
unfolding every
all_agree [] passes r among = absurd (Memᴰ.not-nil among)
all_agree (q ∷ rows) passes r among =
    ⊎_elim
    (λ is. subst (λ (x : Row). x.given ≡ x.expected) (sym is) (agrees_same q.given q.expected (and_left (agrees q.given q.expected) (every rows) passes)))
    (all_agree rows (and_right (agrees q.given q.expected) (every rows) passes) r)
    (Memᴰ.cases_cons among)
