-- The first fault of obligations that are judged one after another: of a first one and the rest, of two lists, and of a list for
-- each index from one on, as a loop over the indexes meets them. By the definition's steps. Assumes nothing.
use Prim.Native.Nat.{ℕ, suc, ◌+◌, ◌-◌, ◌≤◌, ◌<◌}
use mathlib.Core.Path.{◌≡◌, refl, sym, ap, ◌∙◌}
use mathlib.Core.Bool.{Bool, true, false}
use mathlib.Core.List.{List, [], ◌∷◌, ◌++◌}
use Rattle.std.specs.Prelude.{Option, None, Some}
use native.Mathlib.Omega.{arith}
use native.Mathlib.Nat.{sub-zero}
use native.Mathlib.Numerals.{add-one}
use Rattle.model.specs.Obligations.{Fault, Obligation, fault_unless, first_fault, each_from, each}

-- a first obligation, and the rest
module _ (o : Obligation) (os : List Obligation) where
  pub head_met : o.met ≡ true → first_fault (o ∷ os) ≡ first_fault os
  unfolding first_fault
  head_met met = rw met

  pub head_unmet : o.met ≡ false → first_fault (o ∷ os) ≡ Some o.fault
  unfolding first_fault
  head_unmet unmet = rw unmet

-- one obligation by itself (`head_unmet` has the other case)
pub one_met : (o : Obligation) → o.met ≡ true → first_fault (o ∷ []) ≡ None
unfolding first_fault
one_met o met = head_met o [] met

-- of two lists, the first one's fault if it has any
earlier : Option Fault → Option Fault → Option Fault
earlier None later = later
earlier (Some f) later = Some f

append_earlier : (xs ys : List Obligation) → first_fault (xs ++ ys) ≡ earlier (first_fault xs) (first_fault ys)
unfolding first_fault earlier
append_earlier [] ys = refl
append_earlier (x ∷ xs) ys =
    ap (fault_unless x.met x.fault) (append_earlier xs ys) ∙ behind x.met
  where
    behind : (met : Bool)
        → fault_unless met x.fault (earlier (first_fault xs) (first_fault ys))
        ≡ earlier (fault_unless met x.fault (first_fault xs)) (first_fault ys)
    behind true = refl
    behind false = refl

module _ (xs ys : List Obligation) where
  pub append_faultless : first_fault xs ≡ None → first_fault (xs ++ ys) ≡ first_fault ys
  unfolding earlier
  append_faultless faultless = append_earlier xs ys ∙ rw faultless

  pub append_faulty : (f : Fault) → first_fault xs ≡ Some f → first_fault (xs ++ ys) ≡ Some f
  unfolding earlier
  append_faulty f faulty = append_earlier xs ys ∙ rw faulty

-- what comes behind two lists with one fault
pub append_alike : (xs ys later : List Obligation) → first_fault xs ≡ first_fault ys → first_fault (xs ++ later) ≡ first_fault (ys ++ later)
append_alike xs ys later same =
    append_earlier xs later ∙ ap (λ o. earlier o (first_fault later)) same ∙ sym (append_earlier ys later)

-- a list for each index from i on, below n
module _ (g : ℕ → List Obligation) (i n : ℕ) where
  here_and_later : i < n → each_from i (n - i) g ≡ g i ++ each_from (i + 1) (n - (i + 1)) g
  unfolding each_from
  here_and_later below =
      let left : n - i ≡ suc (n - (i + 1)) = omega arith in
      rw (left, add-one i)

  pub index_faultless : i < n → first_fault (g i) ≡ None
      → first_fault (each_from i (n - i) g) ≡ first_fault (each_from (i + 1) (n - (i + 1)) g)
  index_faultless below faultless = ap first_fault (here_and_later below) ∙ append_faultless _ _ faultless

  pub index_faulty : (f : Fault) → i < n → first_fault (g i) ≡ Some f → first_fault (each_from i (n - i) g) ≡ Some f
  index_faulty f below faulty = ap first_fault (here_and_later below) ∙ append_faulty _ _ f faulty

  pub indexes_done : n ≤ i → first_fault (each_from i (n - i) g) ≡ None
  unfolding first_fault each_from
  indexes_done done =
      let none_left : n - i ≡ 0 = omega arith in
      rw none_left

-- where a loop over all indexes below n starts
pub indexes_start : (g : ℕ → List Obligation) (n : ℕ) → first_fault (each_from 0 (n - 0) g) ≡ first_fault (each n g)
indexes_start g n = rw (sub-zero n)
