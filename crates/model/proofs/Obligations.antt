-- Lists of obligations: no fault is named exactly if all are met, and a fault that is named is the first.
-- Assumes nothing.
use Prim.Native.Nat.{ℕ, zero, suc, ◌+◌, ◌≤◌, ◌<◌}
use mathlib.Core.Path.{◌≡◌, refl, sym, ap}
use mathlib.Core.Logic.{◌↔◌}
use mathlib.Core.Bool.{Bool, true, false}
use mathlib.Core.List.{List, [], ◌∷◌, ◌++◌}
use Rattle.std.specs.Prelude.{None, Some}
use Rattle.std.proofs.lemmas.Option.{none-some, same_Some}
use native.Mathlib.Omega.{arith}
use native.Mathlib.Decide.{ℕ_discrete}
use Rattle.model.specs.Obligations.{Fault, Obligation, owes, each, fault_unless, first_fault, each_from, AllMet, FirstUnmet}

-- no fault is named exactly if every obligation is met
pub none_iff_met : (os : List Obligation) → (first_fault os ≡ None) ↔ AllMet os
unfolding first_fault
none_iff_met [] = (λ e. tt, λ h. refl)
none_iff_met (o ∷ os) = by_head o.met (none_iff_met os)
  where
    by_head : (met : Bool) → (first_fault os ≡ None) ↔ AllMet os
        → (fault_unless met o.fault (first_fault os) ≡ None) ↔ ((met ≡ true) × AllMet os)
    by_head true rest = (λ e. (refl, rest.0 e), λ h. rest.1 h.1)
    by_head false rest = (λ e. absurd (none-some o.fault (sym e)), λ h. absurd (unmet h.0))
      where
        unmet : false ≡ true → ⊥
        unmet e = let z : ◌≡◌ {A = ℕ} 0 1 = cc in omega arith

-- a fault that is named is that of the first obligation that is not met
pub first_unmet : (os : List Obligation) (f : Fault) → first_fault os ≡ Some f → FirstUnmet os f
unfolding first_fault
first_unmet [] f e = absurd (none-some f e)
first_unmet (o ∷ os) f e = by_head o.met refl (λ r. first_unmet os f r) e
  where
    behind : o.met ≡ true → FirstUnmet os f → FirstUnmet (o ∷ os) f
    behind m u = record {
      earlier = o ∷ u.earlier;
      unmet = u.unmet;
      later = u.later;
      order = ap (λ (l : List Obligation). o ∷ l) u.order;
      passed = (m, u.passed);
      fails = u.fails;
      fault = u.fault;
    }

    by_head : (met : Bool) → o.met ≡ met → (first_fault os ≡ Some f → FirstUnmet os f)
        → fault_unless met o.fault (first_fault os) ≡ Some f → FirstUnmet (o ∷ os) f
    by_head true m rest r = behind m (rest r)
    by_head false m rest r =
        record {
          earlier = [];
          unmet = o;
          later = os;
          order = refl;
          passed = tt;
          fails = m;
          fault = same_Some o.fault f r;
        }

-- of two lists, one after the other
pub append_met : (xs ys : List Obligation) → AllMet (xs ++ ys) ↔ (AllMet xs × AllMet ys)
append_met [] ys = (λ h. (tt, h), λ h. h.1)
append_met (x ∷ xs) ys = (
  λ h. let r = (append_met xs ys).0 h.1 in ((h.0, r.0), r.1),
  λ h. (h.0.0, (append_met xs ys).1 (h.0.1, h.1)),
)

pub append_fault : (xs ys : List Obligation) → (first_fault (xs ++ ys) ≡ None) ↔ ((first_fault xs ≡ None) × (first_fault ys ≡ None))
append_fault xs ys = (
  λ e.
      let r = (append_met xs ys).0 ((none_iff_met (xs ++ ys)).0 e) in
      ((none_iff_met xs).1 r.0, (none_iff_met ys).1 r.1),
  λ h. (none_iff_met (xs ++ ys)).1 ((append_met xs ys).1 ((none_iff_met xs).0 h.0, (none_iff_met ys).0 h.1)),
)

-- of a list for each index
pub each_met : (i n : ℕ) (f : ℕ → List Obligation)
    → AllMet (each_from i n f) ↔ ((j : ℕ) → i ≤ j → j < i + n → AllMet (f j))
unfolding each_from
each_met i zero f = (λ h j p q. absurd (omega arith), λ h. tt)
each_met i (suc n) f = (
  λ h.
      let r = (append_met (f i) (each_from (suc i) n f)).0 h in
      λ j p q. first_or_later r.0 (λ p'. (each_met (suc i) n f).0 r.1 j p' (omega arith)) p (ℕ_discrete j i),
  λ h. (append_met (f i) (each_from (suc i) n f)).1
      (h i (omega arith) (omega arith), (each_met (suc i) n f).1 (λ j p q. h j (omega arith) (omega arith))),
)
  where
    first_or_later : {j : ℕ} → AllMet (f i) → (suc i ≤ j → AllMet (f j)) → i ≤ j → Dec (j ≡ i) → AllMet (f j)
    first_or_later here later p (yes e) = rw e here
    first_or_later here later p (no e) = later (omega arith)

-- where each index has one obligation, and each is met exactly if something holds
pub each_one : (n number : ℕ) {test : ℕ → Bool} {P : ℕ → Type 0} → ((i : ℕ) → (test i ≡ true) ↔ P i)
    → AllMet (each n (λ i. owes number i (test i) ∷ [])) ↔ ((i : ℕ) → i < n → P i)
each_one n number reflects = (
  λ h i below. (reflects i).0 ((each_met 0 n _).0 h i (omega arith) (omega arith)).0,
  λ h. (each_met 0 n _).1 (λ i from below. ((reflects i).1 (h i (omega arith)), tt)),
)
