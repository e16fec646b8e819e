-- Units of equally many bytes, one behind the other: their length, that they stand so exactly if each stands at its own place, and so
-- that a list is written as its units exactly where it is read from them. Assumes nothing.
use Prim.Native.Nat.{ℕ, zero, suc, ◌+◌, ◌*◌, ◌/◌, ◌≤◌, ◌<◌}
use mathlib.Core.Path.{◌≡◌, refl, sym, ap, ◌∙◌}
use mathlib.Core.Logic.Iff
use mathlib.Core.Logic.{◌↔◌}
use mathlib.Core.List.{List, [], ◌∷◌, flat_map}
use native.Mathlib.Omega.{arith}
use native.Mathlib.Decide.{ℕ_discrete}
use native.Mathlib.Nat.{mul-zero, mul-suc, div-eq_of_eq-mul_right}
use lib.ListN.{length, get_or, take, drop, length-append}
use lib.Seq.{take-length}
use Rattle.model.specs.File.{tabulate}
use Rattle.model.proofs.Tabulate.{length-tabulate, table_at, tabulate_is}
use Rattle.model.proofs.Writer.Stands.{Stands, stands_both}

module _ {A : Type 0} (unit : ℕ) (f : A → List ℕ) (long : (x : A) → length (f x) ≡ unit) where
  pub units_length : (xs : List A) → length (flat_map f xs) ≡ unit * length xs
  unfolding flat_map
  units_length [] = sym (mul-zero unit)
  units_length (x ∷ xs) =
      omega (arith, length-append (f x) (flat_map f xs), long x, units_length xs, mul-suc unit (length xs))

  -- the places of units
  module _ (bytes : List ℕ) (place : ℕ → ℕ) (step : (j : ℕ) → place j + unit ≡ place (suc j)) (g : ℕ → A) where
    pub units_stand : (i n : ℕ)
        → Stands bytes (place i) (unit * n) (flat_map f (tabulate i n g))
        ↔ ((j : ℕ) → i ≤ j → j < i + n → Stands bytes (place j) unit (f (g j)))
    unfolding flat_map tabulate
    units_stand i zero = (λ e j from below. absurd (omega arith), λ h. rw (mul-zero unit))
    units_stand i (suc n) =
        Iff.trans
        (stands_both bytes unit (unit * n) (place i) (place (suc i)) (unit * suc n) (step i) (omega (arith, mul-suc unit n))
        (f (g i)) (flat_map f (tabulate (suc i) n g)) (long (g i)) Iff.rfl (units_stand (suc i) n)) (
          λ h j from below. first_or_later h from below (ℕ_discrete j i),
          λ h. (h i (omega arith) (omega arith), λ j from below. h j (omega arith) (omega arith)),
        )
      where
        first_or_later : {j : ℕ} → Stands bytes (place i) unit (f (g i))
            × ((j : ℕ) → suc i ≤ j → j < suc i + n → Stands bytes (place j) unit (f (g j)))
            → i ≤ j → j < i + suc n → Dec (j ≡ i) → Stands bytes (place j) unit (f (g j))
        first_or_later h from below (yes e) = rw e h.0
        first_or_later {j} h from below (no e) = h.1 j (omega arith) (omega arith)

  -- what each unit is read as, in bytes that are whole units
  module _ (bytes : List ℕ) (xs : List A) (d : A) (read : ℕ → A) (some_byte : 0 < unit) (n : ℕ) (whole : length bytes ≡ unit * n)
      (each : n ≡ length xs → (i : ℕ) → i < length xs → Stands bytes (unit * i) unit (f (get_or xs i d)) ↔ (read i ≡ get_or xs i d)) where
    as_many : n ≡ length xs → (bytes ≡ flat_map f xs) ↔ (tabulate 0 (length xs) read ≡ xs)
    as_many same =
        Iff.trans (λ e. all ∙ e ∙ sym entries, λ e. sym all ∙ e ∙ entries)
        (Iff.trans (units_stand bytes (λ i. unit * i) (λ j. sym (mul-suc unit j)) (λ i. get_or xs i d) 0 (length xs)) (
          λ h. tabulate_is read d (length xs) xs refl (λ i below. (each same i below).0 (h i (omega arith) (omega arith))),
          λ e j _ below.
              let inside : j < length xs = omega arith in
              (each same j inside).1 (sym (table_at read d (length xs) j inside) ∙ ap (λ (l : List A). get_or l j d) e),
        ))
      where
        all : take (unit * length xs) (drop (unit * 0) bytes) ≡ bytes
        all = rw (mul-zero unit, ← same, ← whole) (take-length bytes)

        entries : flat_map f (tabulate 0 (length xs) (λ i. get_or xs i d)) ≡ flat_map f xs
        entries = ap (flat_map f) (tabulate_is (λ i. get_or xs i d) d (length xs) xs refl (λ i below. refl))

    pub units_are : (bytes ≡ flat_map f xs) ↔ (tabulate 0 (length bytes / unit) read ≡ xs)
    units_are =
        let count : length bytes / unit ≡ n = div-eq_of_eq-mul_right some_byte whole in
        rw count (
          λ e. written e (sym count ∙ div-eq_of_eq-mul_right some_byte (ap length e ∙ units_length xs)),
          λ e. read_back e (sym (length-tabulate 0 n read) ∙ ap length e),
        )
      where
        written : bytes ≡ flat_map f xs → n ≡ length xs → tabulate 0 n read ≡ xs
        written e same = rw same ((as_many same).0 e)

        read_back : tabulate 0 n read ≡ xs → n ≡ length xs → bytes ≡ flat_map f xs
        read_back e same = (as_many same).1 (rw same at e)
