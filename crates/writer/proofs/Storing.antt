-- Bytes stored one after another from an offset on (`sets`), and what is stored behind what is stored. Assumes nothing.
use Prim.Native.Nat.{ℕ, zero, suc, ◌+◌, ◌*◌, ◌/◌, ◌%◌, ◌<◌}
use mathlib.Core.Path.{◌≡◌, refl, sym, ap, ◌∙◌}
use mathlib.Core.List.{List, [], ◌∷◌, ◌++◌, flat_map, append-nil, append_assoc}
use native.Mathlib.Nat.{add-zero}
use native.Mathlib.Numerals.{add-one}
use native.Mathlib.Omega.{arith}
use lib.ListN.{length, get_or, take, set}
use lib.Seq.{sets, length-sets, take-suc, length-take-le}
use Rattle.model.specs.Words.{low_bytes, write_bytes}
use Rattle.model.proofs.Writer.Units.{units_length}

-- the places of the bytes behind one
pub after-1 : (at : ℕ) → at + 1 ≡ suc at
after-1 at = omega arith

pub after-2 : (at : ℕ) → at + 2 ≡ suc (suc at)
after-2 at = omega arith

pub after-3 : (at : ℕ) → at + 3 ≡ suc (suc (suc at))
after-3 at = omega arith

pub after-4 : (at : ℕ) → at + 4 ≡ suc (suc (suc (suc at)))
after-4 at = omega arith

pub after-8 : (at : ℕ) → at + 8 ≡ suc (suc (suc (suc (suc (suc (suc (suc at)))))))
after-8 at = omega arith

pub ruleset places = (after-1, after-2, after-3, after-4, after-8)

-- what is stored behind what is stored
pub sets_behind : (l : List ℕ) (at : ℕ) (xs ys : List ℕ) → sets (sets l at xs) (at + length xs) ys ≡ sets l at (xs ++ ys)
sets_behind l at [] ys = rw add-zero
sets_behind l at (x ∷ xs) ys =
    let place : at + suc (length xs) ≡ suc at + length xs = omega arith in
    rw place (sets_behind (set l at x) (suc at) xs ys)

pub part_behind : (l : List ℕ) (at : ℕ) (xs ys : List ℕ) {before after : List ℕ} {place : ℕ}
    → before ≡ sets l at xs → place ≡ at + length xs → after ≡ sets before place ys → after ≡ sets l at (xs ++ ys)
part_behind l at xs ys is-before is-place is_after = is_after ∙ rw (is-before, is-place) (sets_behind l at xs ys)

-- a number that is written is its bytes stored
pub number_stored : (n x : ℕ) (l : List ℕ) (at : ℕ) → write_bytes n x l at ≡ sets l at (low_bytes n x)
unfolding write_bytes low_bytes
number_stored zero x l at = refl
number_stored (suc n) x l at = number_stored n (x / 256) (set l at (x % 256)) (suc at)

-- one more behind those that stand
flat_append : {A : Type 0} (f : A → List ℕ) (xs ys : List A) → flat_map f (xs ++ ys) ≡ flat_map f xs ++ flat_map f ys
unfolding flat_map
flat_append f [] ys = refl
flat_append f (x ∷ xs) ys = rw (flat_append f xs ys, append_assoc)

pub flat_more : {A : Type 0} (f : A → List ℕ) (xs : List A) (x : A) → flat_map f (xs ++ (x ∷ [])) ≡ flat_map f xs ++ f x
unfolding flat_map
flat_more f xs x = flat_append f xs (x ∷ []) ∙ ap (λ (l : List ℕ). flat_map f xs ++ l) (append-nil (f x))

-- units of equally many bytes, stored one behind the other
module _ {A : Type 0} (unit : ℕ) (f : A → List ℕ) (long : (x : A) → length (f x) ≡ unit) (xs : List A) (l : List ℕ) (at : ℕ) where
  pub no_unit : l ≡ sets l at (flat_map f (take 0 xs))
  unfolding flat_map
  no_unit = refl

  pub unit_behind : (i : ℕ) → i < length xs → (x : A) → x ≡ get_or xs i x → {before after : List ℕ}
      → before ≡ sets l at (flat_map f (take i xs)) → after ≡ sets before (at + unit * i) (f x)
      → after ≡ sets l at (flat_map f (take (i + 1) xs))
  unit_behind i below x is_x is-before is_after =
      let so_far : unit * i ≡ length (flat_map f (take i xs)) =
      sym (units_length unit f long (take i xs) ∙ ap (λ (n : ℕ). unit * n) (length-take-le i xs (omega arith))) in
      let next : flat_map f (take i xs) ++ f x ≡ flat_map f (take (i + 1) xs) =
      sym (flat_more f (take i xs) x) ∙ ap (λ (y : A). flat_map f (take i xs ++ (y ∷ []))) is_x ∙ rw (add-one, take-suc xs i x below) in
      part_behind l at (flat_map f (take i xs)) (f x) is-before (rw so_far) is_after ∙ ap (sets l at) next

-- what is stored changes no length
pub stored_length : (l : List ℕ) (at : ℕ) (xs : List ℕ) {after : List ℕ} → after ≡ sets l at xs → length after ≡ length l
stored_length l at xs is = ap length is ∙ length-sets l at xs
