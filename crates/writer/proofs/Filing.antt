-- The fields of a file, each header and each value stored behind what stands before it. Assumes nothing.
use Prim.Native.Nat.{ℕ, ◌+◌}
use mathlib.Core.Path.{◌≡◌, refl, sym, ap, ◌∙◌}
use mathlib.Core.List.{List, [], ◌∷◌, ◌++◌, map, flat_map, append_assoc}
use native.Mathlib.Omega.{arith}
use lib.ListN.{length, length-append}
use lib.Seq.{sets}
use Rattle.model.specs.Words.{low_bytes}
use Rattle.model.specs.Writer.{field_of}
use Rattle.model.proofs.Writer.Bytes.{low_length}
use Rattle.writer.proofs.Storing.{part_behind}

-- a field behind what is stored
pub field_behind : (l xs : List ℕ) (tag n : ℕ) (value : List ℕ) → length value ≡ n → {before headed after : List ℕ} {place next : ℕ}
    → before ≡ sets l 0 xs → length xs ≡ place → next ≡ place + 3
    → headed ≡ sets before place (tag ∷ low_bytes 2 n) → after ≡ sets headed next value → after ≡ sets l 0 (xs ++ field_of tag value)
field_behind l xs tag n value long is-before is-place is_next is-headed is_after =
    let head : List ℕ = tag ∷ low_bytes 2 n in
    let headed-is = part_behind l 0 xs head is-before (omega (arith, is-place)) is-headed in
    part_behind l 0 (xs ++ head) value headed-is (omega (arith, is-place, is_next, length-append xs head, low_length 2 n)) is_after
    ∙ ap (sets l 0) (append_assoc xs head value)
    ∙ ap (λ (m : ℕ). sets l 0 (xs ++ (tag ∷ (low_bytes 2 m ++ value)))) (sym long)

-- bytes of what is made of each row
pub flat_of_map : {A B : Type 0} (f : B → List ℕ) (g : A → B) (xs : List A) → flat_map (λ x. f (g x)) xs ≡ flat_map f (map g xs)
unfolding flat_map
flat_of_map f g [] = refl
flat_of_map f g (x ∷ xs) = ap (λ (l : List ℕ). f (g x) ++ l) (flat_of_map f g xs)
