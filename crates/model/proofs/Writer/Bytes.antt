-- A number's low bytes: as many as asked for, and bytes; a number that they can hold is read from them, and what was read among bytes is
-- written as the bytes it was read from. Assumes nothing.
use Prim.Native.Nat.{ℕ, zero, suc, ◌+◌, ◌*◌, ◌/◌, ◌%◌, ◌^◌, ◌≤◌, ◌<◌}
use mathlib.Core.Path.{◌≡◌, refl, sym, ap, ◌∙◌}
use mathlib.Core.List.{List, [], ◌∷◌, ◌++◌, flat_map}
use native.Mathlib.Omega.{arith}
use native.Mathlib.Nat.{pow-suc, add-zero, add-suc}
use lib.ListN.{length, get_or, take, drop}
use lib.Seq.{get_or-drop, get_or-take, drop-cons}
use Rattle.model.specs.Words.{read_bytes, low_bytes}
use Rattle.model.specs.Promises.{AreBytes}
use Rattle.model.proofs.Writing.{same_number}

-- ---- lists of bytes

pub bytes_cons : (x : ℕ) (xs : List ℕ) → x < 256 → AreBytes xs → AreBytes (x ∷ xs)
bytes_cons x xs first rest zero = first
bytes_cons x xs first rest (suc i) = rest i

pub bytes_append : (xs ys : List ℕ) → AreBytes xs → AreBytes ys → AreBytes (xs ++ ys)
bytes_append [] ys first rest i = rest i
bytes_append (x ∷ xs) ys first rest zero = first 0
bytes_append (x ∷ xs) ys first rest (suc i) = bytes_append xs ys (λ j. first (suc j)) rest i

pub bytes_each : {A : Type 0} (f : A → List ℕ) → ((x : A) → AreBytes (f x)) → (xs : List A) → AreBytes (flat_map f xs)
unfolding flat_map
bytes_each f each [] i = omega arith
bytes_each f each (x ∷ xs) i = bytes_append (f x) (flat_map f xs) (each x) (bytes_each f each xs) i

pub bytes_low : (n x : ℕ) → AreBytes (low_bytes n x)
unfolding low_bytes
bytes_low zero x i = omega arith
bytes_low (suc n) x i = bytes_cons (x % 256) (low_bytes n (x / 256)) (omega arith) (bytes_low n (x / 256)) i

-- ---- numbers

pub low_length : (n x : ℕ) → length (low_bytes n x) ≡ n
unfolding low_bytes
low_length zero x = refl
low_length (suc n) x = ap suc (low_length n (x / 256))

-- a number is read from its own stretch of bytes
read_drop : (n k : ℕ) (bytes : List ℕ) (at : ℕ) → read_bytes n (drop k bytes) at ≡ read_bytes n bytes (k + at)
unfolding read_bytes
read_drop zero k bytes at = refl
read_drop (suc n) k bytes at = rw (get_or-drop, read_drop n k bytes (suc at), add-suc)

read_stretch : (n : ℕ) (bytes : List ℕ) (at : ℕ) → read_bytes n bytes at ≡ read_bytes n (take n (drop at bytes)) 0
read_stretch n bytes at =
    ap (read_bytes n bytes) (sym (add-zero at))
    ∙ sym (read_drop n at bytes 0)
    ∙ same_number n (drop at bytes) (take n (drop at bytes)) 0 (λ i _ below. sym (get_or-take n (drop at bytes) i 0 (omega arith)))

-- what is written is read
low_read : (n x : ℕ) → x < 256 ^ n → read_bytes n (low_bytes n x) 0 ≡ x
unfolding read_bytes low_bytes
low_read zero x small = omega arith
low_read (suc n) x small =
    let less : x < 256 ^ n * 256 = rw (pow-suc 256 n) at small in
    omega (arith, read_drop n 1 (x % 256 ∷ low_bytes n (x / 256)) 0, low_read n (x / 256) (omega arith))

pub number_read : (n x : ℕ) (bytes : List ℕ) (at : ℕ) → x < 256 ^ n → take n (drop at bytes) ≡ low_bytes n x → read_bytes n bytes at ≡ x
number_read n x bytes at small stands = read_stretch n bytes at ∙ ap (λ (l : List ℕ). read_bytes n l 0) stands ∙ low_read n x small

-- and what is read is written
pub number_written : (n : ℕ) (bytes : List ℕ) (at : ℕ) → AreBytes bytes → at + n ≤ length bytes
    → take n (drop at bytes) ≡ low_bytes n (read_bytes n bytes at)
unfolding read_bytes low_bytes
number_written zero bytes at small fits = refl
number_written (suc n) bytes at small fits =
    let number : ℕ = get_or bytes at 0 + 256 * read_bytes n bytes (suc at) in
    let lowest : number % 256 ≡ get_or bytes at 0 = omega (arith, small at) in
    let others : number / 256 ≡ read_bytes n bytes (suc at) = omega (arith, small at) in
    let inside : at < length bytes = omega arith in
    rw (lowest, others, drop-cons bytes at 0, number_written n bytes (suc at) small (omega arith))
