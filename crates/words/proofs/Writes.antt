-- The low bytes of a number, put in place of those from an offset on, are the number written. Assumes nothing.
use Rattle.std.proofs.Common.{◌≡◌, ℕ, zero, suc, ◌+◌, ◌-◌, ◌/◌, ◌%◌, ◌^◌, ◌<◌, ◌≤◌, List, [], ◌∷◌, ◌++◌, length, set, take, drop, sym, refl, ap, ap₂, ◌∙◌, add-zero, div-one, append_assoc, length-set, arith, w32}
use Rattle.std.proofs.Math.Seq.{take-suc-set}
use Rattle.std.proofs.lemmas.List.{take-append-drop, drop-set-lt, set_past}
use Rattle.std.specs.Int.{byte_at, bytes_low_first, to_le_bytes}
use native.Mathlib.Nat.{div-div-eq-div-mul, pow-suc, pow-succ'}
use borrow.Rule.Slice.PartMut.{put_mid, Post-is}
use Rattle.model.specs.Words.{low_bytes, write_bytes}

-- the lowest bytes of a number, as the library takes them
low_first : (n k i x : ℕ) → n ≤ k → take n (bytes_low_first i k x) ≡ low_bytes n (x / 256 ^ i)
unfolding low_bytes
low_first zero k i x few = refl
low_first (suc n) zero i x few = absurd (omega arith)
low_first (suc n) (suc k) i x few =
    let shifted : x / 256 ^ i / 256 ≡ x / 256 ^ suc i = rw pow-suc (div-div-eq-div-mul x (256 ^ i) 256) in
    rw shifted (ap₂ ◌∷◌ (first i) (low_first n k (suc i) x (omega arith)))
  where
    first : (i : ℕ) → byte_at i x ≡ x / 256 ^ i % 256
    first zero = rw div-one refl
    first (suc i) = refl

-- put in place of as many bytes
written : (n x : ℕ) (bytes : List ℕ) (at : ℕ) → at + n ≤ length bytes
    → take at bytes ++ (low_bytes n x ++ drop (at + n) bytes) ≡ write_bytes n x bytes at
unfolding low_bytes write_bytes
written zero x bytes at fits = rw add-zero (take-append-drop at bytes)
written (suc n) x bytes at fits =
    let next = written n (x / 256) (set bytes at (x % 256)) (suc at) (omega (arith, length-set bytes at (x % 256))) in
    let front = take-suc-set bytes at (x % 256) (omega arith) in
    let back = drop-set-lt (suc at + n) bytes at (x % 256) (omega arith) in
    let place : at + suc n ≡ suc at + n = omega arith in
    rw place (sym (append_assoc (take at bytes) (x % 256 ∷ []) _) ∙ rw (front, back) at next)

pub put_written : (n x : ℕ) (bytes put : List ℕ) (at : ℕ) → n ≤ 4 → at + n ≤ length bytes → put ≡ take n (to_le_bytes w32 x)
    → put_mid at (at + n - at) bytes put ≡ write_bytes n x bytes at
put_written n x bytes put at few fits is =
    ap₂ (λ (p q : List ℕ). take at bytes ++ (p ++ q))
    (is ∙ low_first n 4 0 x few ∙ ap (low_bytes n) (div-one x))
    (Post-is at (at + n) bytes (omega arith))
    ∙ written n x bytes at fits

-- ---- bytes that are each set by themselves

-- a write that goes on by one byte
writes_next : (n x : ℕ) (bytes : List ℕ) (at : ℕ)
    → set (write_bytes n x bytes at) (at + n) (x / 256 ^ n % 256) ≡ write_bytes (suc n) x bytes at
unfolding write_bytes
writes_next zero x bytes at = rw (add-zero, div-one)
writes_next (suc n) x bytes at =
    let shifted : x / 256 ^ suc n ≡ x / 256 / 256 ^ n = rw pow-succ' (sym (div-div-eq-div-mul x 256 (256 ^ n))) in
    let place : at + suc n ≡ suc at + n = omega arith in
    rw (shifted, place) (writes_next n (x / 256) (set bytes at (x % 256)) (suc at))

-- n + 1 bytes, each set by itself
abbrev pub set_bytes : ℕ → ℕ → List ℕ → ℕ → List ℕ
set_bytes zero x bytes at = set bytes at (x % 256)
set_bytes (suc n) x bytes at = set (set_bytes n x bytes at) (at + suc n) (x / 256 ^ suc n % 256)

pub writes : (n x : ℕ) (bytes : List ℕ) (at : ℕ) → set_bytes n x bytes at ≡ write_bytes (suc n) x bytes at
unfolding write_bytes
writes zero x bytes at = refl
writes (suc n) x bytes at =
    ap (λ (bs : List ℕ). set bs (at + suc n) (x / 256 ^ suc n % 256)) (writes n x bytes at) ∙ writes_next (suc n) x bytes at

-- the first of the bytes that are left, set by itself
pub write_first : (n i x : ℕ) (bytes : List ℕ) (at : ℕ) → i < n
    → write_bytes (n - (i + 1)) (x / 256) (set bytes (at + i) (x % 256)) (at + (i + 1)) ≡ write_bytes (n - i) x bytes (at + i)
unfolding write_bytes
write_first n i x bytes at below =
    let left : n - i ≡ suc (n - (i + 1)) = omega arith in
    let place : at + (i + 1) ≡ suc (at + i) = omega arith in
    rw (left, place) refl

-- a write of bytes that all lie past the end, or of none
pub write_past : (n x : ℕ) (bytes : List ℕ) (at : ℕ) → (0 < n → length bytes ≤ at) → write_bytes n x bytes at ≡ bytes
unfolding write_bytes
write_past zero x bytes at past = refl
write_past (suc n) x bytes at past =
    let out = past (omega arith) in
    rw (set_past bytes at (x % 256) out) (write_past n (x / 256) bytes (suc at) (λ some. omega arith))
