-- Little-endian reads, for the crates above: what is read of two or four bytes is their sum, by the definition's steps, and a byte past
-- the end is 0. Assumes nothing.
use Rattle.std.proofs.Common.{◌≡◌, ℕ, zero, suc, ◌+◌, ◌*◌, ◌≤◌, List, length, get_or, sym, refl, add-one, arith}
use lib.ListN.{get_or-eq_default}
use Rattle.model.specs.Words.{read_bytes}

pub past_end : (bytes : List ℕ) (at : ℕ) → length bytes ≤ at → 0 ≡ get_or bytes at 0
past_end bytes at past = sym (get_or-eq_default bytes 0 past)

-- a read of any width that starts past the end
pub read_past_end : (n : ℕ) (bytes : List ℕ) (at : ℕ) → length bytes ≤ at → 0 ≡ read_bytes n bytes at
unfolding read_bytes
read_past_end zero bytes at past = refl
read_past_end (suc n) bytes at past = omega (arith, past_end bytes at past, read_past_end n bytes (suc at) (omega arith))

-- a number of two bytes from its bytes
pub two_bytes : (bytes : List ℕ) (at a b : ℕ) → a ≡ get_or bytes at 0 → b ≡ get_or bytes (at + 1) 0
    → (r : ℕ) → r ≡ a + 256 * b → r ≡ read_bytes 2 bytes at
unfolding read_bytes
two_bytes bytes at a b first second r made = omega (arith, rw add-one at second)

-- a number of four bytes from its bytes
pub four_bytes : (bytes : List ℕ) (at a b : ℕ) → a ≡ get_or bytes at 0 → b ≡ get_or bytes (at + 1) 0
    → (c d r : ℕ) → c ≡ get_or bytes (at + 2) 0 → d ≡ get_or bytes (at + 3) 0
    → r ≡ a + 256 * b + 65536 * c + 16777216 * d → r ≡ read_bytes 4 bytes at
unfolding read_bytes
four_bytes bytes at a b first second c d r third fourth made =
    let two : at + 2 ≡ suc (suc at) = omega arith in
    let three : at + 3 ≡ suc (suc (suc at)) = omega arith in
    omega (arith, rw add-one at second, rw two at third, rw three at fourth)
