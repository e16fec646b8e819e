-- Words and bytes. A word is a number below 2^32; a sum or difference that has not wrapped yet is a whole number (ℤ).
-- Assumes nothing.
use Rattle.std.specs.Prelude.{ℕ, zero, suc, ◌+◌, ◌-◌, ◌*◌, ◌/◌, ◌%◌, ◌^◌, min, cond, List, [], ◌∷◌, ltb, ℤ, pos, negsuc, get_or, set}
use Rattle.std.proofs.Math.IntN.{sub_ℕ}
use Rattle.std.specs.Int.Signed.{shr_z}

-- 2^32, the number at which machine arithmetic wraps
abbrev pub modulus : ℕ
modulus = 0x1_0000_0000

-- the greatest word
abbrev pub top : ℕ
top = 0xFFFF_FFFF

-- "In machine arithmetic all sums and differences wrap at 2^32."
unfoldable pub wrap : ℤ → ℕ
wrap (pos n) = n % modulus
wrap (negsuc n) = modulus - suc (n % modulus)

-- "'Signed reading' is two's complement."
unfoldable pub signed : ℕ → ℤ
signed x = cond (ltb x 0x8000_0000) (pos x) (negsuc (modulus - suc x))

-- the same of a number whose sign bit is worth `half`: from half on, less by twice that
unfoldable pub signed_from : ℕ → ℕ → ℤ
signed_from half x = cond (ltb x half) (pos x) (sub_ℕ x (half + half))

-- "An arithmetic shift divides the signed reading by 2^w, rounded down."
unfoldable pub arithmetic_shift : ℕ → ℕ → ℕ
arithmetic_shift x w = wrap (shr_z (signed x) (2 ^ w))

-- "bitwise and", of the lowest n bits
unfoldable pub bitwise_and : ℕ → ℕ → ℕ → ℕ
bitwise_and zero x y = 0
bitwise_and (suc n) x y = bitwise_and n (x / 2) (y / 2) * 2 + min (x % 2) (y % 2)

-- "All numbers are unsigned and little-endian unless called signed.": the n bytes from an offset on, as a number;
-- a byte past the end reads as 0
unfoldable pub read_bytes : ℕ → List ℕ → ℕ → ℕ
read_bytes zero bytes at = 0
read_bytes (suc n) bytes at = get_or bytes at 0 + 256 * read_bytes n bytes (suc at)

-- the low n bytes of a number
unfoldable pub low_bytes : ℕ → ℕ → List ℕ
low_bytes zero x = []
low_bytes (suc n) x = x % 256 ∷ low_bytes n (x / 256)

-- and written from an offset on
unfoldable pub write_bytes : ℕ → ℕ → List ℕ → ℕ → List ℕ
write_bytes zero x bytes at = bytes
write_bytes (suc n) x bytes at = write_bytes n (x / 256) (set bytes at (x % 256)) (suc at)
