-- Xorshift on 32 bits (Marsaglia, Xorshift RNGs), with the shifts 13, 17 and 5. Assumes nothing.
use Rattle.std.specs.Prelude.{ℕ, ◌*◌, ◌/◌, ◌%◌, ◌^◌, bit_xor}

-- a number and its shift to the left by k
abbrev pub left : ℕ → ℕ → ℕ
left k x = bit_xor x (x * 2 ^ k % 2 ^ 32)

-- and to the right
abbrev pub right : ℕ → ℕ → ℕ
right k x = bit_xor x (x / 2 ^ k)

-- the number after x
abbrev pub xorshift : ℕ → ℕ
xorshift x = left 5 (right 17 (left 13 x))
