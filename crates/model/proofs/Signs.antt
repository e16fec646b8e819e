-- A sign that is carried up (`SignCarried`): the word's signed reading is the sample's. Assumes nothing.
use Prim.Native.Nat.{ℕ, suc, ◌+◌, ◌-◌, ◌%◌, ◌≤◌, ◌<◌}
use mathlib.Core.Path.{◌≡◌}
use native.Mathlib.Omega.{arith}
use borrow.Author.Tests.{lt-ltb, le-ltb, ltb-true, ltb-false}
use lib.Dec.{ltb}
use lib.IntN.{ℤ, pos, negsuc}
use Rattle.model.specs.Words.{modulus, wrap, signed, signed_from}
use Rattle.model.specs.Instructions.{carried}
use Rattle.model.specs.Promises.{SignCarried}
use Rattle.model.proofs.Tests.{by_cond}
use Rattle.model.proofs.RuleW.{Signed32}

-- a signed number of 32 bits is the reading of its word
wrapped_back : (z : ℤ) → Signed32 z → signed (wrap z) ≡ z
unfolding signed wrap
wrapped_back (pos n) s =
    let same : n % modulus ≡ n = omega arith in
    rw (same, lt-ltb n 0x8000_0000 s)
wrapped_back (negsuc n) s =
    let word : modulus - suc (n % modulus) ≡ modulus - suc n = omega arith in
    let back : modulus - suc (modulus - suc n) ≡ n = omega arith in
    rw (word, le-ltb (modulus - suc n) 0x8000_0000 (omega arith), back)

-- and so is that of a number of fewer bits
reading_small : (half raw : ℕ) → half ≤ 0x8000_0000 → raw < half + half → Signed32 (signed_from half raw)
unfolding signed_from
reading_small half raw short below =
    by_cond Signed32 (ltb raw half)
    (λ clear. omega (arith, ltb-true raw half clear))
    (λ set. by_cond Signed32 (ltb raw (half + half)) (λ less. omega (arith, ltb-false raw half set)) (λ least. omega (arith, ltb-false raw (half + half) least)))

pub sign_carried : SignCarried
unfolding carried signed signed_from
sign_carried = record {
  one = λ raw below. wrapped_back (signed_from 0x80 raw) (reading_small 0x80 raw (omega arith) below);
  two = λ raw below. wrapped_back (signed_from 0x8000 raw) (reading_small 0x8000 raw (omega arith) below);
  word = λ x below. rw (lt-ltb x modulus below);
}
