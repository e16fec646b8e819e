-- The layout: what is read is the layout of the bytes, the sizes that the code lists are those of the definition, and each test
-- of the code is one of the definition's. Assumes nothing.
use Prim.Native.Nat.{ℕ, zero, suc, ◌+◌, ◌%◌, ◌^◌, ◌≤◌, ◌<◌}
use mathlib.Core.Path.{◌≡◌, sym}
use mathlib.Core.Logic.{◌⊎◌, inl, inr}
use mathlib.Core.Bool.{true, false, false≢true}
use mathlib.Core.List.{List}
use native.Mathlib.Decide.{ℕ_discrete}
use native.Mathlib.Omega.{arith}
use borrow.Author.Tests.{le-leb, lt-leb, eq-eqb, ne_eqb}
use lib.Dec.{leb}
use Rattle.model.specs.declared.Layout.{Layout}
use Rattle.model.specs.Quantifiers.{any_below}
use Rattle.model.specs.Words.{modulus, read_bytes}
use Rattle.model.specs.File.{layout_of, is_region_size, is_layout}
use Rattle.model.proofs.Reflection.{Reflects, eq_reflects, any_below_reflects}
use Rattle.model.proofs.Loops.{fails}

pub layout_is : (bytes : List ℕ) (b s g : ℕ) → b ≡ read_bytes 4 bytes 0 → s ≡ read_bytes 4 bytes 4 → g ≡ read_bytes 4 bytes 8
    → record { base = b; size = s; guard = g } ≡ layout_of bytes
layout_is bytes b s g base size guard = rw (base, size, guard)

-- P of i, or of i + 1, and so on up to i + n
abbrev pub OneFrom : (ℕ → Type 0) → ℕ → ℕ → Type 0
OneFrom P i zero = P i
OneFrom P i (suc n) = P i ⊎ OneFrom P (suc i) n

one_from : (P : ℕ → Type 0) (i n : ℕ) → OneFrom P i n → (k : ℕ) × (k < i + suc n) × P k
one_from P i zero here = (i, omega arith, here)
one_from P i (suc n) (inl here) = (i, omega arith, here)
one_from P i (suc n) (inr later) = let w = one_from P (suc i) n later in (w.0, omega (arith, w.1), w.2)

from_one : (P : ℕ → Type 0) (i n k : ℕ) → i ≤ k → k ≤ i + n → P k → OneFrom P i n
from_one P i zero k least most holds = let only : k ≡ i = omega arith in rw only at holds
from_one P i (suc n) k least most holds =
    here_or_later (λ above. from_one P (suc i) n k above (omega arith) holds) (ℕ_discrete k i)
  where
    here_or_later : (suc i ≤ k → OneFrom P (suc i) n) → Dec (k ≡ i) → OneFrom P i (suc n)
    here_or_later later (yes e) = inl (rw e at holds)
    here_or_later later (no e) = inr (later (omega arith))

-- 256, or 512, and so on, as the code lists them
abbrev pub RegionSize : ℕ → Type 0
RegionSize size = OneFrom (λ k. size ≡ 2 ^ (8 + k)) 0 8

sizes_reflect : (size : ℕ) → Reflects (is_region_size size) (RegionSize size)
sizes_reflect size = (
  λ e. let w = powers.0 e in from_one (λ k. size ≡ 2 ^ (8 + k)) 0 8 w.0 (omega arith) (omega (arith, w.1)) w.2,
  λ listed. let w = one_from (λ k. size ≡ 2 ^ (8 + k)) 0 8 listed in powers.1 (w.0, omega (arith, w.1), w.2),
)
  where
    powers : Reflects (is_region_size size) ((k : ℕ) × (k < 9) × (size ≡ 2 ^ (8 + k)))
    powers = any_below_reflects 9 (λ k. eq_reflects size (2 ^ (8 + k)))

pub size_listed : (size : ℕ) → RegionSize size → true ≡ is_region_size size
size_listed size listed = sym ((sizes_reflect size).1 listed)

pub size_unlisted : (size : ℕ) → (RegionSize size → ⊥) → false ≡ is_region_size size
size_unlisted size unlisted = sym (fails (sizes_reflect size) unlisted)

-- a region has a size that can divide
pub region_size_positive : (size : ℕ) → is_region_size size ≡ true → 0 < size
unfolding any_below
region_size_positive zero e = absurd (false≢true e)
region_size_positive (suc n) e = omega arith

-- the tests of a layout, one after the other
module _ (l : Layout) where
  pub bad_size : is_region_size l.size ≡ false → false ≡ is_layout l
  unfolding is_layout
  bad_size unlisted = sym (rw unlisted)

  module _ (listed : is_region_size l.size ≡ true) where
    pub wide_guard : 4096 < l.guard → false ≡ is_layout l
    unfolding is_layout
    wide_guard wide = sym (rw (listed, lt-leb l.guard 4096 wide))

    module _ (narrow : l.guard ≤ 4096) where
      pub unaligned : (l.base % l.size ≡ 0 → ⊥) → false ≡ is_layout l
      unfolding is_layout
      unaligned rest = sym (rw (listed, le-leb l.guard 4096 narrow, ne_eqb (l.base % l.size) 0 rest))

      module _ (aligned : l.base % l.size ≡ 0) where
        pub low_base : l.base < l.guard → false ≡ is_layout l
        unfolding is_layout
        low_base low = sym (rw (listed, le-leb l.guard 4096 narrow, eq-eqb (l.base % l.size) 0 aligned, lt-leb l.guard l.base low))

        pub high_end : l.guard ≤ l.base → leb (l.base + l.size + l.guard) modulus ≡ is_layout l
        unfolding is_layout
        high_end high = sym (rw (listed, le-leb l.guard 4096 narrow, eq-eqb (l.base % l.size) 0 aligned, le-leb l.guard l.base high))
