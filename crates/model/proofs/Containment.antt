-- Rule 10 on wrapped addresses: what an access that it allows reaches for lies in the region and guard zones.
-- Assumes nothing.
use Prim.Native.Nat.{ℕ, zero, suc, ◌+◌, ◌-◌, ◌*◌, ◌≤◌, ◌<◌}
use mathlib.Core.Path.{◌≡◌}
use mathlib.Core.Bool.{true}
use mathlib.Core.Logic.{◌⊎◌, inl, inr}
use mathlib.Core.List.Memᴰ
use mathlib.Core.List.{List, Memᴰ}
use native.Mathlib.Omega.{arith}
use lib.IntN.{ℤ, pos, negsuc, ◌+ℤ◌}
use borrow.Author.Tests.{le-leb}
use Rattle.model.specs.declared.Layout.{Layout}
use Rattle.model.specs.declared.Ranges.{Ranges}
use Rattle.model.specs.declared.Width.{Width}
use Rattle.model.specs.declared.Width.TheVariants.{One, Two, Four}
use Rattle.model.specs.Words.{modulus, wrap}
use Rattle.model.specs.Ranges.{low, high}
use Rattle.model.specs.Instructions.{bytes_of, reg, Access}
use Rattle.model.specs.Step.{address, in_zones, addresses_from}
use Rattle.model.specs.Rules.{LayoutKept, Allowed}
use Rattle.model.specs.Safety.{InZones}
use Rattle.model.specs.Accuracy.{Within}
use Rattle.model.proofs.RuleW.{Raisable, raised, raised_mono, raised_before, raised_after, sum_raisable, Signed32, signed32_raisable}
use Rattle.model.proofs.Values.{some_size}

-- an access moves a byte or more
pub some_bytes : (v : Width) → 0 < bytes_of v
some_bytes One = omega arith
some_bytes Two = omega arith
some_bytes Four = omega arith

-- and at most four
pub few_bytes : (v : Width) → bytes_of v ≤ 4
few_bytes One = omega arith
few_bytes Two = omega arith
few_bytes Four = omega arith

-- a word, raised, wraps to itself
wrap_raised : (z : ℤ) → modulus ≤ raised z → raised z < 2 * modulus → modulus + wrap z ≡ raised z
unfolding wrap
wrap_raised (pos n) above below = omega arith
wrap_raised (negsuc n) above below = absurd (omega arith)

addresses_between : (from n at : ℕ) → Memᴰ at (addresses_from from n) → (from ≤ at) × (at < from + n)
unfolding addresses_from
addresses_between from zero at m = absurd (Memᴰ.not-nil m)
addresses_between from (suc n) at m = first_or_later (λ q. addresses_between (suc from) n at q) (Memᴰ.cases_cons m)
  where
    first_or_later : (Memᴰ at (addresses_from (suc from) n) → (suc from ≤ at) × (at < suc from + n))
        → (at ≡ from) ⊎ Memᴰ at (addresses_from (suc from) n) → (from ≤ at) × (at < from + suc n)
    first_or_later later (inl q) = omega arith
    first_or_later later (inr q) = omega (arith, later q)

-- all bytes of an access, from its wrapped address on, lie in the zones
pub record AccessInZones (l : Layout) (rs : List ℕ) (ac : Access) : Type 0 where
  pub above : l.base - l.guard ≤ address ac rs
  pub below : address ac rs + bytes_of ac.width ≤ l.base + l.size + l.guard

module _ {l : Layout} {k : Ranges} {rs : List ℕ} {ac : Access} (lk : LayoutKept l) (w : Within k rs)
    (p8 : ac.pointer < 8) (s : Signed32 ac.displacement) (c : Allowed l k ac) where
  displacement_raisable : Raisable ac.displacement
  displacement_raisable = signed32_raisable ac.displacement s

  sum_at_least : modulus + (l.base - l.guard) ≤ reg rs ac.pointer + raised ac.displacement
  sum_at_least =
      let lowest : ℤ = pos (low k ac.pointer) +ℤ ac.displacement in
      omega (
        arith,
        raised_mono (pos (l.base - l.guard)) lowest c.lowest.le,
        raised_before (low k ac.pointer) ac.displacement displacement_raisable,
        w.low ac.pointer p8,
      )

  sum_at_most : reg rs ac.pointer + raised ac.displacement + (bytes_of ac.width - 1)
      ≤ modulus + (l.base + l.size - 1 + l.guard)
  sum_at_most =
      let highest : ℤ = pos (high k ac.pointer) +ℤ ac.displacement in
      let last : ℕ = bytes_of ac.width - 1 in
      omega (
        arith,
        raised_mono (highest +ℤ pos last) (pos (l.base + l.size - 1 + l.guard)) c.highest.le,
        raised_after highest last (sum_raisable (high k ac.pointer) ac.displacement displacement_raisable),
        raised_before (high k ac.pointer) ac.displacement displacement_raisable,
        w.high ac.pointer p8,
      )

  -- the exact sum is a word, so that wrapping leaves it
  pub address_exact : modulus + address ac rs ≡ reg rs ac.pointer + raised ac.displacement
  address_exact =
      omega (arith, sum, wrap_raised exact (omega (arith, sum, sum_at_least)) (omega (arith, sum, sum_at_most, lk.above, some_size lk)))
    where
      exact : ℤ
      exact = pos (reg rs ac.pointer) +ℤ ac.displacement

      sum : raised exact ≡ reg rs ac.pointer + raised ac.displacement
      sum = raised_before (reg rs ac.pointer) ac.displacement displacement_raisable

  -- rule 10 says so of whatever the pointer holds of its range
  pub contained_in_zones : AccessInZones l rs ac
  contained_in_zones = record {
    above = omega (arith, address_exact, sum_at_least);
    below = omega (arith, address_exact, sum_at_most, some_size lk, some_bytes ac.width);
  }

module _ {l : Layout} {rs : List ℕ} {ac : Access} (z : AccessInZones l rs ac) where
  -- every address that it reaches for is in the zones
  pub reached_in_zones : (at : ℕ) → Memᴰ at (addresses_from (address ac rs) (bytes_of ac.width)) → InZones l at
  reached_in_zones at m =
      let between = addresses_between (address ac rs) (bytes_of ac.width) at m in
      record { above = omega (arith, z.above, between.0); below = omega (arith, z.below, between.1) }

  -- and the step's test passes
  pub in_zones_passes : in_zones l (address ac rs) (bytes_of ac.width) ≡ true
  unfolding in_zones
  in_zones_passes = rw (le-leb _ _ z.above, le-leb _ _ z.below)
