-- Where the bytes of an access lie: each way through the code is the definition's, by its tests, and what lies inside the region
-- fits there. Assumes nothing.
use Rattle.std.specs.Prelude.{◌≡◌, ℕ, suc, ◌+◌, ◌-◌, ◌%◌, ◌<◌, ◌≤◌, Bool, true, false, cond, ◌&&◌, ltb, leb, List, length, ℤ, Result, Ok, Err}
use mathlib.Core.Path.{refl, ap, ◌∙◌}
use native.Mathlib.Nat.{add-zero, sub-zero}
use native.Mathlib.Omega.{arith}
use borrow.Author.Tests.{leb-true, le-leb, lt-leb, ltb-true, ltb-false}
use lib.IntN.{sub_ℕ}
use Rattle.model.specs.declared.Layout.{Layout}
use Rattle.model.specs.declared.Width.{Width}
use Rattle.model.specs.declared.Ending.{Ending}
use Rattle.model.specs.Words.{modulus, wrap}
use Rattle.model.specs.Instructions.{bytes_of}
use Rattle.model.specs.Rules.{LayoutKept}
use Rattle.model.specs.Step.{in_region, in_zones, Effect, ends, accessing}
use Rattle.model.proofs.Tests.{by_cond, and_left, and_right, same_order}
use Rattle.model.proofs.Values.{least_size}
use Rattle.model.proofs.Containment.{some_bytes, few_bytes}
use Rattle.machine.specs.Core.{reach_of}

-- ---- the reach of an access, by distances

-- how far an address lies above the lowest byte, wrapped, tells what the two sums tell: of region and guard zones, and with
-- guard 0 of the region alone
by_distance : (base size guard w at : ℕ) → guard ≤ base → base + size + guard ≤ modulus → 0 < w → w ≤ size → at < modulus
    → leb (wrap (sub_ℕ at (base - guard))) (size + guard + guard - w) ≡ leb (base - guard) at && leb (at + w) (base + size + guard)
unfolding wrap
by_distance base size guard w at below above some room word =
    by_cond (λ (distance : ℤ). leb (wrap distance) (size + guard + guard - w) ≡ leb (base - guard) at && leb (at + w) (base + size + guard))
    (ltb at (base - guard))
    (λ less.
    let under : at < base - guard = ltb-true at (base - guard) less in
    rw (lt-leb (base - guard) at under)
    (lt-leb (modulus - suc ((base - guard - suc at) % modulus)) (size + guard + guard - w) (omega arith)))
    (λ least.
    let over : base - guard ≤ at = ltb-false at (base - guard) least in
    rw (le-leb (base - guard) at over)
    (same_order ((at - (base - guard)) % modulus) (size + guard + guard - w) (at + w) (base + size + guard)
    (λ h. omega arith) (λ h. omega arith)))

module _ {l : Layout} (kept : LayoutKept l) (at : ℕ) (word : at < modulus) (w : Width) where
  pub region_by_distance : leb (wrap (sub_ℕ at l.base)) (l.size - bytes_of w) ≡ in_region l at (bytes_of w)
  unfolding in_region
  region_by_distance =
      simp (add-zero, sub-zero) at
      (by_distance l.base l.size 0 (bytes_of w) at (omega arith) (omega (arith, kept.above)) (some_bytes w)
      (omega (arith, few_bytes w, least_size kept)) word)

  pub zones_by_distance
      : leb (wrap (sub_ℕ at (l.base - l.guard))) (l.size + l.guard + l.guard - bytes_of w) ≡ in_zones l at (bytes_of w)
  unfolding in_zones
  zones_by_distance =
      by_distance l.base l.size l.guard (bytes_of w) at kept.below kept.above (some_bytes w)
      (omega (arith, few_bytes w, least_size kept)) word

-- what lies in the region lies at the base or above
pub from_base : (l : Layout) (at w : ℕ) → in_region l at w ≡ true → l.base ≤ at
unfolding in_region
from_base l at w inside = leb-true l.base at (and_left _ _ inside)

-- ---- what is known of an access whose reach is known

-- what comes of an access, by where it lies
abbrev pub outcome : Result ℕ Ending → Effect → Effect
outcome (Ok offset) done = done
outcome (Err e) done = ends e

module _ (l : Layout) (at : ℕ) (w : Width) where
  pub access_is : {reach : Result ℕ Ending} → reach_of l at w ≡ reach → (done : Effect) → accessing l at w done ≡ outcome reach done
  unfolding accessing reach_of
  access_is is done = by_test (in_region l at (bytes_of w)) _ ∙ ap (λ (r : Result ℕ Ending). outcome r done) is
    where
      by_test : (a : Bool) (e : Ending) → cond a done (ends e) ≡ outcome (cond a (Ok (at - l.base)) (Err e)) done
      by_test true e = refl
      by_test false e = refl

  module _ (offset : ℕ) (inside : reach_of l at w ≡ Ok offset) where
    tested_inside : (in_region l at (bytes_of w) ≡ true) × (offset ≡ at - l.base)
    unfolding reach_of
    tested_inside = by_test (in_region l at (bytes_of w)) _ inside
      where
        by_test : (a : Bool) (e : Ending) → cond a (Ok (at - l.base)) (Err e) ≡ Ok offset → (a ≡ true) × (offset ≡ at - l.base)
        by_test true x e = (refl, (cc))
        by_test false x e = absurd (let impossible : ◌≡◌ {A = ℕ} 0 1 = cc in omega arith)

    pub offset_is : offset ≡ at - l.base
    offset_is = tested_inside.1

    -- the bytes lie in a region of the layout's size
    pub inside_fits : (bytes : List ℕ) → length bytes ≡ l.size → offset + bytes_of w ≤ length bytes
    unfolding in_region
    inside_fits bytes room =
        let stops : leb (at + bytes_of w) (l.base + l.size) ≡ true = and_right (leb l.base at) _ tested_inside.0 in
        omega (arith, offset_is, from_base l at (bytes_of w) tested_inside.0, leb-true (at + bytes_of w) (l.base + l.size) stops)
