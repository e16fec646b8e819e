-- Rules N and B: what they cut away, the registers do not hold; and what rule N cuts to. Assumes nothing.
use Prim.Native.Nat.{ℕ, ◌+◌, ◌-◌, ◌≤◌, ◌<◌}
use mathlib.Core.Path.{◌≡◌}
use mathlib.Core.Logic.Iff
use mathlib.Core.Logic.{◌↔◌}
use mathlib.Core.Bool.{Bool, true, false}
use mathlib.Core.List.{List}
use native.Mathlib.Omega.{arith}
use lib.Dec.{leb, eqb}
use lib.IntN.{ℤ, pos, negsuc, ◌+ℤ◌, ◌-ℤ◌, sub_ℕ}
use lib.Signed.{◌≤ℤ◌, le_z_yes}
use borrow.Author.Tests.{ltb-true, ltb-false, leb-true, eqb-true}
use Rattle.model.specs.declared.Layout.{Layout}
use Rattle.model.specs.declared.Range.{Range}
use Rattle.model.specs.declared.Ranges.{Ranges}
use Rattle.model.specs.declared.Test.{Test}
use Rattle.model.specs.declared.Test.TheVariants.{Equal, Below, SignedBelow}
use Rattle.model.specs.declared.Width.{Width}
use Rattle.model.specs.Words.{modulus}
use Rattle.model.specs.Ranges.{range_of, region_range, between, cut_for, rule_b}
use Rattle.model.specs.Instructions.{bytes_of, holds, reg, Access, pointers_into, rule_n}
use Rattle.model.specs.Step.{address, in_region}
use Rattle.model.specs.Rules.{LayoutKept, Allowed}
use Rattle.model.specs.Safety.{EightWords}
use Rattle.model.specs.Accuracy.{Within, PointersExact}
use Rattle.model.proofs.Tests.{by_cond, and_left, and_right}
use Rattle.model.proofs.Registers.{In, InBoth, within_narrow, in_cut, in_cut_both}
use Rattle.model.proofs.RuleW.{raised, raised_mono, raised_tells, raised_difference, raised_before, raised_less, Signed32, signed32_raisable, signed32_raised}
use Rattle.model.proofs.Containment.{some_bytes, few_bytes, address_exact}

-- what lies from one whole number to another
between_raised : (first last : ℤ) (x : ℕ) → In (between first last) x ↔ ((raised first ≤ modulus + x) × (modulus + x ≤ raised last))
unfolding between
between_raised (pos n) (pos m) x = (λ i. omega (arith, i), λ h. omega (arith, h))
between_raised (negsuc n) (pos m) x = (λ i. omega (arith, i), λ h. omega (arith, h))
between_raised first (negsuc m) x = (λ i. absurd (omega (arith, i)), λ h. absurd (omega (arith, h)))

-- the pointers of rule N, by their exact sums with the displacement, raised
module _ (region : Range) (w : Width) (imm : ℤ) (x : ℕ) (s : Signed32 imm) where
  abbrev last : ℤ
  last = sub_ℕ region.high (bytes_of w - 1)

  last_near : modulus ≤ raised last + 3
  last_near = omega (arith, raised_difference region.high (bytes_of w - 1), few_bytes w)

  pub pointers_raised : In (pointers_into region w imm) x ↔ ((modulus + region.low ≤ x + raised imm) × (x + raised imm ≤ raised last))
  pointers_raised =
      let lowest = raised_less (pos region.low) imm (omega arith) s in
      let highest = raised_less last imm (omega (arith, last_near)) s in
      Iff.trans (between_raised (pos region.low -ℤ imm) (last -ℤ imm) x) (
        λ h. (omega (arith, lowest, h.0), omega (arith, highest, h.1)),
        λ h. (omega (arith, lowest, h.0), omega (arith, highest, h.1)),
      )

  sum_raised : raised (pos x +ℤ imm) ≡ x + raised imm
  sum_raised = raised_before x imm (signed32_raisable imm s)

  pointers_exactly : In (pointers_into region w imm) x ↔ ((pos region.low ≤ℤ (pos x +ℤ imm)) × ((pos x +ℤ imm) ≤ℤ last))
  pointers_exactly =
      let some = (signed32_raised imm s).0 in
      Iff.trans pointers_raised (
        λ h. (
          le_z_yes (raised_tells (pos region.low) (pos x +ℤ imm) (omega (arith, sum_raised, some)) (omega (arith, sum_raised, h.0))),
          le_z_yes (raised_tells (pos x +ℤ imm) last (omega (arith, last_near)) (omega (arith, sum_raised, h.1))),
        ),
        λ h. (
          omega (arith, sum_raised, raised_mono (pos region.low) (pos x +ℤ imm) h.0.le),
          omega (arith, sum_raised, raised_mono (pos x +ℤ imm) last h.1.le),
        ),
      )

pub pointers_exact : PointersExact
pointers_exact = record { exact = pointers_exactly }

module _ {k : Ranges} {rs : List ℕ} (w : Within k rs) (ws : EightWords rs) where
  -- rule N, after an access that was done and keeps 10
  pub within_rule_n : {l : Layout} {ac : Access} → LayoutKept l → ac.pointer < 8 → Signed32 ac.displacement → Allowed l k ac
      → in_region l (address ac rs) (bytes_of ac.width) ≡ true → Within (rule_n (region_range l) ac k) rs
  unfolding rule_n in_region
  within_rule_n {l} {ac} lk p8 s allowed done =
      within_narrow w ws ac.pointer p8 _
      (in_cut (w.low ac.pointer p8, w.high ac.pointer p8)
      ((pointers_raised (region_range l) ac.width ac.displacement (reg rs ac.pointer) s).1 in_region_lem))
    where
      end : ℕ
      end = address ac rs + bytes_of ac.width

      above : l.base ≤ address ac rs
      above = leb-true _ _ (and_left (leb l.base (address ac rs)) (leb end (l.base + l.size)) done)

      below : end ≤ l.base + l.size
      below = leb-true _ _ (and_right (leb l.base (address ac rs)) (leb end (l.base + l.size)) done)

      in_region_lem : (modulus + l.base ≤ reg rs ac.pointer + raised ac.displacement)
          × (reg rs ac.pointer + raised ac.displacement ≤ raised (sub_ℕ (l.base + l.size - 1) (bytes_of ac.width - 1)))
      in_region_lem =
          let exact = address_exact lk w p8 s allowed in
          let difference = raised_difference (l.base + l.size - 1) (bytes_of ac.width - 1) in
          (omega (arith, exact, above), omega (arith, exact, difference, below, some_bytes ac.width))

  module _ (a b : ℕ) (a8 : a < 8) (b8 : b < 8) where
    held_a : In (range_of k a) (reg rs a)
    held_a = (w.low a a8, w.high a a8)

    held_b : In (range_of k b) (reg rs b)
    held_b = (w.low b b8, w.high b b8)

    in_cut_for : (test : Test) (taken : Bool) → holds test (reg rs a) (reg rs b) ≡ taken
        → InBoth (cut_for test taken (range_of k a) (range_of k b)) (reg rs a) (reg rs b)
    unfolding holds
    in_cut_for Equal true e =
        let same : reg rs a ≡ reg rs b = eqb-true _ _ e in
        in_cut_both held_a (omega (arith, held_b)) held_b (omega (arith, held_a))
    in_cut_for Equal false e = (held_a, held_b)
    in_cut_for Below true e =
        let less : reg rs a < reg rs b = ltb-true _ _ e in
        in_cut_both held_a (omega (arith, held_b)) held_b (omega (arith, held_a, ws.small b))
    in_cut_for Below false e =
        let not-less : reg rs b ≤ reg rs a = ltb-false _ _ e in
        in_cut_both held_a (omega (arith, held_b, ws.small a)) held_b (omega (arith, held_a))
    in_cut_for SignedBelow taken e = (held_a, held_b)

    -- rule B, taken or not
    pub within_rule_b : (test : Test) (taken : Bool) → holds test (reg rs a) (reg rs b) ≡ taken → Within (rule_b test taken a b k) rs
    unfolding rule_b
    within_rule_b test taken e =
        let held = in_cut_for test taken e in
        by_cond (λ (k' : Ranges). Within k' rs) (eqb a b) (λ _. w)
        (λ _. within_narrow (within_narrow w ws a a8 _ held.0) ws b b8 _ held.1)
