-- Rule 10 on ends that are kept raised by 2^32: the code's two comparisons are the definition's. Assumes nothing.
use Prim.Native.Nat.{ℕ, suc, ◌+◌, ◌-◌, ◌%◌, ◌≤◌, ◌<◌}
use mathlib.Core.Path.{◌≡◌, sym, ap, ap₂, ◌∙◌}
use mathlib.Core.Bool.{◌&&◌}
use native.Mathlib.Omega.{arith}
use borrow.Author.Tests.{le-leb, lt-leb, ltb-true, ltb-false}
use lib.Dec.{leb, ltb}
use lib.IntN.{ℤ, pos, ◌+ℤ◌, sub_ℕ}
use lib.Signed.{le_z}
use mir.Syntax.{w32}
use mir.Val.{SFits, of_z, to_z}
use mir.ValLaws.{to_z-of_z}
use Rattle.model.specs.declared.Layout.{Layout}
use Rattle.model.specs.declared.Range.{Range}
use Rattle.model.specs.declared.Width.{Width}
use Rattle.model.specs.Words.{modulus, wrap}
use Rattle.model.specs.Ranges.{range, region_range}
use Rattle.model.specs.Instructions.{bytes_of}
use Rattle.model.specs.Judgement.{is_contained}
use Rattle.model.specs.Rules.{LayoutKept}
use Rattle.model.proofs.Tests.{by_cond, same_order}
use Rattle.model.proofs.Values.{some_size}
use Rattle.reader.specs.declared.module.Module.{Module}
use Rattle.std.proofs.Props.{props}
use Rattle.std.proofs.Math.Logic.{∥∥₁_elim}
use Rattle.verifier.specs.Standing.{wrapped_region}

-- where rule 5 is kept a region has a byte, and its end does not wrap
pub unwrapped : {l : Layout} → LayoutKept l → wrapped_region l ≡ region_range l
unfolding wrap
unwrapped {l} kept =
    ap (range l.base)
    (by_cond (λ (z : ℤ). (l.base + wrap z) % modulus ≡ l.base + l.size - 1) (ltb l.size 1)
    (λ less. omega (arith, some_size kept, ltb-true l.size 1 less))
    (λ least. omega (arith, some_size kept, kept.above)))

-- an exact end against a natural number, and its raised form against that number raised
at_least : (m n : ℕ) → le_z (pos m) (sub_ℕ n modulus) ≡ leb (modulus + m) n
at_least m n =
    by_cond (λ z. le_z (pos m) z ≡ leb (modulus + m) n) (ltb n modulus)
    (λ t. sym (lt-leb (modulus + m) n (omega (arith, ltb-true n modulus t))))
    (λ f. let above : modulus ≤ n = ltb-false n modulus f in
    same_order m (n - modulus) (modulus + m) n (λ h. omega arith) (λ h. omega arith))

at_most : (n x m : ℕ) → le_z (sub_ℕ n modulus +ℤ pos x) (pos m) ≡ leb (n + x) (modulus + m)
at_most n x m =
    by_cond (λ z. le_z (z +ℤ pos x) (pos m) ≡ leb (n + x) (modulus + m)) (ltb n modulus)
    (λ t. let below : n < modulus = ltb-true n modulus t in
    by_cond (λ z. le_z z (pos m) ≡ leb (n + x) (modulus + m)) (ltb x (suc (modulus - suc n)))
    (λ s. let negative : x < suc (modulus - suc n) = ltb-true x (suc (modulus - suc n)) s in
    sym (le-leb (n + x) (modulus + m) (omega arith)))
    (λ s. let natural : suc (modulus - suc n) ≤ x = ltb-false x (suc (modulus - suc n)) s in
    same_order (x - suc (modulus - suc n)) m (n + x) (modulus + m) (λ h. omega arith) (λ h. omega arith)))
    (λ f. let above : modulus ≤ n = ltb-false n modulus f in
    same_order (n - modulus + x) m (n + x) (modulus + m) (λ h. omega arith) (λ h. omega arith))

-- what the code computes before it compares, from the pointer's range x: the raised ends, and how far the last byte lies behind the first
pub record Ends (w : Width) (imm : ℤ) (x : Range) (lowest highest last : ℕ) : Type 0 where
  pub is_lowest : sub_ℕ lowest modulus ≡ pos x.low +ℤ to_z w32 (of_z w32 imm)
  pub is_highest : sub_ℕ highest modulus ≡ pos x.high +ℤ to_z w32 (of_z w32 imm)
  pub is_last : last ≡ bytes_of w - 1

module _ (m : Module) (x : Range) (w : Width) (imm : ℤ) (fit : SFits w32 imm)
    {lowest highest last : ℕ} (ends : Ends w imm x lowest highest last) where
  pub two_tests : (leb (modulus + m.layout.base - m.layout.guard) lowest && leb (highest + last) (modulus + m.layout.base + m.layout.size - 1 + m.layout.guard))
      ≡ is_contained m.layout x w imm
  unfolding is_contained
  two_tests = ∥∥₁_elim m.loaded (hlevel props) (λ loaded.
      let l = m.layout in
      let kept : LayoutKept l = loaded.kept.layout in
      let read_back : to_z w32 (of_z w32 imm) ≡ imm = to_z-of_z w32 imm fit in
      let lowest_is : pos x.low +ℤ imm ≡ sub_ℕ lowest modulus = sym (ends.is_lowest ∙ ap (λ (z : ℤ). pos x.low +ℤ z) read_back) in
      let highest_is : pos x.high +ℤ imm ≡ sub_ℕ highest modulus = sym (ends.is_highest ∙ ap (λ (z : ℤ). pos x.high +ℤ z) read_back) in
      let first : modulus + l.base - l.guard ≡ modulus + (l.base - l.guard) = omega (arith, kept.below) in
      let second : modulus + l.base + l.size - 1 + l.guard ≡ modulus + (l.base + l.size - 1 + l.guard) = omega (arith, some_size kept) in
      rw (lowest_is, highest_is, ← ends.is_last, first, second)
      (sym (ap₂ ◌&&◌ (at_least (l.base - l.guard) lowest) (at_most highest last (l.base + l.size - 1 + l.guard)))))
