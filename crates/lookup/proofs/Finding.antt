-- What a lookup makes of two tables, whatever they hold. Assumes nothing.
use Prim.Native.Nat.{ℕ, zero, suc, ◌+◌, ◌-◌, ◌*◌, ◌/◌, ◌%◌, ◌^◌, ◌<◌}
use mathlib.Core.Path.{◌≡◌, refl, sym, ap, ◌∙◌}
use mathlib.Core.List.{List}
use Rattle.std.specs.Prelude.{None, Some, count_ones}
use Rattle.std.specs.Int.{bit_at}
use native.Mathlib.Nat.{zero-mul}
use native.Mathlib.Omega.{arith}
use borrow.Author.Tests.{eq-eqb, ne_eqb}
use lib.Bits.{bit_and}
use lib.ListN.{get_or}
use Rattle.std.proofs.lemmas.Nat.{and_mask, one_shl, pow_pos}
use Rattle.std.proofs.lemmas.Nat.Bits.{and_pow, bit_at-lt}
use Rattle.model.specs.Lookup.{word_at, found_by}
use Rattle.model.proofs.Tests.{cond_true, cond_false}

module _ (bits counts : List ℕ) (i : ℕ) where
  -- the bit of an index, alone in a word
  abbrev bit : ℕ
  bit = (1 * 2 ^ (i % 64)) % 2 ^ 64

  bit_is : bit ≡ 2 ^ (i % 64)
  bit_is = one_shl (i % 64) 64 (omega arith)

  masked : bit_and (word_at bits i) bit ≡ bit_at (word_at bits i) (i % 64) * 2 ^ (i % 64)
  masked = rw bit_is (and_pow (word_at bits i) (i % 64))

  pub bit_clear : bit_and (word_at bits i) bit ≡ 0 → None ≡ found_by bits counts i
  unfolding found_by
  bit_clear none = sym (cond_false _ _ _ (ne_eqb _ 1 (λ set.
      let power : bit_and (word_at bits i) bit ≡ 1 * 2 ^ (i % 64) = masked ∙ ap (λ (b : ℕ). b * 2 ^ (i % 64)) set in
      omega (arith, power, none, pow_pos (i % 64)))))

  pub bit_found : (bit_and (word_at bits i) bit ≡ 0 → ⊥) → {count : ℕ} → count ≡ get_or counts (i / 64) 0
      → Some (count + count_ones (bit_and (word_at bits i) (bit - 1))) ≡ found_by bits counts i
  unfolding found_by
  bit_found some is_count =
      ap (λ (j : ℕ). Some j) (rw (is_count, bit_is, and_mask (word_at bits i) (i % 64)) refl)
      ∙ sym (cond_true _ _ _ (eq-eqb _ 1 (by_bit (bit_at (word_at bits i) (i % 64)) refl (bit_at-lt (word_at bits i) (i % 64)))))
    where
      by_bit : (b : ℕ) → bit_at (word_at bits i) (i % 64) ≡ b → b < 2 → bit_at (word_at bits i) (i % 64) ≡ 1
      by_bit zero clear below = absurd (some (masked ∙ ap (λ (b : ℕ). b * 2 ^ (i % 64)) clear ∙ zero-mul (2 ^ (i % 64))))
      by_bit (suc b) is below = omega arith
