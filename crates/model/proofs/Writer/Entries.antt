-- Layout, instruction and target (door) as bytes: they stand at their place exactly if they are what is read there. Assumes nothing.
use Prim.Native.Nat.{ℕ, ◌+◌, ◌*◌, ◌≤◌, ◌<◌}
use mathlib.Core.Path.{◌≡◌, refl, sym, ap, ◌∙◌}
use mathlib.Core.Logic.Iff
use mathlib.Core.Logic.{◌↔◌}
use mathlib.Core.List.{List, ◌++◌}
use native.Mathlib.Omega.{arith}
use native.Mathlib.Nat.{add-zero}
use lib.ListN.{length}
use Rattle.model.specs.declared.Layout.{Layout}
use Rattle.model.specs.declared.Ranges.{Ranges}
use Rattle.model.specs.Words.{modulus, read_bytes, low_bytes}
use Rattle.model.specs.Ranges.{low, high}
use Rattle.model.specs.File.{byte_at, layout_of, InstructionRow, instruction_at, row_in, tabulate, target_start, claim_in, TargetRow, target_row_in}
use Rattle.model.specs.Safety.{EightWords}
use Rattle.model.specs.Writer.{word, layout_words, row_bytes, claim_bytes, target_bytes}
use Rattle.model.specs.Promises.{AreBytes}
use Rattle.model.proofs.Tabulate.{table_at, tabulate_is, length-tabulate}
use Rattle.model.proofs.Claims.OneClaim.{low_in, high_in}
use Rattle.model.proofs.Writer.Bytes.{low_length}
use Rattle.model.proofs.Writer.Stands.{Stands, stands_both, stands_low, stands_number}
use Rattle.model.proofs.Writer.Units.{units_length, units_stand}

-- ---- what their bytes can hold

pub record LayoutFits (l : Layout) : Type 0 where
  pub base : l.base < modulus
  pub size : l.size < modulus
  pub guard : l.guard < modulus

pub record RowFits (x : InstructionRow) : Type 0 where
  pub op : x.op < 256
  pub a : x.a < 256
  pub b : x.b < 256
  pub w : x.w < 256
  pub imm : x.imm < modulus

pub record TargetFits (x : TargetRow) : Type 0 where
  pub index : x.index < 65536
  pub kind : x.kind < 256
  pub zero_byte : x.zero_byte < 256
  pub lows : EightWords x.claim.lows
  pub highs : EightWords x.claim.highs

-- ---- how many bytes they have

pub layout_length : (l : Layout) → length (layout_words l) ≡ 12
unfolding low_bytes
layout_length l = refl

pub row_length : (x : InstructionRow) → length (row_bytes x) ≡ 8
unfolding low_bytes
row_length x = refl

pub range_length : (claim : Ranges) (r : ℕ) → length (word (low claim r) ++ word (high claim r)) ≡ 8
unfolding low_bytes
range_length claim r = refl

claim_length : (claim : Ranges) → length (claim_bytes claim) ≡ 64
unfolding claim_bytes
claim_length claim = units_length 8 _ (range_length claim) (tabulate 0 8 (λ r. r)) ∙ ap (λ (n : ℕ). 8 * n) (length-tabulate 0 8 (λ r. r))

pub target_length : (x : TargetRow) → length (target_bytes x) ≡ 68
unfolding low_bytes
target_length x = omega (arith, claim_length x.claim)

-- ---- where they stand

module _ (bytes : List ℕ) (small : AreBytes bytes) where
  word_stands : (at x : ℕ) → at + 4 ≤ length bytes → x < modulus → Stands bytes at 4 (word x) ↔ (read_bytes 4 bytes at ≡ x)
  word_stands at x inside few = stands_number bytes small 4 at x inside few

  pub layout_stands : (l : Layout) → LayoutFits l → 12 ≤ length bytes → Stands bytes 0 12 (layout_words l) ↔ (layout_of bytes ≡ l)
  layout_stands l fits long =
      Iff.trans
      (stands_both bytes 4 8 0 4 12 refl refl _ _ (low_length 4 l.base) (word_stands 0 l.base (omega arith) fits.base)
      (stands_both bytes 4 4 4 8 8 refl refl _ _ (low_length 4 l.size) (word_stands 4 l.size (omega arith) fits.size)
      (word_stands 8 l.guard (omega arith) fits.guard))) (
        λ h i. record { base = h.0 i; size = h.1.0 i; guard = h.1.1 i },
        λ e. (ap (λ (y : Layout). y.base) e, (ap (λ (y : Layout). y.size) e, ap (λ (y : Layout). y.guard) e)),
      )

  -- a byte, and what stands behind it
  byte_then : {Q : Type 0} (m at next k x : ℕ) (rest : List ℕ) → at + 1 ≡ next → 1 + m ≡ k → at < length bytes → x < 256
      → Stands bytes next m rest ↔ Q → Stands bytes at k (low_bytes 1 x ++ rest) ↔ ((byte_at bytes at ≡ x) × Q)
  byte_then m at next k x rest follows together inside few later =
      stands_both bytes 1 m at next k follows together (low_bytes 1 x) rest (low_length 1 x) (stands_low bytes at x inside few) later

  pub row_stands : (x : InstructionRow) → RowFits x → (i : ℕ) → instruction_at i + 8 ≤ length bytes
      → Stands bytes (instruction_at i) 8 (row_bytes x) ↔ (row_in bytes i ≡ x)
  row_stands x fits i long =
      Iff.trans
      (byte_then 7 at (at + 1) 8 x.op _ refl refl (omega arith) fits.op
      (byte_then 6 (at + 1) (at + 2) 7 x.a _ (omega arith) refl (omega arith) fits.a
      (byte_then 5 (at + 2) (at + 3) 6 x.b _ (omega arith) refl (omega arith) fits.b
      (byte_then 4 (at + 3) (at + 4) 5 x.w _ (omega arith) refl (omega arith) fits.w
      (word_stands (at + 4) x.imm (omega arith) fits.imm))))) (
        λ h i. record { op = h.0 i; a = h.1.0 i; b = h.1.1.0 i; w = h.1.1.1.0 i; imm = h.1.1.1.1 i },
        λ e. (
          ap (λ (y : InstructionRow). y.op) e,
          (
            ap (λ (y : InstructionRow). y.a) e,
            (ap (λ (y : InstructionRow). y.b) e, (ap (λ (y : InstructionRow). y.w) e, ap (λ (y : InstructionRow). y.imm) e)),
          ),
        ),
      )
    where
      at : ℕ
      at = instruction_at i

  module _ (j : ℕ) (long : target_start j + 68 ≤ length bytes) where
    -- the claim, register by register
    module _ (claim : Ranges) (lows : EightWords claim.lows) (highs : EightWords claim.highs) where
      abbrev RangeRead : ℕ → Type 0
      RangeRead r = (low_in bytes (target_start j) r ≡ low claim r) × (high_in bytes (target_start j) r ≡ high claim r)

      range_stands : (r : ℕ) → r < 8
          → Stands bytes (target_start j + 4 + 8 * r) 8 (word (low claim r) ++ word (high claim r)) ↔ RangeRead r
      range_stands r below =
          stands_both bytes 4 4 (target_start j + 4 + 8 * r) (target_start j + 8 + 8 * r) 8 (omega arith) refl
          (word (low claim r)) (word (high claim r)) (low_length 4 (low claim r))
          (word_stands _ (low claim r) (omega arith) (lows.small r))
          (word_stands _ (high claim r) (omega arith) (highs.small r))

      ranges_read : ((r : ℕ) → r < 8 → RangeRead r) ↔ (claim_in bytes j ≡ claim)
      unfolding claim_in
      ranges_read = (
        λ h.
            let low-ends = tabulate_is (low_in bytes (target_start j)) 0 8 claim.lows lows.eight (λ r below. (h r below).0) in
            let high-ends = tabulate_is (high_in bytes (target_start j)) 0 8 claim.highs highs.eight (λ r below. (h r below).1) in
            λ i. record { lows = low-ends i; highs = high-ends i },
        λ e r below. (
          sym (table_at (low_in bytes (target_start j)) 0 8 r below) ∙ ap (λ (k : Ranges). low k r) e,
          sym (table_at (high_in bytes (target_start j)) 0 8 r below) ∙ ap (λ (k : Ranges). high k r) e,
        ),
      )

      claim_stands : Stands bytes (target_start j + 4) 64 (claim_bytes claim) ↔ (claim_in bytes j ≡ claim)
      unfolding claim_bytes
      claim_stands =
          rw (← add-zero (target_start j + 4)) (Iff.trans
          (units_stand 8 (λ (r : ℕ). word (low claim r) ++ word (high claim r)) (range_length claim)
          bytes (λ r. target_start j + 4 + 8 * r) (λ r. omega arith) (λ r. r) 0 8)
          (Iff.trans (
            λ h r below. (range_stands r below).0 (h r (omega arith) (omega arith)),
            λ h r _ below. (range_stands r (omega arith)).1 (h r (omega arith)),
          ) ranges_read))

    pub target_stands : (x : TargetRow) → TargetFits x → Stands bytes (target_start j) 68 (target_bytes x) ↔ (target_row_in bytes j ≡ x)
    target_stands x fits =
        Iff.trans
        (stands_both bytes 2 66 at (at + 2) 68 refl refl _ _ (low_length 2 x.index)
        (stands_number bytes small 2 at x.index (omega arith) fits.index)
        (byte_then 65 (at + 2) (at + 3) 66 x.kind _ (omega arith) refl (omega arith) fits.kind
        (byte_then 64 (at + 3) (at + 4) 65 x.zero_byte _ (omega arith) refl (omega arith) fits.zero_byte
        (claim_stands x.claim fits.lows fits.highs)))) (
          λ h i. record { index = h.0 i; kind = h.1.0 i; zero_byte = h.1.1.0 i; claim = h.1.1.1 i },
          λ e. (
            ap (λ (y : TargetRow). y.index) e,
            (ap (λ (y : TargetRow). y.kind) e, (ap (λ (y : TargetRow). y.zero_byte) e, ap (λ (y : TargetRow). y.claim) e)),
          ),
        )
      where
        at : ℕ
        at = target_start j
