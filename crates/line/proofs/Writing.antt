-- Writing into a buffer: two texts that were written one after the other are their sum, written at
-- the first one's place; and so is a number, of its tenth and its last digit. Assumes nothing.
use Prim.Native.Nat.{ℕ, ◌+◌, ◌/◌, ◌%◌, ◌≤◌, ◌<◌}
use mathlib.Core.Path.{◌≡◌, sym, ap, ◌∙◌}
use mathlib.Core.List.{List, [], ◌∷◌, ◌++◌, append_assoc}
use native.Mathlib.Omega.{arith}
use native.Mathlib.Nat.{add_assoc}
use lib.ListN.{length, take, drop, length-append}
use lib.Seq.{length-take-le, drop-drop, take_at, drop_at}
use Rattle.model.specs.Line.{digit, decimal}
use Rattle.model.proofs.Line.{decimal_known}
use Rattle.line.specs.Wrote.{Wrote}

module _ {a b c s t : List ℕ} {i j k : ℕ} (inside : i ≤ length a) (first : Wrote a b i s j) (second : Wrote b c j t k) where
  front : length (take i a ++ s) ≡ j
  front = length-append (take i a) s ∙ rw (length-take-le i a inside) (sym first.ends)

  before : take j b ≡ take i a ++ s
  before = rw first.buffer (take_at _ _ j front)

  past : drop (j + length t) b ≡ drop (i + length (s ++ t)) a
  past = sym (drop-drop (length t) j b)
      ∙ ap (λ (l : List ℕ). drop (length t) l) (rw first.buffer (drop_at (take i a ++ s) _ j front))
      ∙ drop-drop (length t) (i + length s) a
      ∙ rw (length-append, add_assoc)

  pub both : Wrote a c i (s ++ t) k
  both = record {
    ends = simp length-append (omega (arith, first.ends, second.ends));
    buffer = second.buffer ∙ rw (before, past) (simp append_assoc);
  }

pub wrote_small : {a b : List ℕ} {at byte end : ℕ} (n : ℕ) → n < 10 → byte ≡ digit n → Wrote a b at (byte ∷ []) end
    → Wrote a b at (decimal n) end
wrote_small n small is last = rw (decimal_known.small n small) (rw is at last)

pub wrote_more : {a b c : List ℕ} {at byte middle end : ℕ} (n : ℕ) → 10 ≤ n → at ≤ length a → Wrote a b at (decimal (n / 10)) middle
    → byte ≡ digit (n % 10) → Wrote b c middle (byte ∷ []) end → Wrote a c at (decimal n) end
wrote_more n more inside tenth is last = rw (decimal_known.more n more) (both inside tenth (rw is at last))
