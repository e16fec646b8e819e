-- Bytes that stand at an offset: two lists stand one behind the other exactly if each stands at its own place, and a number's bytes
-- stand exactly where the number is read. Assumes nothing.
use Prim.Native.Nat.{ℕ, ◌+◌, ◌%◌, ◌^◌, ◌≤◌, ◌<◌}
use mathlib.Core.Path.{◌≡◌, sym, ap, ◌∙◌}
use mathlib.Core.Logic.Iff
use mathlib.Core.Logic.{◌↔◌}
use mathlib.Core.List.{List, [], ◌∷◌, ◌++◌}
use native.Mathlib.Omega.{arith}
use lib.ListN.{length, get_or, take, drop}
use lib.Seq.{take_at, drop_at, drop-drop, drop-cons, take-add, take-take}
use Rattle.model.specs.Words.{read_bytes, low_bytes}
use Rattle.model.specs.File.{byte_at}
use Rattle.model.specs.Promises.{AreBytes}
use Rattle.model.proofs.Writer.Bytes.{number_read, number_written}

-- the n bytes from an offset on
abbrev pub Stands : List ℕ → ℕ → ℕ → List ℕ → Type 0
Stands bytes at n xs = take n (drop at bytes) ≡ xs

module _ (bytes : List ℕ) (n m at next k : ℕ) (follows : at + n ≡ next) (together : n + m ≡ k) where
  join : take n (drop at bytes) ++ take m (drop next bytes) ≡ take k (drop at bytes)
  join = rw (← follows, ← together, take-add, drop-drop)

  both_iff : (first rest : List ℕ) → length first ≡ n
      → Stands bytes at k (first ++ rest) ↔ (Stands bytes at n first × Stands bytes next m rest)
  both_iff first rest long = (λ e. apart e, λ h. rw (← join, h.0, h.1))
    where
      apart : Stands bytes at k (first ++ rest) → Stands bytes at n first × Stands bytes next m rest
      apart e =
          let head : take n (drop at bytes) ≡ first =
          sym (take-take n k (drop at bytes) (omega arith)) ∙ ap (take n) e ∙ take_at first rest n long in
          let whole : first ++ take m (drop next bytes) ≡ first ++ rest = rw head at (join ∙ e) in
          (head, sym (drop_at first _ n long) ∙ ap (drop n) whole ∙ drop_at first rest n long)

  -- and what each of them tells
  pub stands_both : {P Q : Type 0} (first rest : List ℕ) → length first ≡ n → Stands bytes at n first ↔ P → Stands bytes next m rest ↔ Q
      → Stands bytes at k (first ++ rest) ↔ (P × Q)
  stands_both first rest long p q = Iff.trans (both_iff first rest long) (Iff.and p q)

-- a byte, and a number
pub stands_byte : (bytes : List ℕ) (at x : ℕ) → at < length bytes → Stands bytes at 1 (x ∷ []) ↔ (byte_at bytes at ≡ x)
stands_byte bytes at x inside = rw (drop-cons bytes at 0) (λ e. ap (λ (l : List ℕ). get_or l 0 0) e, λ e. rw e)

pub stands_low : (bytes : List ℕ) (at x : ℕ) → at < length bytes → x < 256 → Stands bytes at 1 (low_bytes 1 x) ↔ (byte_at bytes at ≡ x)
unfolding low_bytes
stands_low bytes at x inside few = let same : x % 256 ≡ x = omega arith in rw same (stands_byte bytes at x inside)

pub stands_number : (bytes : List ℕ) → AreBytes bytes → (n at x : ℕ) → at + n ≤ length bytes → x < 256 ^ n
    → Stands bytes at n (low_bytes n x) ↔ (read_bytes n bytes at ≡ x)
stands_number bytes small n at x fits few =
    (λ e. number_read n x bytes at few e, λ e. number_written n bytes at small fits ∙ ap (low_bytes n) e)
