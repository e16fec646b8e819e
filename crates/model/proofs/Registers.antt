-- Registers within their ranges, and what keeps them there; words and bytes, and what keeps them so. Assumes nothing.
use Prim.Native.Nat.{ℕ, zero, suc, ◌+◌, ◌*◌, ◌/◌, ◌%◌, ◌^◌, ◌≤◌, ◌<◌}
use mathlib.Core.Path.{◌≡◌, ap, ◌∙◌, subst}
use mathlib.Core.Bool.{◌||◌}
use mathlib.Core.List.{List, [], ◌∷◌}
use native.Mathlib.Omega.{arith}
use native.Mathlib.Decide.{ℕ_discrete}
use lib.ListN.{length, get_or, set, length-set}
use lib.Seq.{get_or-set_same, get_or-set_other, set-get_or}
use lib.Pow.{pow-add}
use Rattle.model.specs.declared.Pair.{Pair}
use Rattle.model.specs.declared.Range.{Range}
use Rattle.model.specs.declared.Ranges.{Ranges}
use Rattle.model.specs.Words.{modulus, read_bytes, write_bytes}
use Rattle.model.specs.Ranges.{low, high, put, common, is_empty, cut, cut_both}
use Rattle.model.specs.Instructions.{reg}
use Rattle.model.specs.Safety.{EightWords, Bytes}
use Rattle.model.specs.Accuracy.{Within}
use Rattle.model.proofs.Tests.{by_cond}

-- a value lies in a range
abbrev pub In : Range → ℕ → Type 0
In x v = (x.low ≤ v) × (v ≤ x.high)

-- ---- ranges that change

-- a bound and a register change at the same place, and how they compare is kept everywhere
bound_after_set : (Bounds : ℕ → ℕ → Type 0) (bounds rs : List ℕ) (a e v : ℕ) → a < length bounds → a < length rs → Bounds e v
    → (r : ℕ) → Bounds (get_or bounds r 0) (reg rs r) → Dec (r ≡ a) → Bounds (get_or (set bounds a e) r 0) (reg (set rs a v) r)
bound_after_set Bounds bounds rs a e v h h' new r old (yes q) =
    rw (q, get_or-set_same bounds a e 0 h, get_or-set_same rs a v 0 h') new
bound_after_set Bounds bounds rs a e v h h' new r old (no q) =
    rw (get_or-set_other bounds a r e 0 q, get_or-set_other rs a r v 0 q) old

module _ {k : Ranges} {rs : List ℕ} (w : Within k rs) (ws : EightWords rs) (a : ℕ) (a8 : a < 8) where
  -- a register takes a new value, and its range becomes one that the value lies in
  pub within_put : (x : Range) (v : ℕ) → In x v → Within (put k a x) (set rs a v)
  within_put x v i = record {
    lows8 = simp length-set w.lows8;
    highs8 = simp length-set w.highs8;
    low = λ r r8. lows_bound i.0 r (w.low r r8) (ℕ_discrete r a);
    high = λ r r8. highs_bound i.1 r (w.high r r8) (ℕ_discrete r a);
  }
    where
      lows_bound : x.low ≤ v → (r : ℕ) → low k r ≤ reg rs r → Dec (r ≡ a) → low (put k a x) r ≤ reg (set rs a v) r
      lows_bound =
          bound_after_set (λ bound y. bound ≤ y) k.lows rs a x.low v (omega (arith, w.lows8)) (omega (arith, ws.eight))

      highs_bound : v ≤ x.high → (r : ℕ) → reg rs r ≤ high k r → Dec (r ≡ a) → reg (set rs a v) r ≤ high (put k a x) r
      highs_bound =
          bound_after_set (λ bound y. y ≤ bound) k.highs rs a x.high v (omega (arith, w.highs8)) (omega (arith, ws.eight))

  -- a range becomes another one that the register lies in
  pub within_narrow : (x : Range) → In x (reg rs a) → Within (put k a x) rs
  within_narrow x i = subst (λ (s : List ℕ). Within (put k a x) s) (set-get_or rs a 0) (within_put x (reg rs a) i)

-- ---- cuts: what is cut away, the registers do not hold

in_common : {x y : Range} {v : ℕ} → In x v → In y v → In (common x y) v
in_common i j = omega (arith, i, j)

pub in_cut : {x to : Range} {v : ℕ} → In x v → In to v → In (cut x to) v
unfolding cut
in_cut {x} {to} {v} i j = by_cond (λ (r : Range). In r v) (is_empty (common x to)) (λ _. i) (λ _. in_common i j)

-- two values lie in two ranges
abbrev pub InBoth : Pair → ℕ → ℕ → Type 0
InBoth xs v u = In xs.first v × In xs.second u

pub in_cut_both : {x p y q : Range} {v u : ℕ} → In x v → In p v → In y u → In q u → InBoth (cut_both x p y q) v u
unfolding cut_both
in_cut_both {x} {p} {y} {q} {v} {u} i i' j j' =
    by_cond (λ (xs : Pair). InBoth xs v u) (is_empty (common x p) || is_empty (common y q))
    (λ _. (i, j))
    (λ _. (in_common i i', in_common j j'))

-- ---- words and bytes that change

below_set : (c : ℕ) (xs : List ℕ) (a v : ℕ) → ((i : ℕ) → get_or xs i 0 < c) → v < c → (i : ℕ) → get_or (set xs a v) i 0 < c
below_set c [] a v below v_below i = below i
below_set c (x ∷ xs) zero v below v_below zero = v_below
below_set c (x ∷ xs) zero v below v_below (suc i) = below (suc i)
below_set c (x ∷ xs) (suc a) v below v_below zero = below zero
below_set c (x ∷ xs) (suc a) v below v_below (suc i) = below_set c xs a v (λ j. below (suc j)) v_below i

-- a register takes a word
pub words_set : {rs : List ℕ} → EightWords rs → (a v : ℕ) → v < modulus → EightWords (set rs a v)
words_set {rs} ws a v v_below =
    record { eight = simp length-set ws.eight; small = below_set modulus rs a v ws.small v_below }

-- a number's low bytes are written among bytes
pub bytes_write : (n x : ℕ) {size : ℕ} {bs : List ℕ} (at : ℕ) → Bytes size bs → Bytes size (write_bytes n x bs at)
unfolding write_bytes
bytes_write zero x at b = b
bytes_write (suc n) x {size} {bs} at b =
    bytes_write n (x / 256) (suc at)
    (record { long = simp length-set b.long; small = below_set 256 bs at (x % 256) b.small (omega arith) })

-- n bytes make a number below 2^(8n)
pub read_below : (n : ℕ) (bs : List ℕ) (at : ℕ) → ((i : ℕ) → get_or bs i 0 < 256) → read_bytes n bs at < 2 ^ (8 * n)
unfolding read_bytes
read_below zero bs at below = omega arith
read_below (suc n) bs at below = rw (power_step n) (omega (arith, below at, read_below n bs (suc at) below))
  where
    power_step : (m : ℕ) → 2 ^ (8 * suc m) ≡ 256 * 2 ^ (8 * m)
    power_step m = ap (λ (e : ℕ). 2 ^ e) (let e : 8 * suc m ≡ 8 + 8 * m = omega arith in e) ∙ pow-add 2 8 (8 * m)
