-- Numbers written among bytes: what is written is read, all else is as it was, a number's own bytes change nothing, and of two writes
-- at one place the later one counts. Assumes nothing.
use Prim.Native.Nat.{ℕ, zero, suc, ◌+◌, ◌*◌, ◌/◌, ◌%◌, ◌^◌, ◌≤◌, ◌<◌}
use mathlib.Core.Path.{◌≡◌, refl, sym, ap, ◌∙◌}
use mathlib.Core.Logic.{◌⊎◌, inl, inr}
use mathlib.Core.Bool.{Bool, true, false}
use mathlib.Core.List.{List}
use native.Mathlib.Omega.{arith}
use native.Mathlib.Nat.{pow-suc}
use native.Mathlib.Decide.{ℕ_discrete}
use lib.ListN.{length, get_or, set, length-set, get_or-eq_default}
use lib.Dec.{ltb}
use lib.Seq.{get_or-set_same, get_or-set_other, set-get_or, set_out, ext_get_or}
use borrow.Author.Tests.{ltb-true, ltb-false}
use Rattle.model.specs.Words.{read_bytes, write_bytes}

-- numbers of the same bytes are the same
pub same_number : (n : ℕ) (x y : List ℕ) (at : ℕ) → ((i : ℕ) → at ≤ i → i < at + n → get_or x i 0 ≡ get_or y i 0)
    → read_bytes n x at ≡ read_bytes n y at
unfolding read_bytes
same_number zero x y at same = refl
same_number (suc n) x y at same =
    rw (same at (omega arith) (omega arith), same_number n x y (suc at) (λ i from below. same i (omega arith) (omega arith)))

-- ---- one write

-- what lies below or above is kept
pub write_outside : (n x : ℕ) (bytes : List ℕ) (at i : ℕ) → (i < at) ⊎ (at + n ≤ i)
    → get_or (write_bytes n x bytes at) i 0 ≡ get_or bytes i 0
unfolding write_bytes
write_outside zero x bytes at i outside = refl
write_outside (suc n) x bytes at i outside =
    write_outside n (x / 256) (set bytes at (x % 256)) (suc at) i (further outside)
    ∙ get_or-set_other bytes at i (x % 256) 0 (other outside)
  where
    further : (i < at) ⊎ (at + suc n ≤ i) → (i < suc at) ⊎ (suc at + n ≤ i)
    further (inl below) = inl (omega arith)
    further (inr above) = inr (omega arith)

    other : (i < at) ⊎ (at + suc n ≤ i) → i ≡ at → ⊥
    other (inl below) e = omega arith
    other (inr above) e = omega arith

-- so a number elsewhere is as it was
pub read_outside : (m n x : ℕ) (bytes : List ℕ) (at from : ℕ) → (from + m ≤ at) ⊎ (at + n ≤ from)
    → read_bytes m (write_bytes n x bytes at) from ≡ read_bytes m bytes from
read_outside m n x bytes at from apart =
    same_number m (write_bytes n x bytes at) bytes from (λ i least most. write_outside n x bytes at i (off i least most apart))
  where
    off : (i : ℕ) → from ≤ i → i < from + m → (from + m ≤ at) ⊎ (at + n ≤ from) → (i < at) ⊎ (at + n ≤ i)
    off i least most (inl before) = inl (omega arith)
    off i least most (inr behind) = inr (omega arith)

-- what is written is read
pub write_read : (n x : ℕ) (bytes : List ℕ) (at : ℕ) → at + n ≤ length bytes → x < 256 ^ n
    → read_bytes n (write_bytes n x bytes at) at ≡ x
unfolding read_bytes write_bytes
write_read zero x bytes at fits small = omega arith
write_read (suc n) x bytes at fits small =
    let less : x < 256 ^ n * 256 = rw (pow-suc 256 n) at small in
    let first : List ℕ = set bytes at (x % 256) in
    let rest = write_read n (x / 256) first (suc at) (omega (arith, length-set bytes at (x % 256))) (omega arith) in
    let lowest = write_outside n (x / 256) first (suc at) at (inl (omega arith)) ∙ get_or-set_same bytes at (x % 256) 0 (omega arith) in
    omega (arith, rest, lowest)

-- a number's own bytes change nothing
pub write_own : (n : ℕ) (bytes : List ℕ) (at : ℕ) → ((i : ℕ) → get_or bytes i 0 < 256)
    → write_bytes n (read_bytes n bytes at) bytes at ≡ bytes
unfolding read_bytes write_bytes
write_own zero bytes at small = refl
write_own (suc n) bytes at small =
    let number : ℕ = get_or bytes at 0 + 256 * read_bytes n bytes (suc at) in
    let lowest : number % 256 ≡ get_or bytes at 0 = omega (arith, small at) in
    let others : number / 256 ≡ read_bytes n bytes (suc at) = omega (arith, small at) in
    rw (lowest, others, set-get_or bytes at 0) (write_own n bytes (suc at) small)

-- ---- one write over another

-- at a place neither of two ways to write changes anything, or what the later one leaves there is the same whatever was there
abbrev Settled : (List ℕ → List ℕ) → (List ℕ → List ℕ) → ℕ → Type 0
Settled later earlier i =
    ((b : List ℕ) → (get_or (later b) i 0 ≡ get_or b i 0) × (get_or (earlier b) i 0 ≡ get_or b i 0))
    ⊎ ((a b : List ℕ) → length a ≡ length b → get_or (later a) i 0 ≡ get_or (later b) i 0)

pub record Over (later earlier : List ℕ → List ℕ) : Type 0 where
  long : (b : List ℕ) → (length (later b) ≡ length b) × (length (earlier b) ≡ length b)
  places : (i : ℕ) → Settled later earlier i

-- so the later one counts
pub over_counts : {later earlier : List ℕ → List ℕ} → Over later earlier → (b : List ℕ) → later (earlier b) ≡ later b
over_counts {later} {earlier} o b =
    ext_get_or 0 (later (earlier b)) (later b) ((o.long (earlier b)).0 ∙ (o.long b).1 ∙ sym (o.long b).0)
    (λ i _. at_place i (o.places i))
  where
    at_place : (i : ℕ) → Settled later earlier i → get_or (later (earlier b)) i 0 ≡ get_or (later b) i 0
    at_place i (inl kept) = (kept (earlier b)).0 ∙ (kept b).1 ∙ sym (kept b).0
    at_place i (inr settled) = settled (earlier b) b (o.long b).1

-- it is so of nothing over nothing, of two writes over two, of a byte over a byte, and so of a number over a number
pub over_nothing : Over (λ b. b) (λ b. b)
over_nothing = record { long = λ b. (refl, refl); places = λ i. inl (λ b. (refl, refl)) }

pub over_then : {later later' earlier earlier' : List ℕ → List ℕ} → Over later earlier → Over later' earlier'
    → Over (λ b. later' (later b)) (λ b. earlier' (earlier b))
over_then {later} {later'} {earlier} {earlier'} o o' = record {
  long = λ b. ((o'.long (later b)).0 ∙ (o.long b).0, (o'.long (earlier b)).1 ∙ (o.long b).1);
  places = λ i. both i (o.places i) (o'.places i);
}
  where
    both : (i : ℕ) → Settled later earlier i → Settled later' earlier' i
        → Settled (λ b. later' (later b)) (λ b. earlier' (earlier b)) i
    both i (inl kept) (inl kept') = inl (λ b. ((kept' (later b)).0 ∙ (kept b).0, (kept' (earlier b)).1 ∙ (kept b).1))
    both i (inr settled) (inl kept') = inr (λ a b same. (kept' (later a)).0 ∙ settled a b same ∙ sym (kept' (later b)).0)
    both i (inl kept) (inr settled') = inr (λ a b same. settled' (later a) (later b) ((o.long a).0 ∙ same ∙ sym (o.long b).0))
    both i (inr settled) (inr settled') = inr (λ a b same. settled' (later a) (later b) ((o.long a).0 ∙ same ∙ sym (o.long b).0))

over_byte : (at x y : ℕ) → Over (λ b. set b at x) (λ b. set b at y)
over_byte at x y = record {
  long = λ b. (length-set b at x, length-set b at y);
  places = λ i. by_place i (ℕ_discrete i at);
}
  where
    inside_or_out : (a b : List ℕ) → length a ≡ length b → (t : Bool) → ltb at (length a) ≡ t
        → get_or (set a at x) at 0 ≡ get_or (set b at x) at 0
    inside_or_out a b same true inside =
        get_or-set_same a at x 0 (ltb-true _ _ inside) ∙ sym (get_or-set_same b at x 0 (omega (arith, ltb-true at (length a) inside)))
    inside_or_out a b same false out =
        let past : length a ≤ at = ltb-false at (length a) out in
        ap (λ (l : List ℕ). get_or l at 0) (set_out a at x past)
        ∙ get_or-eq_default a 0 past
        ∙ sym (ap (λ (l : List ℕ). get_or l at 0) (set_out b at x (omega arith)) ∙ get_or-eq_default b 0 (omega arith))

    by_place : (i : ℕ) → Dec (i ≡ at) → Settled (λ b. set b at x) (λ b. set b at y) i
    by_place i (yes here) = inr (λ a b same. rw here (inside_or_out a b same (ltb at (length a)) refl))
    by_place i (no other) = inl (λ b. (get_or-set_other b at i x 0 other, get_or-set_other b at i y 0 other))

pub over_number : (n x y at : ℕ) → Over (λ b. write_bytes n x b at) (λ b. write_bytes n y b at)
unfolding write_bytes
over_number zero x y at = over_nothing
over_number (suc n) x y at = over_then (over_byte at (x % 256) (y % 256)) (over_number n (x / 256) (y / 256) (suc at))
